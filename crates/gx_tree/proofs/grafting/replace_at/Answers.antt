use Rattle.std.proofs.Common.{◌≡◌, true, refl, sym, ap, ◌∙◌, subst}
use Rattle.gx_model.specs.Texts.Paths.{is_component}
use Rattle.gx_tree.specs.Homes.{AreAtHome, IsItemAtHome}
use Rattle.gx_tree.specs.Nodes.{IsKept, IsLevel, files, is_folder, mark, with_kept}
use Rattle.gx_tree.specs.Rooms.{Changes, IsReach}
use Rattle.gx_tree.specs.Views.{shown_entries, shown_item}
use Rattle.gx_tree.proofs.Changed.{changed_at, read_twice, replaced_level, same_bools, same_mark}
use Rattle.gx_tree.proofs.InPlace.{all_set, set_at}
use Rattle.gx_tree.proofs.grafting.replace_at.Goals as goal

pub returns-then-is_folder-clause-entries : goal.returns-then-is_folder-clause-entries
returns-then-is_folder-clause-entries g c =
    let es = c.args.entries.now.items in
    let r = c.index_mut.result.now in
    let twice = read_twice es c.args.place r c.index-2.result.now c.requires.place.0 c.index_mut.ensures.value c.index-2.ensures in
    let marks : mark (shown_item c.args.item) ≡ mark (shown_item r.item) = same_mark (shown_item c.args.item) (shown_item r.item) (sym c.is_folder-2.ensures ∙ sym (same_bools _ _ c.if-is_folder.true) ∙ c.is_folder.ensures ∙ ap (λ e. is_folder (shown_item e.item)) twice) in
    set_at c.args.component.now es c.args.place r _ c.requires.level c.requires.place c.index_mut.ensures.value refl marks

pub returns-then-is_folder-clause-home : goal.returns-then-is_folder-clause-home
returns-then-is_folder-clause-home g c name rs h = all_set (λ e. IsItemAtHome name rs e.item) c.args.entries.now.items c.args.place _ h.1 h.0

pub reach_after-requires-clause-level : goal.reach_after-requires-clause-level
reach_after-requires-clause-level g c =
    let es = c.args.entries.now.items in
    let r = c.index_mut.result.now in
    let twice = read_twice es c.args.place r c.index-2.result.now c.requires.place.0 c.index_mut.ensures.value c.index-2.ensures in
    let marks : mark (shown_item c.args.item) ≡ mark (shown_item r.item) = same_mark (shown_item c.args.item) (shown_item r.item) (sym c.is_folder-2.ensures ∙ sym (same_bools _ _ c.if-is_folder.true) ∙ c.is_folder.ensures ∙ ap (λ e. is_folder (shown_item e.item)) twice) in
    subst (λ z. IsLevel (shown_entries z)) (sym c.deref.ensures.value) (replaced_level c.args.component.now (shown_item c.args.item) (shown_entries es) _ c.requires.component c.requires.kept c.requires.level (set_at c.args.component.now es c.args.place r _ c.requires.level c.requires.place c.index_mut.ensures.value refl marks))

pub reach_after-requires-clause-changes : goal.reach_after-requires-clause-changes
reach_after-requires-clause-changes g c =
    let es = c.args.entries.now.items in
    let r = c.index_mut.result.now in
    let twice = read_twice es c.args.place r c.index-2.result.now c.requires.place.0 c.index_mut.ensures.value c.index-2.ensures in
    let marks : mark (shown_item c.args.item) ≡ mark (shown_item r.item) = same_mark (shown_item c.args.item) (shown_item r.item) (sym c.is_folder-2.ensures ∙ sym (same_bools _ _ c.if-is_folder.true) ∙ c.is_folder.ensures ∙ ap (λ e. is_folder (shown_item e.item)) twice) in
    let level = replaced_level c.args.component.now (shown_item c.args.item) (shown_entries es) _ c.requires.component c.requires.kept c.requires.level (set_at c.args.component.now es c.args.place r _ c.requires.level c.requires.place c.index_mut.ensures.value refl marks) in
    subst (λ z. Changes c.args.reach c.reach-before.result c.reach-after.result (files (shown_entries z))) (sym c.deref.ensures.value) (changed_at c.args.component.now es c.args.place r c.index.result.now _ c.index-then-is_folder.result.now c.args.reach c.requires.level level c.requires.place c.index_mut.ensures.value c.index.ensures refl marks c.requires.reach c.reach-before.ensures c.index-then-is_folder.ensures c.reach-after.ensures)

pub put-requires-clause-component : goal.put-requires-clause-component
put-requires-clause-component g c = subst (λ z. is_component z ≡ true) (sym (ap (λ z. z.0) c.in_ok-new.ensures.seen)) c.requires.component

pub put-requires-clause-kept : goal.put-requires-clause-kept
put-requires-clause-kept g c = subst (λ i. IsKept (shown_item i)) (sym c.in_ok-new.ensures.item) c.requires.kept

pub put-requires-clause-level : goal.put-requires-clause-level
put-requires-clause-level g c = subst (λ z. IsLevel (shown_entries z)) (sym c.in_ok-reserve.ensures.items) c.requires.level

pub put-requires-clause-reach : goal.put-requires-clause-reach
put-requires-clause-reach g c = subst (λ z. IsReach c.args.reach (files (shown_entries z))) (sym c.in_ok-reserve.ensures.items) c.requires.reach

pub returns-clause-entries : goal.returns-clause-entries
returns-clause-entries g c =
    let b = c.args.component.now in
    let mid = shown_entries c.reserve.new.self.items in
    c.put.ensures.entries
    ∙ ap (λ z. with_kept z (shown_item c.in_ok-new.new.item) mid) (ap (λ z. z.0) c.in_ok-new.ensures.seen)
    ∙ ap (λ z. with_kept b (shown_item z) mid) c.in_ok-new.ensures.item
    ∙ ap (λ z. with_kept b (shown_item c.args.item) (shown_entries z)) c.in_ok-reserve.ensures.items

pub returns-clause-home : goal.returns-clause-home
returns-clause-home g c = λ name rs h.
    c.put.ensures.home name rs (subst (IsItemAtHome name rs) (sym c.in_ok-new.ensures.item) h.0, subst (AreAtHome name rs) (sym c.in_ok-reserve.ensures.items) h.1)
