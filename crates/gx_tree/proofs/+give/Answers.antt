use Rattle.std.proofs.Common.{rules, ◌≡◌, ◌≢◌, [], None, Ok, Some, drop, get_or, not, refl, sym, ap, ◌∙◌, arith, false, subst}
use Rattle.std.proofs.lemmas.Bool.{and_parts, true≢false}
use Rattle.gx_tree.specs.Homes.{AreAtHome, IsItemAtHome}
use Rattle.gx_tree.specs.Nodes.{IsLevel, files, kept_at}
use Rattle.gx_tree.specs.Rooms.{Changes, IsReach}
use Rattle.gx_tree.specs.Steps.{kept_removed}
use Rattle.gx_tree.specs.Views.{RemembersBelow, shown_entries, shown_item}
use Rattle.gx_tree.proofs.Below.{no_root_before}
use Rattle.gx_tree.proofs.Changed.{changed_at, gone_at, gone_reach, left_at, none_gone}
use Rattle.gx_tree.proofs.EditSteps.{kept_removed_file, kept_removed_folder}
use Rattle.gx_tree.proofs.Homes.{all_at, entries_at_home, items_are_those, made_at_home}
use Rattle.gx_tree.proofs.InPlace.{all_set}
use Rattle.gx_tree.proofs.+give.Goals as goal

pub directory::Directory::give-returns-clause-home : goal.directory::Directory::give-returns-clause-home
directory::Directory::give-returns-clause-home g t c = λ name rs h.
    made_at_home name rs c.give_in.new.entries.value.items c.in_ok-reach.ensures.level (c.give_in.ensures.home name rs (entries_at_home name rs c.self.inside.remembered c.self.inside.entries.value.items c.args.self.now c.self.view_is c.self.invariant.0 h))

pub directory::Item::give-returns-in_ok-land-in-File-clause-left : goal.directory::Item::give-returns-in_ok-land-in-File-clause-left
directory::Item::give-returns-in_ok-land-in-File-clause-left g t c = λ is.
    let q = drop c.args.depth c.args.path.now in
    let n = no_root_before c.args.path.now c.args.depth (omega (arith, c.requires.within, c.if-depth-len.false, c.len.ensures.length)) in
    subst (λ i. Some (shown_item i) ≡ kept_removed q (Some (shown_item i))) (sym c.in-File.is) (kept_removed_file q (c.in-File.field-0, c.in-File.field-1.bytes) n)

pub directory::Item::give-returns-in_ok-give-in-Folder-clause-left : goal.directory::Item::give-returns-in_ok-give-in-Folder-clause-left
directory::Item::give-returns-in_ok-give-in-Folder-clause-left g t c = λ is.
    let q = drop c.args.depth c.args.path.now in
    let n = no_root_before c.args.path.now c.args.depth (omega (arith, c.requires.within, c.if-depth-len.false, c.len.ensures.length)) in
    let e : not c.is_empty.result ≡ not false = cc in
    let some : c.give.new.self.files ≢ [] = λ z. true≢false (sym e ∙ ap not (c.is_empty.ensures.1 z)) in
    kept_removed_folder q c.in-Folder.below.files c.give.new.self.files n c.in_ok-give-in-Folder.ensures.files some ∙ ap (λ i. kept_removed q (Some (shown_item i))) (sym c.in-Folder.is)

pub directory::Item::give-returns-in_ok-give-in-Folder-clause-home : goal.directory::Item::give-returns-in_ok-give-in-Folder-clause-home
directory::Item::give-returns-in_ok-give-in-Folder-clause-home g t c = λ name rs h. c.give.ensures.home name rs (subst (IsItemAtHome name rs) c.in-Folder.is h)

pub moving::give_among-returns-in_ok-land-in-None-clause-files : goal.moving::give_among-returns-in_ok-land-in-None-clause-files
moving::give_among-returns-in_ok-land-in-None-clause-files g t c =
    (none_gone c.component.result.now c.args.path.now c.args.depth c.args.entries.now.items c.requires.within (and_parts _ _ c.component.ensures.path).0 c.requires.level c.component.ensures.component (subst (λ z. kept_at c.component.result.now (shown_entries z) ≡ None) c.deref.ensures.value (c.in-None.ensures.missing refl))).is

pub moving::give_at-reach_after-requires-clause-level : goal.moving::give_at-reach_after-requires-clause-level
moving::give_at-reach_after-requires-clause-level g t c =
    let r = c.index_mut.result.now in
    subst (λ z. IsLevel (shown_entries z)) (sym c.deref.ensures.value) (left_at (get_or c.args.path.now c.args.depth []) c.args.path.now c.args.depth c.args.place c.args.entries.now.items r _ c.requires.within (and_parts _ _ c.len.ensures.path).0 c.requires.level refl c.requires.place c.index_mut.ensures.value refl (c.in_ok-is_left.ensures.mark (ap Ok c.if-is_left.true)) (c.in_ok-is_left.ensures.left (ap Ok c.if-is_left.true))).level

pub moving::give_at-reach_after-requires-clause-changes : goal.moving::give_at-reach_after-requires-clause-changes
moving::give_at-reach_after-requires-clause-changes g t c =
    let r = c.index_mut.result.now in
    let level = (left_at (get_or c.args.path.now c.args.depth []) c.args.path.now c.args.depth c.args.place c.args.entries.now.items r _ c.requires.within (and_parts _ _ c.len.ensures.path).0 c.requires.level refl c.requires.place c.index_mut.ensures.value refl (c.in_ok-is_left.ensures.mark (ap Ok c.if-is_left.true)) (c.in_ok-is_left.ensures.left (ap Ok c.if-is_left.true))).level in
    subst (λ z. Changes c.args.reach c.reach-before.result c.reach-after.result (files (shown_entries z))) (sym c.deref.ensures.value) (changed_at (get_or c.args.path.now c.args.depth []) c.args.entries.now.items c.args.place r c.index.result.now _ c.index-then-is_left.result.now c.args.reach c.requires.level level c.requires.place c.index_mut.ensures.value c.index.ensures refl (c.in_ok-is_left.ensures.mark (ap Ok c.if-is_left.true)) c.requires.reach c.reach-before.ensures c.index-then-is_left.ensures c.reach-after.ensures)

pub moving::give_at-returns-then-is_left-clause-level : goal.moving::give_at-returns-then-is_left-clause-level
moving::give_at-returns-then-is_left-clause-level g t c =
    (left_at (get_or c.args.path.now c.args.depth []) c.args.path.now c.args.depth c.args.place c.args.entries.now.items c.index_mut.result.now _ c.requires.within (and_parts _ _ c.len.ensures.path).0 c.requires.level refl c.requires.place c.index_mut.ensures.value refl (c.in_ok-is_left.ensures.mark (ap Ok c.if-is_left.true)) (c.in_ok-is_left.ensures.left (ap Ok c.if-is_left.true))).level

pub moving::give_at-returns-then-is_left-clause-files : goal.moving::give_at-returns-then-is_left-clause-files
moving::give_at-returns-then-is_left-clause-files g t c =
    (left_at (get_or c.args.path.now c.args.depth []) c.args.path.now c.args.depth c.args.place c.args.entries.now.items c.index_mut.result.now _ c.requires.within (and_parts _ _ c.len.ensures.path).0 c.requires.level refl c.requires.place c.index_mut.ensures.value refl (c.in_ok-is_left.ensures.mark (ap Ok c.if-is_left.true)) (c.in_ok-is_left.ensures.left (ap Ok c.if-is_left.true))).is

pub moving::give_at-returns-then-is_left-clause-home : goal.moving::give_at-returns-then-is_left-clause-home
moving::give_at-returns-then-is_left-clause-home g t c = λ name rs h.
    let es = c.args.entries.now.items in
    let r = c.index_mut.result.now in
    all_set (λ e. IsItemAtHome name rs e.item) es c.args.place _ h (c.give.ensures.home name rs (all_at (λ e. IsItemAtHome name rs e.item) es c.args.place r c.requires.place.0 c.index_mut.ensures.value h))

pub moving::give_at-reach_after-requires-2-clause-level : goal.moving::give_at-reach_after-requires-2-clause-level
moving::give_at-reach_after-requires-2-clause-level g t c =
    subst (λ z. IsLevel (shown_entries z)) (sym c.deref-2.ensures.value) (gone_at (get_or c.args.path.now c.args.depth []) c.args.path.now c.args.depth c.args.place c.args.entries.now.items c.remove.new.self.items c.index_mut.result.now _ c.requires.within (and_parts _ _ c.len.ensures.path).0 c.requires.level refl c.requires.place c.index_mut.ensures.value (c.in_ok-is_left.ensures.gone (ap Ok c.if-is_left.false)) c.remove.ensures.items).level

pub moving::give_at-reach_after-requires-2-clause-changes : goal.moving::give_at-reach_after-requires-2-clause-changes
moving::give_at-reach_after-requires-2-clause-changes g t c =
    subst (λ z. Changes c.args.reach c.reach-before.result 0 (files (shown_entries z))) (sym c.deref-2.ensures.value) (gone_reach (get_or c.args.path.now c.args.depth []) c.args.entries.now.items c.remove.new.self.items c.args.place c.index_mut.result.now c.index.result.now _ c.args.reach c.requires.level c.requires.place c.index_mut.ensures.value c.index.ensures c.remove.ensures.items c.requires.reach c.reach-before.ensures)

pub moving::give_at-returns-clause-level : goal.moving::give_at-returns-clause-level
moving::give_at-returns-clause-level g t c =
    (gone_at (get_or c.args.path.now c.args.depth []) c.args.path.now c.args.depth c.args.place c.args.entries.now.items c.remove.new.self.items c.index_mut.result.now _ c.requires.within (and_parts _ _ c.len.ensures.path).0 c.requires.level refl c.requires.place c.index_mut.ensures.value (c.in_ok-is_left.ensures.gone (ap Ok c.if-is_left.false)) c.remove.ensures.items).level

pub moving::give_at-returns-clause-files : goal.moving::give_at-returns-clause-files
moving::give_at-returns-clause-files g t c =
    (gone_at (get_or c.args.path.now c.args.depth []) c.args.path.now c.args.depth c.args.place c.args.entries.now.items c.remove.new.self.items c.index_mut.result.now _ c.requires.within (and_parts _ _ c.len.ensures.path).0 c.requires.level refl c.requires.place c.index_mut.ensures.value (c.in_ok-is_left.ensures.gone (ap Ok c.if-is_left.false)) c.remove.ensures.items).is

pub moving::give_in-returns-in-Some-clause-home : goal.moving::give_in-returns-in-Some-clause-home
moving::give_in-returns-in-Some-clause-home g t c = λ name rs h. c.give_among.ensures.home name rs (subst (λ v. AreAtHome name rs v.items) (sym c.in-Some.ensures.value) h)

pub moving::give_in-returns-in_ok-reach-in-None-clause-home : goal.moving::give_in-returns-in_ok-reach-in-None-clause-home
moving::give_in-returns-in_ok-reach-in-None-clause-home g t c = λ name rs h.
    c.give_among-in-None.ensures.home name rs (subst (λ v. AreAtHome name rs v.items) (sym (c.in-Some-get_mut.ensures.value ∙ c.in_ok-copy-in-None-2.ensures.ok)) (c.in_ok-copy-in-None.ensures.home name rs (subst (AreAtHome name rs) (sym (items_are_those c.as_slice.ensures.value c.deref.ensures)) h)))

pub directory::Directory::give-give_in-requires : goal.directory::Directory::give-give_in-requires
directory::Directory::give-give_in-requires g t c κs within =
    (search rules, (within, (c.requires.within, (c.requires.lands, (c.self.invariant.0, c.self.invariant.2)))))

pub directory::Directory::give-invariant_of-self : goal.directory::Directory::give-invariant_of-self
directory::Directory::give-invariant_of-self g t c =
    subst (λ z. IsLevel (shown_entries z) × RemembersBelow c.self.inside.remembered z × IsReach c.self.inside.reach (files (shown_entries z))) (sym c.in_err-reach.ensures.unchanged) c.self.invariant

pub directory::Directory::give-invariant_of-self-2 : goal.directory::Directory::give-invariant_of-self-2
directory::Directory::give-invariant_of-self-2 g t c = (c.in_ok-reach.ensures.level, tt, c.in_ok-reach.ensures.reach)
