use Rattle.std.proofs.Common.{◌≡◌, ◌≢◌, [], None, Ok, Some, drop, get_or, not, refl, sym, ap, ◌∙◌, arith, false, subst}
use Rattle.std.proofs.lemmas.Bool.{and_parts, true≢false}
use Rattle.gx_tree.specs.Homes.{AreAtHome, IsItemAtHome}
use Rattle.gx_tree.specs.Nodes.{IsLevel, files, kept_at}
use Rattle.gx_tree.specs.Rooms.{Changes}
use Rattle.gx_tree.specs.Steps.{kept_removed}
use Rattle.gx_tree.specs.Views.{shown_entries, shown_item}
use Rattle.gx_tree.proofs.Below.{no_root_before}
use Rattle.gx_tree.proofs.Changed.{changed_at, gone_at, gone_reach, left_at, left_is, none_gone, went_is}
use Rattle.gx_tree.proofs.EditSteps.{kept_removed_file, kept_removed_folder}
use Rattle.gx_tree.proofs.Homes.{all_at, entries_at_home, items_are_those, made_at_home}
use Rattle.gx_tree.proofs.InPlace.{all_set}
use Rattle.gx_tree.proofs.+remove.Goals as goal

pub directory::Directory::remove-returns-clause-home : goal.directory::Directory::remove-returns-clause-home
directory::Directory::remove-returns-clause-home g t c = λ name rs h.
    made_at_home name rs c.remove_in.new.entries.value.items c.in_ok-reach.ensures.level (c.remove_in.ensures.home name rs (entries_at_home name rs c.self.inside.remembered c.self.inside.entries.value.items c.args.self.now c.self.view_is c.self.invariant.0 h))

pub directory::Item::remove-returns-in-File-clause-left : goal.directory::Item::remove-returns-in-File-clause-left
directory::Item::remove-returns-in-File-clause-left g t c = λ is.
    let q = drop c.args.depth c.args.path.now in
    let n = no_root_before c.args.path.now c.args.depth (omega (arith, c.requires, c.if-depth-len.false, c.len.ensures.length)) in
    subst (λ i. Some (shown_item i) ≡ kept_removed q (Some (shown_item i))) (sym c.in-File.is) (kept_removed_file q (c.in-File.field-0, c.in-File.field-1.bytes) n)

pub directory::Item::remove-returns-in_ok-remove-in-Folder-clause-left : goal.directory::Item::remove-returns-in_ok-remove-in-Folder-clause-left
directory::Item::remove-returns-in_ok-remove-in-Folder-clause-left g t c = λ is.
    let q = drop c.args.depth c.args.path.now in
    let n = no_root_before c.args.path.now c.args.depth (omega (arith, c.requires, c.if-depth-len.false, c.len.ensures.length)) in
    let e : not c.is_empty.result ≡ not false = cc in
    let some : c.remove.new.self.files ≢ [] = λ z. true≢false (sym e ∙ ap not (c.is_empty.ensures.1 z)) in
    kept_removed_folder q c.in-Folder.below.files c.remove.new.self.files n c.in_ok-remove-in-Folder.ensures.files some ∙ ap (λ i. kept_removed q (Some (shown_item i))) (sym c.in-Folder.is)

pub directory::Item::remove-returns-in_ok-remove-in-Folder-clause-home : goal.directory::Item::remove-returns-in_ok-remove-in-Folder-clause-home
directory::Item::remove-returns-in_ok-remove-in-Folder-clause-home g t c = λ name rs h. c.remove.ensures.home name rs (subst (IsItemAtHome name rs) c.in-Folder.is h)

pub removing::remove_among-returns-in-None-clause-files : goal.removing::remove_among-returns-in-None-clause-files
removing::remove_among-returns-in-None-clause-files g t c =
    (none_gone c.component.result.now c.args.path.now c.args.depth c.args.entries.now.items c.requires.within (and_parts _ _ c.component.ensures.path).0 c.requires.level c.component.ensures.component (subst (λ z. kept_at c.component.result.now (shown_entries z) ≡ None) c.deref.ensures.value (c.in-None.ensures.missing refl))).is

pub removing::remove_at-reach_after-requires-clause-level : goal.removing::remove_at-reach_after-requires-clause-level
removing::remove_at-reach_after-requires-clause-level g t c =
    let r = c.index_mut.result.now in
    subst (λ z. IsLevel (shown_entries z)) (sym c.deref.ensures.value) (left_at (get_or c.args.path.now c.args.depth []) c.args.path.now c.args.depth c.args.place c.args.entries.now.items r _ c.requires.within (and_parts _ _ c.len.ensures.path).0 c.requires.level refl c.requires.place c.index_mut.ensures.value refl (c.in_ok-remove.ensures.mark (ap Ok c.if-branch.true)) (c.in_ok-remove.ensures.left (ap Ok c.if-branch.true))).level

pub removing::remove_at-reach_after-requires-clause-changes : goal.removing::remove_at-reach_after-requires-clause-changes
removing::remove_at-reach_after-requires-clause-changes g t c =
    let r = c.index_mut.result.now in
    let level = (left_at (get_or c.args.path.now c.args.depth []) c.args.path.now c.args.depth c.args.place c.args.entries.now.items r _ c.requires.within (and_parts _ _ c.len.ensures.path).0 c.requires.level refl c.requires.place c.index_mut.ensures.value refl (c.in_ok-remove.ensures.mark (ap Ok c.if-branch.true)) (c.in_ok-remove.ensures.left (ap Ok c.if-branch.true))).level in
    subst (λ z. Changes c.args.reach c.reach-before.result c.reach-after.result (files (shown_entries z))) (sym c.deref.ensures.value) (changed_at (get_or c.args.path.now c.args.depth []) c.args.entries.now.items c.args.place r c.index.result.now _ c.index-then-branch.result.now c.args.reach c.requires.level level c.requires.place c.index_mut.ensures.value c.index.ensures refl (c.in_ok-remove.ensures.mark (ap Ok c.if-branch.true)) c.requires.reach c.reach-before.ensures c.index-then-branch.ensures c.reach-after.ensures)

pub removing::remove_at-returns-then-branch-clause-level : goal.removing::remove_at-returns-then-branch-clause-level
removing::remove_at-returns-then-branch-clause-level g t c =
    (left_at (get_or c.args.path.now c.args.depth []) c.args.path.now c.args.depth c.args.place c.args.entries.now.items c.index_mut.result.now _ c.requires.within (and_parts _ _ c.len.ensures.path).0 c.requires.level refl c.requires.place c.index_mut.ensures.value refl (c.in_ok-remove.ensures.mark (ap Ok c.if-branch.true)) (c.in_ok-remove.ensures.left (ap Ok c.if-branch.true))).level

pub removing::remove_at-returns-then-branch-clause-files : goal.removing::remove_at-returns-then-branch-clause-files
removing::remove_at-returns-then-branch-clause-files g t c =
    (left_at (get_or c.args.path.now c.args.depth []) c.args.path.now c.args.depth c.args.place c.args.entries.now.items c.index_mut.result.now _ c.requires.within (and_parts _ _ c.len.ensures.path).0 c.requires.level refl c.requires.place c.index_mut.ensures.value refl (c.in_ok-remove.ensures.mark (ap Ok c.if-branch.true)) (c.in_ok-remove.ensures.left (ap Ok c.if-branch.true))).is

pub removing::remove_at-returns-then-branch-clause-entries : goal.removing::remove_at-returns-then-branch-clause-entries
removing::remove_at-returns-then-branch-clause-entries g t c =
    left_is (get_or c.args.path.now c.args.depth []) c.args.path.now c.args.depth c.args.place c.args.entries.now.items c.index_mut.result.now _ c.requires.within c.requires.level refl c.requires.place c.index_mut.ensures.value refl (c.in_ok-remove.ensures.mark (ap Ok c.if-branch.true)) (c.in_ok-remove.ensures.left (ap Ok c.if-branch.true))

pub removing::remove_at-returns-then-branch-clause-home : goal.removing::remove_at-returns-then-branch-clause-home
removing::remove_at-returns-then-branch-clause-home g t c = λ name rs h.
    let es = c.args.entries.now.items in
    let r = c.index_mut.result.now in
    all_set (λ e. IsItemAtHome name rs e.item) es c.args.place _ h (c.remove.ensures.home name rs (all_at (λ e. IsItemAtHome name rs e.item) es c.args.place r c.requires.place.0 c.index_mut.ensures.value h))

pub removing::remove_at-reach_after-requires-2-clause-level : goal.removing::remove_at-reach_after-requires-2-clause-level
removing::remove_at-reach_after-requires-2-clause-level g t c =
    subst (λ z. IsLevel (shown_entries z)) (sym c.deref-2.ensures.value) (gone_at (get_or c.args.path.now c.args.depth []) c.args.path.now c.args.depth c.args.place c.args.entries.now.items c.remove-2.new.self.items c.index_mut.result.now _ c.requires.within (and_parts _ _ c.len.ensures.path).0 c.requires.level refl c.requires.place c.index_mut.ensures.value (c.in_ok-remove.ensures.gone (ap Ok c.if-branch.false)) c.remove-2.ensures.items).level

pub removing::remove_at-reach_after-requires-2-clause-changes : goal.removing::remove_at-reach_after-requires-2-clause-changes
removing::remove_at-reach_after-requires-2-clause-changes g t c =
    subst (λ z. Changes c.args.reach c.reach-before.result 0 (files (shown_entries z))) (sym c.deref-2.ensures.value) (gone_reach (get_or c.args.path.now c.args.depth []) c.args.entries.now.items c.remove-2.new.self.items c.args.place c.index_mut.result.now c.index.result.now _ c.args.reach c.requires.level c.requires.place c.index_mut.ensures.value c.index.ensures c.remove-2.ensures.items c.requires.reach c.reach-before.ensures)

pub removing::remove_at-returns-clause-level : goal.removing::remove_at-returns-clause-level
removing::remove_at-returns-clause-level g t c =
    (gone_at (get_or c.args.path.now c.args.depth []) c.args.path.now c.args.depth c.args.place c.args.entries.now.items c.remove-2.new.self.items c.index_mut.result.now _ c.requires.within (and_parts _ _ c.len.ensures.path).0 c.requires.level refl c.requires.place c.index_mut.ensures.value (c.in_ok-remove.ensures.gone (ap Ok c.if-branch.false)) c.remove-2.ensures.items).level

pub removing::remove_at-returns-clause-files : goal.removing::remove_at-returns-clause-files
removing::remove_at-returns-clause-files g t c =
    (gone_at (get_or c.args.path.now c.args.depth []) c.args.path.now c.args.depth c.args.place c.args.entries.now.items c.remove-2.new.self.items c.index_mut.result.now _ c.requires.within (and_parts _ _ c.len.ensures.path).0 c.requires.level refl c.requires.place c.index_mut.ensures.value (c.in_ok-remove.ensures.gone (ap Ok c.if-branch.false)) c.remove-2.ensures.items).is

pub removing::remove_at-returns-clause-entries : goal.removing::remove_at-returns-clause-entries
removing::remove_at-returns-clause-entries g t c =
    went_is (get_or c.args.path.now c.args.depth []) c.args.path.now c.args.depth c.args.place c.args.entries.now.items c.remove-2.new.self.items c.index_mut.result.now _ c.requires.within c.requires.level refl c.requires.place c.index_mut.ensures.value (c.in_ok-remove.ensures.gone (ap Ok c.if-branch.false)) c.remove-2.ensures.items

pub removing::remove_in-returns-in-Some-clause-home : goal.removing::remove_in-returns-in-Some-clause-home
removing::remove_in-returns-in-Some-clause-home g t c = λ name rs h. c.remove_among.ensures.home name rs (subst (λ v. AreAtHome name rs v.items) (sym c.in-Some.ensures.value) h)

pub removing::remove_in-returns-in_ok-entries-in-None-clause-home : goal.removing::remove_in-returns-in_ok-entries-in-None-clause-home
removing::remove_in-returns-in_ok-entries-in-None-clause-home g t c = λ name rs h.
    subst (λ v. AreAtHome name rs v.items) (sym c.in_ok-entries-in-None.ensures.ok) (c.remove_among-in-None.ensures.home name rs (c.in_ok-copy-in-None.ensures.home name rs (subst (AreAtHome name rs) (sym (items_are_those c.as_slice.ensures.value c.deref.ensures)) h)))
