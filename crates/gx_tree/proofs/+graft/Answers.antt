use Rattle.std.proofs.Common.{◌≡◌, ◌+◌, [], None, Some, drop, get_or, refl, sym, ap, ◌∙◌, arith, subst}
use Rattle.std.proofs.lemmas.Bool.{and_parts}
use Rattle.std.proofs.lemmas.Result.{on_ok_weaker}
use Rattle.gx_tree.specs.Homes.{AreAtHome, IsItemAtHome}
use Rattle.gx_tree.specs.Named.{IsAtHome}
use Rattle.gx_tree.specs.Nodes.{IsKept, IsLevel, files, folder, kept_at, kept_map}
use Rattle.gx_tree.specs.Rooms.{Changes, IsReach}
use Rattle.gx_tree.specs.Searches.{IsEntryAt}
use Rattle.gx_tree.specs.Steps.{grafted, kept_grafted}
use Rattle.gx_tree.specs.Views.{shown_item, shown_entries}
use Rattle.gx_tree.proofs.Below.{no_root_before}
use Rattle.gx_tree.proofs.Changed.{anew_end, anew_file, changed_at, grafted_at, grafted_new}
use Rattle.gx_tree.proofs.EditSteps.{grafted_from, grafted_whole, inner_at, kept_grafted_folder}
use Rattle.gx_tree.proofs.Grafts.{IsKept-grafted}
use Rattle.gx_tree.proofs.Homes.{all_at, entries_at_home, files_same, items_are_those, made_at_home}
use Rattle.gx_tree.proofs.InPlace.{all_set, standing}
use Rattle.gx_tree.proofs.Rooms.{come}
use Rattle.gx_tree.proofs.+graft.Goals as goal
use Rattle.gx_tree.proofs.+graft.Goals.{grafting::graft_at-else-depth-length-via-then-depth-length+else-is_folder, grafting::graft_at-else-depth-length-via-else-depth-length}

pub directory::Directory::graft-returns-clause-home : goal.directory::Directory::graft-returns-clause-home
directory::Directory::graft-returns-clause-home g t c = λ name rs h.
    made_at_home name rs c.graft_in.new.entries.value.items c.in_ok-reach.ensures.level (c.in_ok-reach.ensures.home name rs (h.0, entries_at_home name rs c.self.inside.remembered c.self.inside.entries.value.items c.args.self.now c.self.view_is c.self.invariant.0 h.1))

pub directory::Directory::of_item-returns-clause-files : goal.directory::Directory::of_item-returns-clause-files
directory::Directory::of_item-returns-clause-files g t c =
    c.in_ok-graft.ensures.files ∙ ap (grafted (drop c.args.depth c.args.path.now) (kept_map (shown_item c.args.item.now))) (files_same c.in_ok-directory.ensures)

pub directory::Directory::of_item-returns-clause-home : goal.directory::Directory::of_item-returns-clause-home
directory::Directory::of_item-returns-clause-home g t c = λ name rs h. c.in_ok-graft.ensures.home name rs (h, subst (IsAtHome name rs) (sym c.in_ok-directory.ensures) tt)

pub directory::Item::graft-returns-clause-kept : goal.directory::Item::graft-returns-clause-kept
directory::Item::graft-returns-clause-kept g t c =
    let q = drop c.args.depth c.args.path.now in
    let k = shown_item c.args.item.now in
    on_ok_weaker c.graft.result (λ e. ap folder e ∙ kept_grafted_folder q k (Some (folder c.in-Folder.below.files)) (no_root_before c.args.path.now c.args.depth c.requires.within) ∙ ap (λ i. kept_grafted q k (Some (shown_item i))) (sym c.in-Folder.is)) c.graft.ensures.files

pub directory::Item::graft-returns-clause-home : goal.directory::Item::graft-returns-clause-home
directory::Item::graft-returns-clause-home g t c = on_ok_weaker c.graft.result (λ keeps name rs h. keeps name rs (h.0, subst (IsItemAtHome name rs) c.in-Folder.is h.1)) c.graft.ensures.home

pub grafting::graft_among-returns-in_ok-far-in-None-clause-level : goal.grafting::graft_among-returns-in_ok-far-in-None-clause-level
grafting::graft_among-returns-in_ok-far-in-None-clause-level g t c =
    let none = subst (λ z. kept_at c.component-component.result.now (shown_entries z) ≡ None) c.deref.ensures.value (c.in-None.ensures.missing refl) in
    (grafted_new c.component-component.result.now c.args.path.now c.args.depth (shown_item c.args.item.now) c.args.entries.now.items c.insert_entry.new.entries.items c.requires.within (and_parts _ _ c.component-component.ensures.path).0 c.requires.kept c.requires.level c.component-component.ensures.component none c.in_ok-new-in-None.ensures.kept c.in_ok-far-in-None.ensures.entries).level

pub grafting::graft_among-returns-in_ok-far-in-None-clause-files : goal.grafting::graft_among-returns-in_ok-far-in-None-clause-files
grafting::graft_among-returns-in_ok-far-in-None-clause-files g t c =
    let none = subst (λ z. kept_at c.component-component.result.now (shown_entries z) ≡ None) c.deref.ensures.value (c.in-None.ensures.missing refl) in
    (grafted_new c.component-component.result.now c.args.path.now c.args.depth (shown_item c.args.item.now) c.args.entries.now.items c.insert_entry.new.entries.items c.requires.within (and_parts _ _ c.component-component.ensures.path).0 c.requires.kept c.requires.level c.component-component.ensures.component none c.in_ok-new-in-None.ensures.kept c.in_ok-far-in-None.ensures.entries).is

pub grafting::graft_among-returns-in_ok-far-in-None-clause-reach : goal.grafting::graft_among-returns-in_ok-far-in-None-clause-reach
grafting::graft_among-returns-in_ok-far-in-None-clause-reach g t c =
    let none = subst (λ z. kept_at c.component-component.result.now (shown_entries z) ≡ None) c.deref.ensures.value (c.in-None.ensures.missing refl) in
    let level = (grafted_new c.component-component.result.now c.args.path.now c.args.depth (shown_item c.args.item.now) c.args.entries.now.items c.insert_entry.new.entries.items c.requires.within (and_parts _ _ c.component-component.ensures.path).0 c.requires.kept c.requires.level c.component-component.ensures.component none c.in_ok-new-in-None.ensures.kept c.in_ok-far-in-None.ensures.entries).level in
    subst (λ n. IsReach n (files (shown_entries c.insert_entry.new.entries.items))) (sym c.max.ensures) (come c.component-component.result.now (shown_item c.in_ok-new-in-None.new) c.args.reach (shown_entries c.args.entries.now.items) (shown_entries c.insert_entry.new.entries.items) level none c.in_ok-far-in-None.ensures.entries c.requires.reach c.in_ok-far-in-None.ensures.reach)

pub grafting::graft_among-returns-in_ok-far-in-None-clause-home : goal.grafting::graft_among-returns-in_ok-far-in-None-clause-home
grafting::graft_among-returns-in_ok-far-in-None-clause-home g t c = λ name rs h. c.in_ok-far-in-None.ensures.home name rs (c.in_ok-new-in-None.ensures.home name rs h.0, h.1)

pub grafting::graft_at-reach_after-requires-clause-level : goal.grafting::graft_at-reach_after-requires-clause-level
grafting::graft_at-reach_after-requires-clause-level g t c =
    subst (λ z. IsLevel (shown_entries z)) (sym c.deref.ensures.value) (grafted_at (get_or c.args.path.now c.args.depth []) c.args.path.now c.args.depth c.args.place (shown_item c.args.item.now) c.args.entries.now.items c.index_mut.result.now _ c.requires.within (and_parts _ _ c.len-length.ensures.path).0 c.requires.kept c.requires.level refl c.requires.place c.index_mut.ensures.value refl c.in_ok-graft.ensures.mark c.in_ok-graft.ensures.kept).level

pub grafting::graft_at-reach_after-requires-clause-changes : goal.grafting::graft_at-reach_after-requires-clause-changes
grafting::graft_at-reach_after-requires-clause-changes g t c =
    let level = (grafted_at (get_or c.args.path.now c.args.depth []) c.args.path.now c.args.depth c.args.place (shown_item c.args.item.now) c.args.entries.now.items c.index_mut.result.now _ c.requires.within (and_parts _ _ c.len-length.ensures.path).0 c.requires.kept c.requires.level refl c.requires.place c.index_mut.ensures.value refl c.in_ok-graft.ensures.mark c.in_ok-graft.ensures.kept).level in
    subst (λ z. Changes c.args.reach c.reach-before.result c.reach-after.result (files (shown_entries z))) (sym c.deref.ensures.value) (changed_at (get_or c.args.path.now c.args.depth []) c.args.entries.now.items c.args.place c.index_mut.result.now c.index-then-is_folder.result.now _ c.index-then-is_folder-2.result.now c.args.reach c.requires.level level c.requires.place c.index_mut.ensures.value c.index-then-is_folder.ensures refl c.in_ok-graft.ensures.mark c.requires.reach c.reach-before.ensures c.index-then-is_folder-2.ensures c.reach-after.ensures)

pub grafting::graft_at-returns-then-is_folder-clause-level : goal.grafting::graft_at-returns-then-is_folder-clause-level
grafting::graft_at-returns-then-is_folder-clause-level g t c =
    (grafted_at (get_or c.args.path.now c.args.depth []) c.args.path.now c.args.depth c.args.place (shown_item c.args.item.now) c.args.entries.now.items c.index_mut.result.now _ c.requires.within (and_parts _ _ c.len-length.ensures.path).0 c.requires.kept c.requires.level refl c.requires.place c.index_mut.ensures.value refl c.in_ok-graft.ensures.mark c.in_ok-graft.ensures.kept).level

pub grafting::graft_at-returns-then-is_folder-clause-files : goal.grafting::graft_at-returns-then-is_folder-clause-files
grafting::graft_at-returns-then-is_folder-clause-files g t c =
    (grafted_at (get_or c.args.path.now c.args.depth []) c.args.path.now c.args.depth c.args.place (shown_item c.args.item.now) c.args.entries.now.items c.index_mut.result.now _ c.requires.within (and_parts _ _ c.len-length.ensures.path).0 c.requires.kept c.requires.level refl c.requires.place c.index_mut.ensures.value refl c.in_ok-graft.ensures.mark c.in_ok-graft.ensures.kept).is

pub grafting::graft_at-returns-then-is_folder-clause-home : goal.grafting::graft_at-returns-then-is_folder-clause-home
grafting::graft_at-returns-then-is_folder-clause-home g t c = λ name rs h.
    let es = c.args.entries.now.items in
    let r = c.index_mut.result.now in
    all_set (λ e. IsItemAtHome name rs e.item) es c.args.place _ h.1 (c.in_ok-graft.ensures.home name rs (h.0, all_at (λ e. IsItemAtHome name rs e.item) es c.args.place r c.requires.place.0 c.index_mut.ensures.value h.1))

pub grafting::graft_at-replace_at-requires-clause-kept : goal.grafting::graft_at-replace_at-requires-clause-kept
grafting::graft_at-replace_at-requires-clause-kept g t c =
    subst IsKept (sym c.in_ok-new.ensures.kept) (IsKept-grafted (drop (c.args.depth + 1) c.args.path.now) (shown_item c.args.item.now) None (and_parts _ _ (inner_at c.args.path.now c.args.depth c.requires.within c.component.ensures.component (and_parts _ _ c.len-length.ensures.path).0)).1 c.requires.kept tt)

pub grafting::graft_at-returns-clause-level : goal.grafting::graft_at-returns-clause-level
grafting::graft_at-returns-clause-level g t c =
    let k = shown_item c.args.item.now in
    let es = shown_entries c.args.entries.now.items in
    let q = drop (c.args.depth + 1) c.args.path.now in
    let new : shown_item c.in_ok-new.new ≡ kept_grafted q k (kept_at c.component.result.now es) = c.in_ok-new.ensures.kept ∙ elim c.else-depth-length.branch [
      | grafting::graft_at-else-depth-length-via-then-depth-length+else-is_folder w ↦ anew_file q k (shown_item w.index.result.now.item) (sym w.is_folder.ensures ∙ w.if-is_folder.false) ∙ ap (kept_grafted q k) (sym (standing c.component.result.now c.args.entries.now.items c.args.place w.index.result.now c.requires.level (subst (λ z. IsEntryAt z c.args.entries.now.items c.args.place) (sym c.component.ensures.component) c.requires.place) w.index.ensures))
      | grafting::graft_at-else-depth-length-via-else-depth-length w ↦ anew_end c.args.path.now c.args.depth k (kept_at c.component.result.now es) (omega (arith, w.if-depth-length.false, c.len-length.ensures.length, c.requires.within))
    ] in
    on_ok_weaker c.replace_at.result (λ e. (grafted_whole c.args.path.now c.args.depth k es _ c.requires.within (and_parts _ _ c.len-length.ensures.path).0 c.requires.kept c.requires.level (grafted_from c.component.result.now c.args.path.now c.args.depth k es _ c.requires.within c.component.ensures.component refl new e)).level) c.replace_at.ensures.entries

pub grafting::graft_at-returns-clause-files : goal.grafting::graft_at-returns-clause-files
grafting::graft_at-returns-clause-files g t c =
    let k = shown_item c.args.item.now in
    let es = shown_entries c.args.entries.now.items in
    let q = drop (c.args.depth + 1) c.args.path.now in
    let new : shown_item c.in_ok-new.new ≡ kept_grafted q k (kept_at c.component.result.now es) = c.in_ok-new.ensures.kept ∙ elim c.else-depth-length.branch [
      | grafting::graft_at-else-depth-length-via-then-depth-length+else-is_folder w ↦ anew_file q k (shown_item w.index.result.now.item) (sym w.is_folder.ensures ∙ w.if-is_folder.false) ∙ ap (kept_grafted q k) (sym (standing c.component.result.now c.args.entries.now.items c.args.place w.index.result.now c.requires.level (subst (λ z. IsEntryAt z c.args.entries.now.items c.args.place) (sym c.component.ensures.component) c.requires.place) w.index.ensures))
      | grafting::graft_at-else-depth-length-via-else-depth-length w ↦ anew_end c.args.path.now c.args.depth k (kept_at c.component.result.now es) (omega (arith, w.if-depth-length.false, c.len-length.ensures.length, c.requires.within))
    ] in
    on_ok_weaker c.replace_at.result (λ e. (grafted_whole c.args.path.now c.args.depth k es _ c.requires.within (and_parts _ _ c.len-length.ensures.path).0 c.requires.kept c.requires.level (grafted_from c.component.result.now c.args.path.now c.args.depth k es _ c.requires.within c.component.ensures.component refl new e)).is) c.replace_at.ensures.entries

pub grafting::graft_at-returns-clause-home : goal.grafting::graft_at-returns-clause-home
grafting::graft_at-returns-clause-home g t c = on_ok_weaker c.replace_at.result (λ keeps name rs h. keeps name rs (c.in_ok-new.ensures.home name rs h.0, h.1)) c.replace_at.ensures.home

pub grafting::graft_in-returns-in-Some-clause-home : goal.grafting::graft_in-returns-in-Some-clause-home
grafting::graft_in-returns-in-Some-clause-home g t c = on_ok_weaker c.graft_among.result (λ keeps name rs h. keeps name rs (h.0, subst (λ v. AreAtHome name rs v.items) (sym c.in-Some.ensures.value) h.1)) c.graft_among.ensures.home

pub grafting::graft_in-returns-in_ok-entries-in-None-clause-home : goal.grafting::graft_in-returns-in_ok-entries-in-None-clause-home
grafting::graft_in-returns-in_ok-entries-in-None-clause-home g t c = λ name rs h.
    subst (λ v. AreAtHome name rs v.items) (sym c.in_ok-entries-in-None.ensures.ok) (c.in_ok-reach-in-None.ensures.home name rs (h.0, c.in_ok-copy-in-None.ensures.home name rs (subst (AreAtHome name rs) (sym (items_are_those c.as_slice.ensures.value c.deref.ensures)) h.1)))

pub grafting::new_item-returns-clause-kept : goal.grafting::new_item-returns-clause-kept
grafting::new_item-returns-clause-kept g t c =
    let q = drop (c.args.depth + 1) c.args.path.now in
    let k = shown_item c.args.item.now in
    ap folder c.in_ok-of_item.ensures.files ∙ kept_grafted_folder q k None (no_root_before c.args.path.now (c.args.depth + 1) (omega (arith, c.requires.within, c.if-depth-length.false, c.len-length.ensures.length)))
