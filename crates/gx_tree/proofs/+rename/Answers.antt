use Rattle.std.proofs.Common.{◌≡◌, [], None, Some, drop, get_or, refl, rules, sym, ap, ◌∙◌, arith, subst}
use Rattle.std.proofs.lemmas.Bool.{and_parts}
use Rattle.std.proofs.lemmas.Result.{on_ok_weaker}
use Rattle.gx_tree.specs.Homes.{AreAtHome, IsItemAtHome}
use Rattle.gx_tree.specs.Nodes.{IsLevel, files, folder, is_folder, kept_at, kept_map}
use Rattle.gx_tree.specs.Rooms.{Changes}
use Rattle.gx_tree.specs.Searches.{IsEntryAt}
use Rattle.gx_tree.specs.Steps.{kept_grafted, kept_removed}
use Rattle.gx_tree.specs.Views.{shown_item, shown_entries}
use Rattle.gx_tree.proofs.Below.{no_root_before}
use Rattle.gx_tree.proofs.Changed.{changed_at, read_twice}
use Rattle.gx_tree.proofs.Homes.{all_at, entries_at_home, items_are_those, made_at_home}
use Rattle.gx_tree.proofs.InPlace.{all_set, standing}
use Rattle.gx_tree.proofs.Renamed.{file_there, kept_renamed_folder, nothing_there, put_alone, renamed_at, apart_below, apart_longer}
use Rattle.gx_tree.proofs.Texts.{bytes_are}
use Rattle.gx_tree.proofs.+rename.Goals as goal

pub directory::Directory::rename-returns-clause-home : goal.directory::Directory::rename-returns-clause-home
directory::Directory::rename-returns-clause-home g t c = λ name rs h.
    made_at_home name rs c.rename_in.new.entries.value.items c.in_ok-reach.ensures.level (c.in_ok-reach.ensures.home name rs (h.0, entries_at_home name rs c.self.inside.remembered c.self.inside.entries.value.items c.args.self.now c.self.view_is c.self.invariant.0 h.1))

pub directory::Item::rename-returns-clause-kept : goal.directory::Item::rename-returns-clause-kept
directory::Item::rename-returns-clause-kept g t c =
    let p = drop c.args.depth c.args.from.now in
    let q = drop c.args.depth c.args.to.now in
    let k = shown_item c.args.item.now in
    on_ok_weaker c.rename.result (λ e. ap folder e ∙ kept_renamed_folder p q k c.in-Folder.below.files (no_root_before c.args.from.now c.args.depth c.requires.from) (no_root_before c.args.to.now c.args.depth c.requires.to) ∙ ap (λ i. kept_grafted q k (kept_removed p (Some (shown_item i)))) (sym c.in-Folder.is)) c.rename.ensures.files

pub directory::Item::rename-returns-clause-home : goal.directory::Item::rename-returns-clause-home
directory::Item::rename-returns-clause-home g t c = on_ok_weaker c.rename.result (λ keeps name rs h. keeps name rs (h.0, subst (IsItemAtHome name rs) c.in-Folder.is h.1)) c.rename.ensures.home

pub renaming::rename_in-returns-in-Some-clause-home : goal.renaming::rename_in-returns-in-Some-clause-home
renaming::rename_in-returns-in-Some-clause-home g t c = on_ok_weaker c.rename_among.result (λ keeps name rs h. keeps name rs (h.0, subst (λ v. AreAtHome name rs v.items) (sym c.in-Some.ensures.value) h.1)) c.rename_among.ensures.home

pub renaming::rename_in-returns-in_ok-entries-in-None-clause-home : goal.renaming::rename_in-returns-in_ok-entries-in-None-clause-home
renaming::rename_in-returns-in_ok-entries-in-None-clause-home g t c = λ name rs h.
    subst (λ v. AreAtHome name rs v.items) (sym c.in_ok-entries-in-None.ensures.ok) (c.in_ok-reach-in-None.ensures.home name rs (h.0, c.in_ok-copy-in-None.ensures.home name rs (subst (AreAtHome name rs) (sym (items_are_those c.as_slice.ensures.value c.deref.ensures)) h.1)))

pub renaming::rename_at-returns-then-not-is_folder-clause-files : goal.renaming::rename_at-returns-then-not-is_folder-clause-files
renaming::rename_at-returns-then-not-is_folder-clause-files g t c =
    let r = c.index.result.now in
    let at = standing (get_or c.args.from.now c.args.depth []) c.args.entries.now.items c.args.place r c.requires.level c.requires.place c.index.ensures in
    let there = file_there (get_or c.args.from.now c.args.depth []) c.args.from.now c.args.depth (shown_item r.item) (shown_entries c.args.entries.now.items) c.requires.from c.requires.level refl at (sym c.is_folder.ensures ∙ c.if-not-is_folder.true) in
    on_ok_weaker c.graft_among.result (λ e. put_alone (drop c.args.depth c.args.to.now) (kept_map (shown_item c.args.item.now)) e there) c.graft_among.ensures.files

pub renaming::rename_at-rename-requires : goal.renaming::rename_at-rename-requires
renaming::rename_at-rename-requires g t c κs within =
    let twice = read_twice c.args.entries.now.items c.args.place c.index_mut.result.now c.index.result.now c.requires.place.0 c.index_mut.ensures.value c.index.ensures in
    (search rules, (within, (c.requires.from, (c.requires.to, (apart_below c.args.from.now c.args.to.now c.args.depth (omega (arith, c.requires.from)) (omega (arith, c.requires.to)) c.requires.apart c.requires.same, (ap (λ e. is_folder (shown_item e.item)) (sym twice) ∙ sym c.is_folder.ensures ∙ c.if-not-is_folder.false, c.requires.kept))))))

pub renaming::rename_at-reach_after-requires-clause-level : goal.renaming::rename_at-reach_after-requires-clause-level
renaming::rename_at-reach_after-requires-clause-level g t c =
    subst (λ z. IsLevel (shown_entries z)) (sym c.deref.ensures.value) (renamed_at (get_or c.args.from.now c.args.depth []) c.args.from.now c.args.to.now c.args.depth c.args.place (shown_item c.args.item.now) c.args.entries.now.items c.index_mut.result.now _ (omega (arith, c.requires.from)) (omega (arith, c.requires.to)) (and_parts _ _ c.len.ensures.path).0 c.requires.kept c.requires.level refl c.requires.same c.requires.place c.index_mut.ensures.value refl c.in_ok-rename.ensures.mark c.in_ok-rename.ensures.kept).level

pub renaming::rename_at-reach_after-requires-clause-changes : goal.renaming::rename_at-reach_after-requires-clause-changes
renaming::rename_at-reach_after-requires-clause-changes g t c =
    let level = (renamed_at (get_or c.args.from.now c.args.depth []) c.args.from.now c.args.to.now c.args.depth c.args.place (shown_item c.args.item.now) c.args.entries.now.items c.index_mut.result.now _ (omega (arith, c.requires.from)) (omega (arith, c.requires.to)) (and_parts _ _ c.len.ensures.path).0 c.requires.kept c.requires.level refl c.requires.same c.requires.place c.index_mut.ensures.value refl c.in_ok-rename.ensures.mark c.in_ok-rename.ensures.kept).level in
    subst (λ z. Changes c.args.reach c.reach-before.result c.reach-after.result (files (shown_entries z))) (sym c.deref.ensures.value) (changed_at (get_or c.args.from.now c.args.depth []) c.args.entries.now.items c.args.place c.index_mut.result.now c.index-2.result.now _ c.index-3.result.now c.args.reach c.requires.level level c.requires.place c.index_mut.ensures.value c.index-2.ensures refl c.in_ok-rename.ensures.mark c.requires.reach c.reach-before.ensures c.index-3.ensures c.reach-after.ensures)

pub renaming::rename_at-returns-clause-level : goal.renaming::rename_at-returns-clause-level
renaming::rename_at-returns-clause-level g t c =
    (renamed_at (get_or c.args.from.now c.args.depth []) c.args.from.now c.args.to.now c.args.depth c.args.place (shown_item c.args.item.now) c.args.entries.now.items c.index_mut.result.now _ (omega (arith, c.requires.from)) (omega (arith, c.requires.to)) (and_parts _ _ c.len.ensures.path).0 c.requires.kept c.requires.level refl c.requires.same c.requires.place c.index_mut.ensures.value refl c.in_ok-rename.ensures.mark c.in_ok-rename.ensures.kept).level

pub renaming::rename_at-returns-clause-files : goal.renaming::rename_at-returns-clause-files
renaming::rename_at-returns-clause-files g t c =
    (renamed_at (get_or c.args.from.now c.args.depth []) c.args.from.now c.args.to.now c.args.depth c.args.place (shown_item c.args.item.now) c.args.entries.now.items c.index_mut.result.now _ (omega (arith, c.requires.from)) (omega (arith, c.requires.to)) (and_parts _ _ c.len.ensures.path).0 c.requires.kept c.requires.level refl c.requires.same c.requires.place c.index_mut.ensures.value refl c.in_ok-rename.ensures.mark c.in_ok-rename.ensures.kept).is

pub renaming::rename_at-returns-clause-home : goal.renaming::rename_at-returns-clause-home
renaming::rename_at-returns-clause-home g t c = λ name rs h.
    let es = c.args.entries.now.items in
    let r = c.index_mut.result.now in
    all_set (λ e. IsItemAtHome name rs e.item) es c.args.place _ h.1 (c.in_ok-rename.ensures.home name rs (h.0, all_at (λ e. IsItemAtHome name rs e.item) es c.args.place r c.requires.place.0 c.index_mut.ensures.value h.1))

pub renaming::rename_among-returns-in-None-clause-files : goal.renaming::rename_among-returns-in-None-clause-files
renaming::rename_among-returns-in-None-clause-files g t c =
    let none = subst (λ z. kept_at c.component-component.result.now (shown_entries z) ≡ None) c.deref.ensures.value (c.in-None.ensures.missing refl) in
    let there = nothing_there c.component-component.result.now c.args.from.now c.args.depth (shown_entries c.args.entries.now.items) c.requires.from c.requires.level c.component-component.ensures.component none in
    on_ok_weaker c.graft_among.result (λ e. put_alone (drop c.args.depth c.args.to.now) (kept_map (shown_item c.args.item.now)) e there) c.graft_among.ensures.files

pub renaming::rename_among-rename_at-requires : goal.renaming::rename_among-rename_at-requires
renaming::rename_among-rename_at-requires g t c κs within =
    let here = bytes_are c.component-component.result.now c.component.result.now (sym c.eq.ensures ∙ c.if-eq.true) in
    let same : get_or c.args.from.now c.args.depth [] ≡ get_or c.args.to.now c.args.depth [] = sym c.component-component.ensures.component ∙ here ∙ c.component.ensures.component in
    let longer = apart_longer c.args.from.now c.args.to.now c.args.depth c.requires.from c.requires.to c.requires.apart same in
    let place = subst (λ z. IsEntryAt z c.args.entries.now.items c.in-Some.place) c.component-component.ensures.component (subst (λ z. IsEntryAt c.component-component.result.now z c.in-Some.place) c.deref.ensures.value c.in-Some.ensures.found) in
    (search rules, (within, (longer.0, (longer.1, (c.requires.apart, (c.requires.kept, (c.requires.level, (c.requires.reach, (same, place)))))))))
