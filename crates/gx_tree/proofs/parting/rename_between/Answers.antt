use Rattle.std.proofs.Common.{◌<◌, ◌+◌, [], Ok, Some, drop, get_or, max, slice_set, refl, sym, ap, ◌∙◌, arith, subst}
use Rattle.std.proofs.lemmas.Bool.{and_parts}
use Rattle.gx_tree.specs.Components.{bytes_of}
use Rattle.gx_tree.specs.Homes.{AreAtHome, IsItemAtHome}
use Rattle.gx_tree.specs.Nodes.{IsLevel, files, folder, mark}
use Rattle.gx_tree.specs.Rooms.{Changes}
use Rattle.gx_tree.specs.Steps.{kept_grafted}
use Rattle.gx_tree.specs.Views.{shown_entries, shown_item}
use Rattle.gx_tree.specs.declared.directory.Entry.{Entry}
use Rattle.gx_tree.specs.declared.directory.Item.TheVariants.{Folder}
use Rattle.gx_tree.proofs.Below.{no_root_before}
use Rattle.gx_tree.proofs.EditSteps.{kept_grafted_folder}
use Rattle.gx_tree.proofs.Homes.{all_at}
use Rattle.gx_tree.proofs.InPlace.{all_set}
use Rattle.gx_tree.proofs.Parted.{all_back, all_without, both_gone, both_left, both_reach, entry_back, gone_both_reach, on_err, places_differ, same_entry, set_length, third}
use Rattle.gx_tree.proofs.parting.rename_between.Goals as goal

pub returns-in_err-is_left-clause-unchanged : goal.returns-in_err-is_left-clause-unchanged
returns-in_err-is_left-clause-unchanged g c =
    let es = c.args.entries.now.items in
    let r = c.index_mut-2.result.now in
    let q = c.index_mut.result.now in
    let k = shown_item c.args.item.now in
    let rest = drop (c.args.depth + 1) c.args.to.now in
    let two = places_differ (get_or c.args.from.now c.args.depth []) (get_or c.args.to.now c.args.depth []) es c.args.place c.args.target q c.requires.place c.requires.target.0 c.requires.apart in
    let same = third es c.args.place c.args.target _ _ c.index_mut-3.result.now c.requires.target.0.0 two c.index_mut-3.ensures.value in
    let er = same_entry r c.give-given.new.self c.in_err-is_left.ensures.unchanged in
    let fq = entry_back q c.index_mut-3.result.now.component (Folder c.give-given.new.target) (ap (λ z. z.component) same) (ap Folder c.in_err-is_left.ensures.stays ∙ c.in-Folder.ensures.value) in
    on_err c.from_residual.result (all_back es c.args.place c.args.target r q _ _ _ two c.index_mut-2.ensures.value c.index_mut.ensures.value er fq)

pub reach_after-requires-clause-level : goal.reach_after-requires-clause-level
reach_after-requires-clause-level g c =
    let es = c.args.entries.now.items in
    let r = c.index_mut-2.result.now in
    let q = c.index_mut.result.now in
    let k = shown_item c.args.item.now in
    let rest = drop (c.args.depth + 1) c.args.to.now in
    let two = places_differ (get_or c.args.from.now c.args.depth []) (get_or c.args.to.now c.args.depth []) es c.args.place c.args.target q c.requires.place c.requires.target.0 c.requires.apart in
    let same = third es c.args.place c.args.target _ _ c.index_mut-3.result.now c.requires.target.0.0 two c.index_mut-3.ensures.value in
    let kf = ap folder c.in_ok-is_left.ensures.lands ∙ kept_grafted_folder rest k (Some (folder c.in-Folder.below.files)) (no_root_before c.args.to.now (c.args.depth + 1) c.requires.to) ∙ ap (λ z. kept_grafted rest k (Some (shown_item z))) c.in-Folder.ensures.value in
    let mf = ap (λ z. mark (shown_item z)) c.in-Folder.ensures.value in
    let cf = ap (λ z. bytes_of z.component) same in
    subst (λ z. IsLevel (shown_entries z)) (sym c.deref.ensures.value) (both_left c.args.from.now c.args.to.now c.args.depth c.args.place c.args.target k es _ r q _ _ _ (omega (arith, c.requires.from)) (omega (arith, c.requires.to)) (and_parts _ _ c.len.ensures.path).0 (and_parts _ _ c.len-2.ensures.path).0 c.requires.apart c.requires.kept c.requires.level c.requires.place c.requires.target.0 c.index_mut-2.ensures.value c.index_mut.ensures.value cf mf kf refl refl (c.in_ok-is_left.ensures.mark (ap Ok c.if-is_left.true)) (c.in_ok-is_left.ensures.left (ap Ok c.if-is_left.true))).level

pub reach_after-requires-clause-changes : goal.reach_after-requires-clause-changes
reach_after-requires-clause-changes g c =
    let es = c.args.entries.now.items in
    let r = c.index_mut-2.result.now in
    let q = c.index_mut.result.now in
    let k = shown_item c.args.item.now in
    let rest = drop (c.args.depth + 1) c.args.to.now in
    let two = places_differ (get_or c.args.from.now c.args.depth []) (get_or c.args.to.now c.args.depth []) es c.args.place c.args.target q c.requires.place c.requires.target.0 c.requires.apart in
    let same = third es c.args.place c.args.target _ _ c.index_mut-3.result.now c.requires.target.0.0 two c.index_mut-3.ensures.value in
    let kf = ap folder c.in_ok-is_left.ensures.lands ∙ kept_grafted_folder rest k (Some (folder c.in-Folder.below.files)) (no_root_before c.args.to.now (c.args.depth + 1) c.requires.to) ∙ ap (λ z. kept_grafted rest k (Some (shown_item z))) c.in-Folder.ensures.value in
    let mf = ap (λ z. mark (shown_item z)) c.in-Folder.ensures.value in
    let cf = ap (λ z. bytes_of z.component) same in
    let change = both_reach c.args.from.now c.args.to.now c.args.depth c.args.place c.args.target k es _ r q _ _ _ (omega (arith, c.requires.from)) (omega (arith, c.requires.to)) (and_parts _ _ c.len.ensures.path).0 (and_parts _ _ c.len-2.ensures.path).0 c.requires.apart c.requires.kept c.requires.level c.requires.place c.requires.target.0 c.index_mut-2.ensures.value c.index_mut.ensures.value cf mf kf refl refl (c.in_ok-is_left.ensures.mark (ap Ok c.if-is_left.true)) (c.in_ok-is_left.ensures.left (ap Ok c.if-is_left.true)) c.index.result.now c.index-2.result.now c.index-then-is_left.result.now c.index-3.result.now c.args.reach c.requires.reach c.index.ensures c.index-2.ensures c.index-3.ensures c.index-then-is_left.ensures c.reach.ensures c.reach-2.ensures c.reach-after.ensures c.reach-then-is_left.ensures in
    subst (λ z. Changes c.args.reach z c.max-after.result (files (shown_entries c.deref.result.now))) (sym c.max-before.ensures) (subst (λ z. Changes c.args.reach (max c.reach.result c.reach-2.result) z (files (shown_entries c.deref.result.now))) (sym c.max-after.ensures) (subst (λ z. Changes c.args.reach (max c.reach.result c.reach-2.result) (max c.reach-after.result c.reach-then-is_left.result) (files (shown_entries z))) (sym c.deref.ensures.value) change))

pub returns-then-is_left-clause-level : goal.returns-then-is_left-clause-level
returns-then-is_left-clause-level g c =
    let es = c.args.entries.now.items in
    let r = c.index_mut-2.result.now in
    let q = c.index_mut.result.now in
    let k = shown_item c.args.item.now in
    let rest = drop (c.args.depth + 1) c.args.to.now in
    let two = places_differ (get_or c.args.from.now c.args.depth []) (get_or c.args.to.now c.args.depth []) es c.args.place c.args.target q c.requires.place c.requires.target.0 c.requires.apart in
    let same = third es c.args.place c.args.target _ _ c.index_mut-3.result.now c.requires.target.0.0 two c.index_mut-3.ensures.value in
    let kf = ap folder c.in_ok-is_left.ensures.lands ∙ kept_grafted_folder rest k (Some (folder c.in-Folder.below.files)) (no_root_before c.args.to.now (c.args.depth + 1) c.requires.to) ∙ ap (λ z. kept_grafted rest k (Some (shown_item z))) c.in-Folder.ensures.value in
    let mf = ap (λ z. mark (shown_item z)) c.in-Folder.ensures.value in
    let cf = ap (λ z. bytes_of z.component) same in
    (both_left c.args.from.now c.args.to.now c.args.depth c.args.place c.args.target k es _ r q _ _ _ (omega (arith, c.requires.from)) (omega (arith, c.requires.to)) (and_parts _ _ c.len.ensures.path).0 (and_parts _ _ c.len-2.ensures.path).0 c.requires.apart c.requires.kept c.requires.level c.requires.place c.requires.target.0 c.index_mut-2.ensures.value c.index_mut.ensures.value cf mf kf refl refl (c.in_ok-is_left.ensures.mark (ap Ok c.if-is_left.true)) (c.in_ok-is_left.ensures.left (ap Ok c.if-is_left.true))).level

pub returns-then-is_left-clause-files : goal.returns-then-is_left-clause-files
returns-then-is_left-clause-files g c =
    let es = c.args.entries.now.items in
    let r = c.index_mut-2.result.now in
    let q = c.index_mut.result.now in
    let k = shown_item c.args.item.now in
    let rest = drop (c.args.depth + 1) c.args.to.now in
    let two = places_differ (get_or c.args.from.now c.args.depth []) (get_or c.args.to.now c.args.depth []) es c.args.place c.args.target q c.requires.place c.requires.target.0 c.requires.apart in
    let same = third es c.args.place c.args.target _ _ c.index_mut-3.result.now c.requires.target.0.0 two c.index_mut-3.ensures.value in
    let kf = ap folder c.in_ok-is_left.ensures.lands ∙ kept_grafted_folder rest k (Some (folder c.in-Folder.below.files)) (no_root_before c.args.to.now (c.args.depth + 1) c.requires.to) ∙ ap (λ z. kept_grafted rest k (Some (shown_item z))) c.in-Folder.ensures.value in
    let mf = ap (λ z. mark (shown_item z)) c.in-Folder.ensures.value in
    let cf = ap (λ z. bytes_of z.component) same in
    (both_left c.args.from.now c.args.to.now c.args.depth c.args.place c.args.target k es _ r q _ _ _ (omega (arith, c.requires.from)) (omega (arith, c.requires.to)) (and_parts _ _ c.len.ensures.path).0 (and_parts _ _ c.len-2.ensures.path).0 c.requires.apart c.requires.kept c.requires.level c.requires.place c.requires.target.0 c.index_mut-2.ensures.value c.index_mut.ensures.value cf mf kf refl refl (c.in_ok-is_left.ensures.mark (ap Ok c.if-is_left.true)) (c.in_ok-is_left.ensures.left (ap Ok c.if-is_left.true))).is

pub returns-then-is_left-clause-home : goal.returns-then-is_left-clause-home
returns-then-is_left-clause-home g c = λ name rs h.
    let es = c.args.entries.now.items in
    let r = c.index_mut-2.result.now in
    let q = c.index_mut.result.now in
    let P = λ (e : Entry _). IsItemAtHome name rs e.item in
    let first = all_set P es c.args.target _ h.1 (subst (IsItemAtHome name rs) (sym c.replace.ensures.after) tt) in
    let given = c.give-given.ensures.home name rs (all_at P (slice_set es c.args.target _) c.args.place r (subst (λ z. c.args.place < z) (sym (set_length es c.args.target _)) c.requires.place.0) c.index_mut-2.ensures.value first) in
    let come = c.in_ok-is_left.ensures.target_home name rs (h.0, subst (IsItemAtHome name rs) (sym c.in-Folder.ensures.value) (all_at P es c.args.target q c.requires.target.0.0 c.index_mut.ensures.value h.1)) in
    let all = all_set P (slice_set (slice_set es c.args.target _) c.args.place _) c.args.target _ (all_set P (slice_set es c.args.target _) c.args.place _ first given) come in
    all

pub reach_after-requires-2-clause-level : goal.reach_after-requires-2-clause-level
reach_after-requires-2-clause-level g c =
    let es = c.args.entries.now.items in
    let r = c.index_mut-2.result.now in
    let q = c.index_mut.result.now in
    let k = shown_item c.args.item.now in
    let rest = drop (c.args.depth + 1) c.args.to.now in
    let two = places_differ (get_or c.args.from.now c.args.depth []) (get_or c.args.to.now c.args.depth []) es c.args.place c.args.target q c.requires.place c.requires.target.0 c.requires.apart in
    let same = third es c.args.place c.args.target _ _ c.index_mut-3.result.now c.requires.target.0.0 two c.index_mut-3.ensures.value in
    let kf = ap folder c.in_ok-is_left.ensures.lands ∙ kept_grafted_folder rest k (Some (folder c.in-Folder.below.files)) (no_root_before c.args.to.now (c.args.depth + 1) c.requires.to) ∙ ap (λ z. kept_grafted rest k (Some (shown_item z))) c.in-Folder.ensures.value in
    let mf = ap (λ z. mark (shown_item z)) c.in-Folder.ensures.value in
    let cf = ap (λ z. bytes_of z.component) same in
    subst (λ z. IsLevel (shown_entries z)) (sym c.deref-2.ensures.value) (both_gone c.args.from.now c.args.to.now c.args.depth c.args.place c.args.target k es _ r q _ _ _ (omega (arith, c.requires.from)) (omega (arith, c.requires.to)) (and_parts _ _ c.len.ensures.path).0 (and_parts _ _ c.len-2.ensures.path).0 c.requires.apart c.requires.kept c.requires.level c.requires.place c.requires.target.0 c.index_mut-2.ensures.value c.index_mut.ensures.value cf mf kf refl c.remove.new.self.items c.remove.ensures.items (c.in_ok-is_left.ensures.gone (ap Ok c.if-is_left.false))).level

pub reach_after-requires-2-clause-changes : goal.reach_after-requires-2-clause-changes
reach_after-requires-2-clause-changes g c =
    let es = c.args.entries.now.items in
    let r = c.index_mut-2.result.now in
    let q = c.index_mut.result.now in
    let k = shown_item c.args.item.now in
    let rest = drop (c.args.depth + 1) c.args.to.now in
    let two = places_differ (get_or c.args.from.now c.args.depth []) (get_or c.args.to.now c.args.depth []) es c.args.place c.args.target q c.requires.place c.requires.target.0 c.requires.apart in
    let same = third es c.args.place c.args.target _ _ c.index_mut-3.result.now c.requires.target.0.0 two c.index_mut-3.ensures.value in
    let kf = ap folder c.in_ok-is_left.ensures.lands ∙ kept_grafted_folder rest k (Some (folder c.in-Folder.below.files)) (no_root_before c.args.to.now (c.args.depth + 1) c.requires.to) ∙ ap (λ z. kept_grafted rest k (Some (shown_item z))) c.in-Folder.ensures.value in
    let mf = ap (λ z. mark (shown_item z)) c.in-Folder.ensures.value in
    let cf = ap (λ z. bytes_of z.component) same in
    let change = gone_both_reach c.args.from.now c.args.to.now c.args.depth c.args.place c.args.target k es _ r q _ _ _ (omega (arith, c.requires.from)) (omega (arith, c.requires.to)) (and_parts _ _ c.len.ensures.path).0 (and_parts _ _ c.len-2.ensures.path).0 c.requires.apart c.requires.kept c.requires.level c.requires.place c.requires.target.0 c.index_mut-2.ensures.value c.index_mut.ensures.value cf mf kf refl c.remove.new.self.items c.remove.ensures.items c.index.result.now c.index-2.result.now c.index-3.result.now c.args.reach c.requires.reach c.index.ensures c.index-2.ensures c.index-3.ensures c.reach.ensures c.reach-2.ensures c.reach-after.ensures in
    subst (λ z. Changes c.args.reach z c.reach-after.result (files (shown_entries c.deref-2.result.now))) (sym c.max-before.ensures) (subst (λ z. Changes c.args.reach (max c.reach.result c.reach-2.result) c.reach-after.result (files (shown_entries z))) (sym c.deref-2.ensures.value) change)

pub returns-clause-level : goal.returns-clause-level
returns-clause-level g c =
    let es = c.args.entries.now.items in
    let r = c.index_mut-2.result.now in
    let q = c.index_mut.result.now in
    let k = shown_item c.args.item.now in
    let rest = drop (c.args.depth + 1) c.args.to.now in
    let two = places_differ (get_or c.args.from.now c.args.depth []) (get_or c.args.to.now c.args.depth []) es c.args.place c.args.target q c.requires.place c.requires.target.0 c.requires.apart in
    let same = third es c.args.place c.args.target _ _ c.index_mut-3.result.now c.requires.target.0.0 two c.index_mut-3.ensures.value in
    let kf = ap folder c.in_ok-is_left.ensures.lands ∙ kept_grafted_folder rest k (Some (folder c.in-Folder.below.files)) (no_root_before c.args.to.now (c.args.depth + 1) c.requires.to) ∙ ap (λ z. kept_grafted rest k (Some (shown_item z))) c.in-Folder.ensures.value in
    let mf = ap (λ z. mark (shown_item z)) c.in-Folder.ensures.value in
    let cf = ap (λ z. bytes_of z.component) same in
    (both_gone c.args.from.now c.args.to.now c.args.depth c.args.place c.args.target k es _ r q _ _ _ (omega (arith, c.requires.from)) (omega (arith, c.requires.to)) (and_parts _ _ c.len.ensures.path).0 (and_parts _ _ c.len-2.ensures.path).0 c.requires.apart c.requires.kept c.requires.level c.requires.place c.requires.target.0 c.index_mut-2.ensures.value c.index_mut.ensures.value cf mf kf refl c.remove.new.self.items c.remove.ensures.items (c.in_ok-is_left.ensures.gone (ap Ok c.if-is_left.false))).level

pub returns-clause-files : goal.returns-clause-files
returns-clause-files g c =
    let es = c.args.entries.now.items in
    let r = c.index_mut-2.result.now in
    let q = c.index_mut.result.now in
    let k = shown_item c.args.item.now in
    let rest = drop (c.args.depth + 1) c.args.to.now in
    let two = places_differ (get_or c.args.from.now c.args.depth []) (get_or c.args.to.now c.args.depth []) es c.args.place c.args.target q c.requires.place c.requires.target.0 c.requires.apart in
    let same = third es c.args.place c.args.target _ _ c.index_mut-3.result.now c.requires.target.0.0 two c.index_mut-3.ensures.value in
    let kf = ap folder c.in_ok-is_left.ensures.lands ∙ kept_grafted_folder rest k (Some (folder c.in-Folder.below.files)) (no_root_before c.args.to.now (c.args.depth + 1) c.requires.to) ∙ ap (λ z. kept_grafted rest k (Some (shown_item z))) c.in-Folder.ensures.value in
    let mf = ap (λ z. mark (shown_item z)) c.in-Folder.ensures.value in
    let cf = ap (λ z. bytes_of z.component) same in
    (both_gone c.args.from.now c.args.to.now c.args.depth c.args.place c.args.target k es _ r q _ _ _ (omega (arith, c.requires.from)) (omega (arith, c.requires.to)) (and_parts _ _ c.len.ensures.path).0 (and_parts _ _ c.len-2.ensures.path).0 c.requires.apart c.requires.kept c.requires.level c.requires.place c.requires.target.0 c.index_mut-2.ensures.value c.index_mut.ensures.value cf mf kf refl c.remove.new.self.items c.remove.ensures.items (c.in_ok-is_left.ensures.gone (ap Ok c.if-is_left.false))).is

pub returns-clause-home : goal.returns-clause-home
returns-clause-home g c = λ name rs h.
    let es = c.args.entries.now.items in
    let r = c.index_mut-2.result.now in
    let q = c.index_mut.result.now in
    let P = λ (e : Entry _). IsItemAtHome name rs e.item in
    let first = all_set P es c.args.target _ h.1 (subst (IsItemAtHome name rs) (sym c.replace.ensures.after) tt) in
    let given = c.give-given.ensures.home name rs (all_at P (slice_set es c.args.target _) c.args.place r (subst (λ z. c.args.place < z) (sym (set_length es c.args.target _)) c.requires.place.0) c.index_mut-2.ensures.value first) in
    let come = c.in_ok-is_left.ensures.target_home name rs (h.0, subst (IsItemAtHome name rs) (sym c.in-Folder.ensures.value) (all_at P es c.args.target q c.requires.target.0.0 c.index_mut.ensures.value h.1)) in
    let all = all_set P (slice_set (slice_set es c.args.target _) c.args.place _) c.args.target _ (all_set P (slice_set es c.args.target _) c.args.place _ first given) come in
    subst (λ z. AreAtHome name rs z) (sym c.remove.ensures.items) (all_without P _ c.args.place all)
