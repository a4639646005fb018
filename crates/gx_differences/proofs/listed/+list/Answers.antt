use Rattle.std.proofs.Common.{◌≡◌, ◌≢◌, ◌+◌, ◌-◌, ◌*◌, ◌<◌, ◌∙◌, [], length, true, false, not, ap, sym, refl, arith, rules}
use denote.Enum.Bare.{same_true, sameb}
use Rattle.gx_model.specs.contracts.objects.Mode.{the_type}
use Rattle.gx_model.specs.declared.objects.Mode.TheVariants.{Dir}
use Rattle.gx_object.specs.Parts.{bytes_if}
use Rattle.gx_export.proofs.BlobLists.{denied}
use Rattle.gx_differences.specs.Listed.{ListsPair, ListsTrees}
use Rattle.gx_differences.proofs.Chosen.{trees_told, within_room}
use Rattle.gx_differences.proofs.ListedSteps.{files_told, lists_first, lists_last, lists_other, lists_same, pair_told, trees_listed}
use Rattle.gx_differences.proofs.PassedPairs.{new_there, not_none, old_there}
use Rattle.gx_differences.proofs.Told.{ok_told}
use Rattle.gx_differences.proofs.listed.+list.Goals as goal

-- ---- what two trees have at one component

pub list_pair-returns-then-ne-clause-found : goal.list_pair-returns-then-ne-clause-found
list_pair-returns-then-ne-clause-found g t c =
    let o = c.args.objects.now in
    let dir : c.in-Some.entry.mode ≢ Dir = λ q. (let f : true ≡ false = c.if-ne.ensures ∙ ap (λ m. not (sameb the_type m Dir)) q in cc f) in
    files_told (g.O.Objects.name_of o) c.sound_if_told.ensures.namer c.args.room c.args.front.now c.args.pair.now (g.O.Objects.told o) c.in-Some.entry c.in-Some.ensures c.requires.held c.in_ok-path.path c.in_ok-path.ensures.path
    c.args.found.now.items c.add_files.new.found.items dir c.requires.other c.in_ok-add_files.ensures

pub list_pair-returns-then-used-room-clause-fault : goal.list_pair-returns-then-used-room-clause-fault
list_pair-returns-then-used-room-clause-fault g t c =
    let o = c.args.objects.now in
    let dir : c.in-Some.entry.mode ≡ Dir = same_true the_type (search rules) _ _ (denied _ c.if-ne.ensures) in
    within_room (g.O.Objects.name_of o) c.sound_if_told.ensures.namer c.args.room c.args.front.now c.args.pair.now (g.O.Objects.told o) c.in-Some.entry c.in-Some.ensures c.requires.held dir c.if-used-room.true

pub list_pair-list_trees-requires : goal.list_pair-list_trees-requires
list_pair-list_trees-requires g t c κs within =
    let o = c.args.objects.now in
    let dir : c.in-Some.entry.mode ≡ Dir = same_true the_type (search rules) _ _ (denied _ c.if-ne.ensures) in
    let less : 2 * (c.args.room - length c.in-Some.entry.component.now - 1) + 1 < t = (let k = c.if-used-room.false in omega (arith, k, c.decreases)) in
    let trees = trees_told (g.O.Objects.name_of o) c.sound_if_told.ensures.namer c.args.room c.args.front.now c.args.pair.now (g.O.Objects.told o) c.in-Some.entry c.in-Some.ensures c.requires.held c.in_ok-path.path c.in_ok-path.ensures.path dir
    (bytes_if c.name_in-old.result) (bytes_if c.name_in-new.result) c.name_in-old.ensures c.name_in-new.ensures in
    (less, (within.0, (within.1, trees)))

pub list_pair-returns-clause-found : goal.list_pair-returns-clause-found
list_pair-returns-clause-found g t c =
    let o = c.args.objects.now in
    let name = g.O.Objects.name_of o in
    let dir : c.in-Some.entry.mode ≡ Dir = same_true the_type (search rules) _ _ (denied _ c.if-ne.ensures) in
    let old = bytes_if c.name_in-old.result in
    let new = bytes_if c.name_in-new.result in
    let before = c.args.found.now.items in
    let after = c.list_trees.new.found.items in
    ok_told (g.O.Objects.told o) (ListsTrees name (c.args.room - length c.in-Some.entry.component.now - 1) c.in_ok-path.path old new before after) (ListsPair name c.args.room c.args.front.now c.args.pair.now before after) c.list_trees.result
    (trees_listed name c.sound_if_told.ensures.namer c.args.room c.args.front.now c.args.pair.now (g.O.Objects.told o) c.in-Some.entry c.in-Some.ensures c.requires.held c.in_ok-path.path c.in_ok-path.ensures.path dir old new c.name_in-old.ensures c.name_in-new.ensures
    before after) c.list_trees.ensures.found

-- ---- two trees

pub list_trees-entries_in-requires : goal.list_trees-entries_in-requires
list_trees-entries_in-requires g t c =
    let o = c.args.objects.now in
    old_there (g.O.Objects.name_of o) c.sound_if_told.ensures.namer c.args.room c.args.front.now c.args.old c.args.new (g.O.Objects.told o) c.requires.held

pub list_trees-entries_in-requires-2 : goal.list_trees-entries_in-requires-2
list_trees-entries_in-requires-2 g t c =
    let o = c.args.objects.now in
    new_there (g.O.Objects.name_of o) c.sound_if_told.ensures.namer c.args.room c.args.front.now c.args.old c.args.new (g.O.Objects.told o) c.requires.held

pub list_trees-returns-then-is_empty-clause-fault : goal.list_trees-returns-then-is_empty-clause-fault
list_trees-returns-then-is_empty-clause-fault g t c =
    let o = c.args.objects.now in
    let below : c.args.front.now ≢ [] = λ z. (let l : length c.args.front.now ≡ 0 = ap length z in omega (arith, l, c.len.ensures.length, c.if-len-gt0.true)) in
    not_none (g.O.Objects.name_of o) c.sound_if_told.ensures.namer c.args.room c.args.front.now c.args.old c.args.new (g.O.Objects.told o) c.in_ok-olds.olds c.in_ok-news.news c.new-pairs.result c.new-pairs.ensures c.in_ok-olds.ensures.entries c.in_ok-news.ensures.entries
    (c.if-is_empty.ensures.0 refl) below c.requires.held

pub list_trees-loop-pair-init : goal.list_trees-loop-pair-init
list_trees-loop-pair-init g t c =
    let o = c.args.objects.now in
    lists_first (g.O.Objects.name_of o) c.sound_if_told.ensures.namer c.args.room c.args.front.now c.args.old c.args.new (g.O.Objects.told o) c.in_ok-olds.olds c.in_ok-news.news c.into_iter-pair-iterator.result c.args.found.now.items
    (c.into_iter-pair-iterator.ensures.into_iter_gives ∙ c.new-pairs.ensures) c.in_ok-olds.ensures.entries c.in_ok-news.ensures.entries

pub list_trees-list_pair-requires : goal.list_trees-list_pair-requires
list_trees-list_pair-requires g t c κs within =
    let o = c.args.objects.now in
    let less : 2 * c.args.room < t = omega (arith, c.decreases) in
    let pair = pair_told (g.O.Objects.name_of o) c.sound_if_told.ensures.namer c.args.room c.args.front.now c.args.old c.args.new (g.O.Objects.told o) c.loop-pair.pair-iterator c.next.new.self c.in-Some.pair c.in-Some.ensures.steps c.args.found.now.items c.loop-pair.found.items c.requires.held c.loop-pair.invariant in
    (less, (within.0, (within.1, (pair, sym c.is_same.ensures ∙ c.if-not-is_same.true))))

pub list_trees-loop-pair-preserved-in-Continue-branch-3 : goal.list_trees-loop-pair-preserved-in-Continue-branch-3
list_trees-loop-pair-preserved-in-Continue-branch-3 g t c =
    let o = c.args.objects.now in
    lists_other (g.O.Objects.name_of o) c.sound_if_told.ensures.namer c.args.room c.args.front.now c.args.old c.args.new (g.O.Objects.told o) c.loop-pair.pair-iterator c.next.new.self c.in-Some.pair c.in-Some.ensures.steps c.args.found.now.items c.loop-pair.found.items
    c.list_pair.new.found.items c.loop-pair.invariant c.in_ok-list_pair.ensures.found

pub list_trees-loop-pair-preserved : goal.list_trees-loop-pair-preserved
list_trees-loop-pair-preserved g t c =
    let o = c.args.objects.now in
    lists_same (g.O.Objects.name_of o) c.sound_if_told.ensures.namer c.args.room c.args.front.now c.args.old c.args.new (g.O.Objects.told o) c.loop-pair.pair-iterator c.next.new.self c.in-Some.pair c.in-Some.ensures.steps c.args.found.now.items c.loop-pair.found.items
    (sym c.is_same.ensures ∙ c.if-not-is_same.false) c.loop-pair.invariant

pub list_trees-returns-clause-found : goal.list_trees-returns-clause-found
list_trees-returns-clause-found g t c =
    let o = c.args.objects.now in
    lists_last (g.O.Objects.name_of o) c.sound_if_told.ensures.namer c.args.room c.args.front.now c.args.old c.args.new (g.O.Objects.told o) c.loop-pair.pair-iterator c.args.found.now.items c.loop-pair.found.items c.in-None.ensures.steps.0 c.loop-pair.invariant
