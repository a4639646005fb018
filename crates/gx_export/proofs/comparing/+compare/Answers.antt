use Rattle.std.proofs.Common.{◌≡◌, ◌≢◌, ◌+◌, ◌-◌, ◌*◌, ◌<◌, ◌∙◌, ◌++◌, [], ◌∷◌, length, true, false, not, ap, sym, subst, refl, arith, rules}
use denote.Enum.Bare.{same_true, sameb}
use Rattle.std.proofs.lemmas.Result.{err_from_is_err_and}
use Rattle.gx_model.specs.contracts.objects.Mode.{the_type}
use Rattle.gx_model.specs.declared.objects.Mode.TheVariants.{Dir}
use Rattle.gx_model.specs.Changes.{changed_files, gone_paths}
use Rattle.gx_model.specs.Export.{blob_commands, items_text, with_blobs}
use Rattle.gx_model.specs.Records.HistoryOf.{named_values}
use Rattle.gx_tree.specs.Lists.{below}
use Rattle.gx_tree.specs.Nodes.{files}
use Rattle.gx_tree.proofs.LevelsOf.{level_of}
use Rattle.gx_export.specs.Compared.{Compares, IsBelowIf, IsCompared, file_if, paths_below}
use Rattle.gx_export.specs.FileTexts.{bytes_in}
use Rattle.gx_export.specs.Pairs.{entry_order, is_same, shown_pair, side_by_side}
use Rattle.gx_object.specs.Parts.{bytes_if}
use Rattle.gx_export.specs.Texts.{items_of}
use Rattle.gx_export.proofs.BlobLists.{denied}
use Rattle.gx_export.proofs.Pairing.{pair_is, same_pair}
use Rattle.gx_export.proofs.PassedPairs.{all_passed, at_pair, compared_nothing, next_pair, pair_next, pair_stops, pairs_if, tree_there}
use Rattle.gx_export.proofs.SideBySide.{changed_by, kept_order}
use Rattle.gx_export.proofs.Writing.{stops_first}
use Rattle.gx_export.proofs.comparing.+compare.Goals as goal

-- ---- what two trees have at one component

pub compare_pair-returns-in_err-path : goal.compare_pair-returns-in_err-path
compare_pair-returns-in_err-path g t c = λ p held ws h kept.
    let names = below c.args.front.now (changed_files (files p.0) (files p.1)) in
    let q = err_from_is_err_and c.from_residual.result c.from_residual.ensures.1 in
    rw (q.1, q.2) (stops_first c.args.written.now.output (items_text (items_of (blob_commands ws (bytes_in (named_values c.args.repo.now.1.records) names)))))

pub compare_pair-compare_files-requires-clause-held : goal.compare_pair-compare_files-requires-clause-held
compare_pair-compare_files-requires-clause-held g t c =
    let name = g.N.Namer.name_of c.args.repo.now.0 in
    let namer = g.met.N.Namer.is_namer c.args.repo.now.0 in
    let dir : c.in-Some.entry.mode ≢ Dir = λ q. (let f : true ≡ false = c.if-ne.ensures ∙ ap (λ m. not (sameb the_type m Dir)) q in cc f) in
    let x = pair_is name namer c.args.repo.now.1 c.args.room c.args.front.now c.args.pair.now c.requires.held.0 c.requires.held.1 c.in-Some.entry c.in-Some.ensures in
    (x.file dir c.in_ok-path.path c.in_ok-path.ensures c.requires.other).held

pub compare_pair-returns-then-ne : goal.compare_pair-returns-then-ne
compare_pair-returns-then-ne g t c = λ p held ws h kept.
    let name = g.N.Namer.name_of c.args.repo.now.0 in
    let namer = g.met.N.Namer.is_namer c.args.repo.now.0 in
    let r = c.args.repo.now.1 in
    let new = c.args.pair.now.new in
    let path = c.in_ok-path.path in
    let dir : c.in-Some.entry.mode ≢ Dir = λ q. (let f : true ≡ false = c.if-ne.ensures ∙ ap (λ m. not (sameb the_type m Dir)) q in cc f) in
    let x = pair_is name namer r c.args.room c.args.front.now c.args.pair.now p held c.in-Some.entry c.in-Some.ensures in
    let f = x.file dir path c.in_ok-path.ensures c.requires.other in
    subst (λ ns. Compares name r ws ns (paths_below c.args.front.now (gone_paths (files p.0) (files p.1))) c.args.written.now c.compare_files.new.written c.args.changes.now c.compare_files.new.changes c.compare_files.result) f.names
    (subst (λ gs. Compares name r ws (file_if path new) gs c.args.written.now c.compare_files.new.written c.args.changes.now c.compare_files.new.changes c.compare_files.result) f.gone (c.compare_files.ensures ws h kept))

pub compare_pair-compare_trees-requires : goal.compare_pair-compare_trees-requires
compare_pair-compare_trees-requires g t c κs within =
    let name = g.N.Namer.name_of c.args.repo.now.0 in
    let namer = g.met.N.Namer.is_namer c.args.repo.now.0 in
    let r = c.args.repo.now.1 in
    let dir : c.in-Some.entry.mode ≡ Dir = same_true the_type (search rules) _ _ (denied _ c.if-ne.ensures) in
    let x = pair_is name namer r c.args.room c.args.front.now c.args.pair.now c.requires.held.0 c.requires.held.1 c.in-Some.entry c.in-Some.ensures in
    let f = x.folder dir in
    let room = c.args.room - length c.in-Some.entry.component.now - 1 in
    let olds = subst (λ q. IsBelowIf name r room q (bytes_if c.name_in.result) f.1.0) (sym c.in_ok-path.ensures) (subst (λ o. IsBelowIf name r room (c.args.front.now ++ c.in-Some.entry.component.now ∷ []) o f.1.0) (sym c.name_in.ensures) f.1.2.olds) in
    let news = subst (λ q. IsBelowIf name r room q (bytes_if c.name_in-2.result) f.1.1) (sym c.in_ok-path.ensures) (subst (λ o. IsBelowIf name r room (c.args.front.now ++ c.in-Some.entry.component.now ∷ []) o f.1.1) (sym c.name_in-2.ensures) f.1.2.news) in
    let less : 2 * (c.args.room - length c.in-Some.entry.component.now - 1) + 1 < t = (let within = f.0 in omega (arith, c.decreases)) in
    (less, (within.0, (within.1.0, (within.1.1, ((f.1.0, f.1.1, olds, news), c.requires.written)))))

pub compare_pair-returns : goal.compare_pair-returns
compare_pair-returns g t c = λ p held ws h kept.
    let name = g.N.Namer.name_of c.args.repo.now.0 in
    let namer = g.met.N.Namer.is_namer c.args.repo.now.0 in
    let r = c.args.repo.now.1 in
    let dir : c.in-Some.entry.mode ≡ Dir = same_true the_type (search rules) _ _ (denied _ c.if-ne.ensures) in
    let x = pair_is name namer r c.args.room c.args.front.now c.args.pair.now p held c.in-Some.entry c.in-Some.ensures in
    let f = x.folder dir in
    let room = c.args.room - length c.in-Some.entry.component.now - 1 in
    let path = c.in_ok-path.path in
    let at = c.in_ok-path.ensures in
    let olds = subst (λ q. IsBelowIf name r room q (bytes_if c.name_in.result) f.1.0) (sym at) (subst (λ o. IsBelowIf name r room (c.args.front.now ++ c.in-Some.entry.component.now ∷ []) o f.1.0) (sym c.name_in.ensures) f.1.2.olds) in
    let news = subst (λ q. IsBelowIf name r room q (bytes_if c.name_in-2.result) f.1.1) (sym at) (subst (λ o. IsBelowIf name r room (c.args.front.now ++ c.in-Some.entry.component.now ∷ []) o f.1.1) (sym c.name_in-2.ensures) f.1.2.news) in
    let names = ap (λ q. below q (changed_files f.1.0 f.1.1)) at ∙ f.1.2.names in
    let gone = ap (λ q. paths_below q (gone_paths f.1.0 f.1.1)) at ∙ f.1.2.gone in
    subst (λ ns. Compares name r ws ns (paths_below c.args.front.now (gone_paths (files p.0) (files p.1))) c.args.written.now c.compare_trees.new.written c.args.changes.now c.compare_trees.new.changes c.compare_trees.result) names
    (subst (λ gs. Compares name r ws (below path (changed_files f.1.0 f.1.1)) gs c.args.written.now c.compare_trees.new.written c.args.changes.now c.compare_trees.new.changes c.compare_trees.result) gone (c.compare_trees.ensures f.1.0 f.1.1 olds news ws h kept))

-- ---- two trees

pub compare_trees-entries_in-requires : goal.compare_trees-entries_in-requires
compare_trees-entries_in-requires g t c = tree_there (g.N.Namer.name_of c.args.repo.now.0) (g.met.N.Namer.is_namer c.args.repo.now.0) c.args.repo.now.1 c.args.room c.args.front.now c.args.old c.requires.held.0 c.requires.held.2

pub compare_trees-entries_in-requires-2 : goal.compare_trees-entries_in-requires-2
compare_trees-entries_in-requires-2 g t c = tree_there (g.N.Namer.name_of c.args.repo.now.0) (g.met.N.Namer.is_namer c.args.repo.now.0) c.args.repo.now.1 c.args.room c.args.front.now c.args.new c.requires.held.1 c.requires.held.3

pub compare_trees-loop-pair-init : goal.compare_trees-loop-pair-init
compare_trees-loop-pair-init g t c = λ ws f h w a b kept.
    let name = g.N.Namer.name_of c.args.repo.now.0 in
    let namer = g.met.N.Namer.is_namer c.args.repo.now.0 in
    let r = c.args.repo.now.1 in
    let items = c.new-pair-items.ensures ∙ (λ i. side_by_side entry_order (c.entries_in.ensures i) (c.entries_in-2.ensures i)) in
    let all = pairs_if name namer r c.args.room c.args.front.now c.args.old c.args.new f h c.new-pair-items.result items a b in
    record {
      done = [];
      rest = side_by_side kept_order (level_of f) (level_of h);
      split = refl;
      to_come = c.into_iter-pair-iterator.ensures.into_iter_gives ∙ all.items;
      compared = compared_nothing name r ws c.args.written.now c.args.changes.now w kept;
    }

pub compare_trees-compare_pair-requires : goal.compare_trees-compare_pair-requires
compare_trees-compare_pair-requires g t c κs within =
    let name = g.N.Namer.name_of c.args.repo.now.0 in
    let namer = g.met.N.Namer.is_namer c.args.repo.now.0 in
    let r = c.args.repo.now.1 in
    let held = c.requires.held in
    let ws = c.requires.written.0 in
    let w = c.loop-pair.invariant ws held.0 held.1 c.requires.written.1 held.2 held.3 c.requires.written.2 in
    let items = c.new-pair-items.ensures ∙ (λ i. side_by_side entry_order (c.entries_in.ensures i) (c.entries_in-2.ensures i)) in
    let all = pairs_if name namer r c.args.room c.args.front.now c.args.old c.args.new held.0 held.1 c.new-pair-items.result items held.2 held.3 in
    let pairs = side_by_side kept_order (level_of held.0) (level_of held.1) in
    let n = next_pair name pairs w.done w.rest (shown_pair c.in-Some.pair) c.loop-pair.pair-iterator c.next.new.self w.split w.to_come c.in-Some.ensures.steps in
    let here = at_pair name namer r c.args.room c.args.front.now held.0 held.1 c.new-pair-items.result pairs w.done (shown_pair c.in-Some.pair) c.next.new.self c.in-Some.pair all n refl in
    let less : 2 * c.args.room < t = omega (arith, c.decreases) in
    (less, (within.0, (within.1.0, (within.1.1, ((n.pair, here), ((_, w.compared.gathered.adds.0, w.compared.gathered.kept), sym c.is_same.ensures ∙ c.if-not-is_same.true))))))

pub compare_trees-loop-pair-preserved-in-Continue-1 : goal.compare_trees-loop-pair-preserved-in-Continue-1
compare_trees-loop-pair-preserved-in-Continue-1 g t c = λ ws f h w0 a b kept.
    let name = g.N.Namer.name_of c.args.repo.now.0 in
    let namer = g.met.N.Namer.is_namer c.args.repo.now.0 in
    let r = c.args.repo.now.1 in
    let front = c.args.front.now in
    let w = c.loop-pair.invariant ws f h w0 a b kept in
    let items = c.new-pair-items.ensures ∙ (λ i. side_by_side entry_order (c.entries_in.ensures i) (c.entries_in-2.ensures i)) in
    let all = pairs_if name namer r c.args.room front c.args.old c.args.new f h c.new-pair-items.result items a b in
    let pairs = side_by_side kept_order (level_of f) (level_of h) in
    let n = next_pair name pairs w.done w.rest (shown_pair c.in-Some.pair) c.loop-pair.pair-iterator c.next.new.self w.split w.to_come c.in-Some.ensures.steps in
    let here = at_pair name namer r c.args.room front f h c.new-pair-items.result pairs w.done (shown_pair c.in-Some.pair) c.next.new.self c.in-Some.pair all n refl in
    pair_next name r ws front pairs c.loop-pair.pair-iterator c.next.new.self (shown_pair c.in-Some.pair) c.args.written.now c.loop-pair.written c.compare_pair.new.written c.args.changes.now c.loop-pair.changes c.compare_pair.new.changes w n
    (c.in_ok-compare_pair.ensures n.pair here _ w.compared.gathered.adds.0 w.compared.gathered.kept)

pub compare_trees-returns-in_err-compare_pair : goal.compare_trees-returns-in_err-compare_pair
compare_trees-returns-in_err-compare_pair g t c = λ f h a b ws w0 kept.
    let name = g.N.Namer.name_of c.args.repo.now.0 in
    let namer = g.met.N.Namer.is_namer c.args.repo.now.0 in
    let r = c.args.repo.now.1 in
    let front = c.args.front.now in
    let w = c.loop-pair.invariant ws f h w0 a b kept in
    let items = c.new-pair-items.ensures ∙ (λ i. side_by_side entry_order (c.entries_in.ensures i) (c.entries_in-2.ensures i)) in
    let all = pairs_if name namer r c.args.room front c.args.old c.args.new f h c.new-pair-items.result items a b in
    let pairs = side_by_side kept_order (level_of f) (level_of h) in
    let n = next_pair name pairs w.done w.rest (shown_pair c.in-Some.pair) c.loop-pair.pair-iterator c.next.new.self w.split w.to_come c.in-Some.ensures.steps in
    let here = at_pair name namer r c.args.room front f h c.new-pair-items.result pairs w.done (shown_pair c.in-Some.pair) c.next.new.self c.in-Some.pair all n refl in
    let p = err_from_is_err_and c.from_residual.result c.from_residual.ensures.1 in
    rw (p.1, p.2) (pair_stops name r ws front pairs c.loop-pair.pair-iterator c.next.new.self (shown_pair c.in-Some.pair) c.args.written.now c.loop-pair.written c.compare_pair.new.written c.args.changes.now c.loop-pair.changes c.loop-pair.changes w n
    (changed_files f h) c.in_err-compare_pair.field-0.0 all.changed (c.in_err-compare_pair.ensures n.pair here _ w.compared.gathered.adds.0 w.compared.gathered.kept))

pub compare_trees-loop-pair-preserved : goal.compare_trees-loop-pair-preserved
compare_trees-loop-pair-preserved g t c = λ ws f h w0 a b kept.
    let name = g.N.Namer.name_of c.args.repo.now.0 in
    let namer = g.met.N.Namer.is_namer c.args.repo.now.0 in
    let r = c.args.repo.now.1 in
    let front = c.args.front.now in
    let w = c.loop-pair.invariant ws f h w0 a b kept in
    let items = c.new-pair-items.ensures ∙ (λ i. side_by_side entry_order (c.entries_in.ensures i) (c.entries_in-2.ensures i)) in
    let all = pairs_if name namer r c.args.room front c.args.old c.args.new f h c.new-pair-items.result items a b in
    let pairs = side_by_side kept_order (level_of f) (level_of h) in
    let n = next_pair name pairs w.done w.rest (shown_pair c.in-Some.pair) c.loop-pair.pair-iterator c.next.new.self w.split w.to_come c.in-Some.ensures.steps in
    let here = at_pair name namer r c.args.room front f h c.new-pair-items.result pairs w.done (shown_pair c.in-Some.pair) c.next.new.self c.in-Some.pair all n refl in
    let is : is_same (shown_pair c.in-Some.pair) ≡ true = sym c.is_same.ensures ∙ c.if-not-is_same.false in
    let none = same_pair name namer r c.args.room front (shown_pair c.in-Some.pair) n.pair n.told here.shape here.olds here.news is in
    let us = with_blobs ws (bytes_in (named_values r.records) (below front (changed_by w.done))) in
    let nothing = compared_nothing name r us c.loop-pair.written c.loop-pair.changes w.compared.gathered.adds.0 w.compared.gathered.kept in
    pair_next name r ws front pairs c.loop-pair.pair-iterator c.next.new.self (shown_pair c.in-Some.pair) c.args.written.now c.loop-pair.written c.loop-pair.written c.args.changes.now c.loop-pair.changes c.loop-pair.changes w n
    (subst (λ gs. IsCompared name r us (below front (changed_files (files n.pair.0) (files n.pair.1))) (paths_below front gs) c.loop-pair.written c.loop-pair.written c.loop-pair.changes c.loop-pair.changes) (sym none.1)
    (subst (λ fs. IsCompared name r us (below front fs) [] c.loop-pair.written c.loop-pair.written c.loop-pair.changes c.loop-pair.changes) (sym none.0) nothing))

pub compare_trees-returns : goal.compare_trees-returns
compare_trees-returns g t c = λ f h a b ws w0 kept.
    let name = g.N.Namer.name_of c.args.repo.now.0 in
    let namer = g.met.N.Namer.is_namer c.args.repo.now.0 in
    let r = c.args.repo.now.1 in
    let front = c.args.front.now in
    let w = c.loop-pair.invariant ws f h w0 a b kept in
    let items = c.new-pair-items.ensures ∙ (λ i. side_by_side entry_order (c.entries_in.ensures i) (c.entries_in-2.ensures i)) in
    let all = pairs_if name namer r c.args.room front c.args.old c.args.new f h c.new-pair-items.result items a b in
    all_passed name r ws front (side_by_side kept_order (level_of f) (level_of h)) c.loop-pair.pair-iterator c.args.written.now c.loop-pair.written c.args.changes.now c.loop-pair.changes (changed_files f h) (gone_paths f h) c.in-None.ensures.steps.0 all.changed all.gone w
