use Rattle.std.proofs.Common.{◌≡◌, ◌+◌, ◌<◌, ◌∷◌, [], arith, length, map, drop, refl, sym, ap, subst, ◌∙◌}
use Rattle.std.specs.Prelude.{slice_index_or}
use Rattle.std.proofs.lemmas.List.{drop_all, drop_more}
use Rattle.std.proofs.lemmas.Result.{err_from_is_err_and}
use Rattle.gx_model.specs.declared.faults.Fault.TheVariants.{OutOfMemory}
use Rattle.gx_model.specs.Faults.{IsFaultOf}
use Rattle.gx_model.specs.Replay.{committed_for}
use Rattle.gx_command.specs.Views.{shown_commit_ish}
use Rattle.gx_import.specs.Asking.{AsksByMerge, of_commit_ish, shown_asked}
use Rattle.gx_import.proofs.AskedReferences.{none_vain}
use Rattle.gx_import.proofs.MergedParents.{ArePartOf, ArePassed, next_passed, none_passed, part_all, part_more, part_none, part_refused, passed_vain}
use Rattle.gx_import.proofs.commit.parents.Goals as goal

pub loop-place-init : goal.loop-place-init
loop-place-init g c = record {
  walk = c.new-first_parents.ensures c.args.repo.now.1;
  same = refl;
  blank = c.requires.unasked;
  named = λ s made h first.
      let name = g.N.Namer.name_of c.args.repo.now.0 in
      part_none name c.args.commit.now.branch.bytes.items s made (map shown_commit_ish c.args.commit.now.merges.items) c.args.first first c.in_ok-parents.parents.items c.in_ok-parents.ensures;
  passed = λ s h. none_passed (g.N.Namer.name_of c.args.repo.now.0) c.args.commit.now.branch.bytes.items s (map shown_commit_ish c.args.commit.now.merges.items);
}

pub returns-in-Err-clause-names : goal.returns-in-Err-clause-names
returns-in-Err-clause-names g c = λ s made h first.
    let name = g.N.Namer.name_of c.args.repo.now.0 in
    let e = c.in-Err.kind in
    let b = c.args.commit.now.branch.bytes.items in
    let xs = c.args.commit.now.merges.items in
    let i = c.loop-place.place in
    let item = c.index-merged.result.now in
    let same = c.loop-place.invariant.same in
    let within : i < length xs = omega (arith, c.loop-place-test.true, c.len-place-end.ensures) in
    let is : item ≡ slice_index_or xs i item = c.index-merged.ensures ∙ ap (λ z. slice_index_or z.merges.items i item) same in
    let rest : map shown_commit_ish (drop i xs) ≡ shown_commit_ish item ∷ map shown_commit_ish (drop (i + 1) xs) = ap (map shown_commit_ish) (drop_more xs i item within ∙ ap (λ x. x ∷ drop (i + 1) xs) (sym is)) in
    let so_far = subst (λ left. ArePartOf name b s made (map shown_commit_ish xs) left c.loop-place.parents.items) rest (c.loop-place.invariant.named s made h first) in
    let refused = subst (λ z. IsFaultOf e (committed_for name z s (shown_commit_ish item))) (c.as_slice-branch.ensures.value ∙ ap (λ z. z.branch.bytes.items) same) (c.in-Err.ensures.names s h) in
    part_refused name b s made (map shown_commit_ish xs) (map shown_commit_ish (drop (i + 1) xs)) (shown_commit_ish item) c.loop-place.parents.items so_far e refused

pub returns-in-Err-clause-asked : goal.returns-in-Err-clause-asked
returns-in-Err-clause-asked g c = λ s h.
    let name = g.N.Namer.name_of c.args.repo.now.0 in
    let e = c.in-Err.kind in
    let b = c.args.commit.now.branch.bytes.items in
    let xs = c.args.commit.now.merges.items in
    let i = c.loop-place.place in
    let item = c.index-merged.result.now in
    let taken = c.swap_remove-merged.result in
    let same = c.loop-place.invariant.same in
    let within : i < length xs = omega (arith, c.loop-place-test.true, c.len-place-end.ensures) in
    let is : item ≡ slice_index_or xs i item = c.index-merged.ensures ∙ ap (λ z. slice_index_or z.merges.items i item) same in
    let was : taken ≡ slice_index_or xs i taken = c.swap_remove-merged.ensures.value ∙ ap (λ z. slice_index_or z.merges.items i taken) same in
    let one : slice_index_or xs i taken ≡ slice_index_or xs i item = cc (sym (drop_more xs i taken within) ∙ drop_more xs i item within) in
    let rest : map shown_commit_ish (drop i xs) ≡ shown_commit_ish item ∷ map shown_commit_ish (drop (i + 1) xs) = ap (map shown_commit_ish) (drop_more xs i item within ∙ ap (λ x. x ∷ drop (i + 1) xs) (sym is)) in
    let so_far = subst (λ left. ArePassed name b s (map shown_commit_ish xs) left) rest (c.loop-place.invariant.passed s h) in
    let refused = subst (λ z. IsFaultOf e (committed_for name z s (shown_commit_ish item))) (c.as_slice-branch.ensures.value ∙ ap (λ z. z.branch.bytes.items) same) (c.in-Err.ensures.names s h) in
    passed_vain name b s (map shown_commit_ish xs) (map shown_commit_ish (drop (i + 1) xs)) (shown_commit_ish item) so_far e refused (shown_asked c.of_commit_ish.result)
    (c.of_commit_ish.ensures ∙ ap (λ x. of_commit_ish (shown_commit_ish x)) (was ∙ one ∙ sym is))

pub loop-place-preserved : goal.loop-place-preserved
loop-place-preserved g c =
    let name = g.N.Namer.name_of c.args.repo.now.0 in
    let b = c.args.commit.now.branch.bytes.items in
    let xs = c.args.commit.now.merges.items in
    let i = c.loop-place.place in
    let item = c.index-merged.result.now in
    let same = c.loop-place.invariant.same in
    let within : i < length xs = omega (arith, c.loop-place-test.true, c.len-place-end.ensures) in
    let is : item ≡ slice_index_or xs i item = c.index-merged.ensures ∙ ap (λ z. slice_index_or z.merges.items i item) same in
    let rest : map shown_commit_ish (drop i xs) ≡ shown_commit_ish item ∷ map shown_commit_ish (drop (i + 1) xs) = ap (map shown_commit_ish) (drop_more xs i item within ∙ ap (λ x. x ∷ drop (i + 1) xs) (sym is)) in
    let left = map shown_commit_ish (drop (i + 1) xs) in
    let committed = rw (c.as_slice-branch.ensures.value, same) at c.in-Ok.ensures.names in
    record {
      walk = c.in-Ok.ensures.walk;
      same = same;
      blank = c.loop-place.invariant.blank;
      named = λ s made h first.
          let k = committed s h in
          let so_far = subst (λ left. ArePartOf name b s made (map shown_commit_ish xs) left c.loop-place.parents.items) rest (c.loop-place.invariant.named s made h first) in
          subst (ArePartOf name b s made (map shown_commit_ish xs) left) (sym c.in_ok-push-in-Ok.ensures.items) (part_more name b s made (map shown_commit_ish xs) left (shown_commit_ish item) c.loop-place.parents.items so_far k.0 c.in-Ok.name k.1 k.2);
      passed = λ s h.
          let k = committed s h in
          next_passed name b s (map shown_commit_ish xs) left (shown_commit_ish item) (subst (λ left. ArePassed name b s (map shown_commit_ish xs) left) rest (c.loop-place.invariant.passed s h)) k.0 k.1;
    }

pub returns-clause-names : goal.returns-clause-names
returns-clause-names g c = λ s made h first.
    let name = g.N.Namer.name_of c.args.repo.now.0 in
    let b = c.args.commit.now.branch.bytes.items in
    let xs = c.args.commit.now.merges.items in
    let i = c.loop-place.place in
    let none : map shown_commit_ish (drop i xs) ≡ [] = ap (map shown_commit_ish) (drop_all i xs (omega (arith, c.loop-place-test.false, c.len-place-end.ensures))) in
    part_all name b s made (map shown_commit_ish xs) c.loop-place.parents.items (subst (λ rest. ArePartOf name b s made (map shown_commit_ish xs) rest c.loop-place.parents.items) none (c.loop-place.invariant.named s made h first))

pub returns-clause-kept : goal.returns-clause-kept
returns-clause-kept g c = c.loop-place.invariant.same

pub returns-clause-unasked : goal.returns-clause-unasked
returns-clause-unasked g c = c.loop-place.invariant.blank

pub returns-clause-asked : goal.returns-clause-asked
returns-clause-asked g c = λ s h. c.loop-place.invariant.blank

pub index-merged-requires : goal.index-merged-requires
index-merged-requires g c = omega (arith, c.loop-place-test.true, c.len-place-end.ensures, ap (λ z. length z.merges.items) c.loop-place.invariant.same)

pub swap_remove-merged-requires : goal.swap_remove-merged-requires
swap_remove-merged-requires g c = omega (arith, c.loop-place-test.true, c.len-place-end.ensures, ap (λ z. length z.merges.items) c.loop-place.invariant.same)

pub returns-in_err-push-in-Ok-clause-asked : goal.returns-in_err-push-in-Ok-clause-asked
returns-in_err-push-in-Ok-clause-asked g c = λ s h.
    let name = g.N.Namer.name_of c.args.repo.now.0 in
    let p = err_from_is_err_and c.from_residual-in_err-push-in-Ok.result c.from_residual-in_err-push-in-Ok.ensures.1 in
    let xs = map shown_commit_ish c.args.commit.now.merges.items in
    rw (p.1, p.2) (none_vain (AsksByMerge name c.args.commit.now.branch.bytes.items s xs OutOfMemory) OutOfMemory c.loop-place.asked c.loop-place.invariant.blank refl)
