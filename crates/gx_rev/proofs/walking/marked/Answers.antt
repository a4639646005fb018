use Rattle.std.proofs.Common.{◌≡◌, ◌∙◌, ap, sym, subst, arith, length}
use Rattle.std.proofs.lemmas.List.{with_items_is}
use Rattle.gx_model.specs.Revisions.Ranges.{no_commit}
use Rattle.gx_rev.specs.Tips.{AreTips}
use Rattle.gx_rev.proofs.walking.marked.Goals as goal

pub mark_walked-requires-clause-wanted : goal.mark_walked-requires-clause-wanted
mark_walked-requires-clause-wanted g c = subst (AreTips c.args.repo.now.1 no_commit) (sym c.deref_mut.ensures.value) c.in_ok-included.ensures

pub mark_walked-requires-clause-unwanted : goal.mark_walked-requires-clause-unwanted
mark_walked-requires-clause-unwanted g c = subst (AreTips c.args.repo.now.1 no_commit) (sym c.deref_mut-2.ensures.value) c.in_ok-excluded.ensures

pub returns : goal.returns
returns g c =
    let w = c.in_ok-mark_walked.ensures in
    let one : length c.mark_walked.new.wanted ≡ c.in_ok-included.included.len = omega (arith, c.mark_walked.auto.wanted, ap length c.deref_mut.ensures.value, c.in_ok-included.included.ok) in
    let two : length c.mark_walked.new.unwanted ≡ c.in_ok-excluded.excluded.len = omega (arith, c.mark_walked.auto.unwanted, ap length c.deref_mut-2.ensures.value, c.in_ok-excluded.excluded.ok) in
    (w.0, w.1, with_items_is c.in_ok-included.included c.mark_walked.new.wanted one ∙ w.2, with_items_is c.in_ok-excluded.excluded c.mark_walked.new.unwanted two ∙ w.3)

pub mark_walked-requires-clause-holds : goal.mark_walked-requires-clause-holds
mark_walked-requires-clause-holds g c = c.new-parents.ensures c.args.repo.now.1
