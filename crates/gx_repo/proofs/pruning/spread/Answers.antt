use Rattle.std.proofs.Common.{◌≡◌, ◌+◌, ◌-◌, ◌<◌, ◌∙◌, [], None, Some, drop, get_or, length, sym, subst, arith}
use Rattle.std.proofs.lemmas.Option.{slice_get-get_or}
use Rattle.gx_model.specs.Pruning.{is_reachable}
use Rattle.gx_repo.specs.Pruning.{marks_by}
use Rattle.gx_repo.proofs.Places.{no_record}
use Rattle.gx_repo.proofs.PrunedRecords.{body_at, spread_none, spread_on, spread_past}
use Rattle.gx_repo.proofs.pruning.spread.Goals as goal

pub loop-left-init : goal.loop-left-init
loop-left-init g c = (c.requires.long, omega (arith, c.requires.long), λ refs e. spread_none refs c.args.store.now.1 (length c.args.marks.now) c.args.marks.now (omega (arith, c.requires.long)) e)

pub unreachable-requires : goal.unreachable-requires
unreachable-requires g c =
    let rs = c.args.store.now.1 in
    let k = c.loop-left.left - 1 in
    let within : k < length rs = omega (arith, c.loop-left.invariant.1, c.loop-left-test.true) in
    let clash : None ≡ Some (get_or rs k no_record) = c.in_default.ensures ∙ slice_get-get_or rs k no_record within in
    cc

pub mark_links-requires-clause-canonical : goal.mark_links-requires-clause-canonical
mark_links-requires-clause-canonical g c = body_at [] c.args.store.now.1 c.requires.sound.linked (c.loop-left.left - 1) _ (sym c.in-Some.ensures)

pub loop-left-preserved-then-marks-left : goal.loop-left-preserved-then-marks-left
loop-left-preserved-then-marks-left g c =
    let rs = c.args.store.now.1 in
    let k = c.loop-left.left - 1 in
    let next : c.loop-left.left ≡ k + 1 = omega (arith, c.loop-left-test.true) in (
      omega (arith, c.loop-left.invariant.0, c.mark_links.auto.marks),
      omega (arith, c.loop-left.invariant.1),
      λ refs e. spread_on refs rs k c.loop-left.marks (subst (λ n. c.loop-left.marks ≡ marks_by (is_reachable refs (drop n rs)) rs) next (c.loop-left.invariant.2 refs e)) _ c.mark_links.new.marks (sym c.in-Some.ensures) c.if-marks-left.true c.mark_links.ensures,
    )

pub loop-left-preserved : goal.loop-left-preserved
loop-left-preserved g c =
    let rs = c.args.store.now.1 in
    let k = c.loop-left.left - 1 in
    let next : c.loop-left.left ≡ k + 1 = omega (arith, c.loop-left-test.true) in (
      c.loop-left.invariant.0,
      omega (arith, c.loop-left.invariant.1),
      λ refs e. spread_past refs rs k c.loop-left.marks (subst (λ n. c.loop-left.marks ≡ marks_by (is_reachable refs (drop n rs)) rs) next (c.loop-left.invariant.2 refs e)) (omega (arith, c.loop-left.invariant.1, c.loop-left-test.true)) c.if-marks-left.false,
    )

pub returns : goal.returns
returns g c =
    let rs = c.args.store.now.1 in
    let none : c.loop-left.left ≡ 0 = omega (arith, c.loop-left-test.false) in
    λ refs e. subst (λ n. c.loop-left.marks ≡ marks_by (is_reachable refs (drop n rs)) rs) none (c.loop-left.invariant.2 refs e)
