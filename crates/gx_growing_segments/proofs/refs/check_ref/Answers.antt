use Rattle.std.proofs.Common.{sym}
use Rattle.std.specs.Option.{option_map}
use Rattle.std.proofs.lemmas.Result.{err_from_is_err_and}
use Rattle.gx_file.specs.Gathering.{shown_change}
use Rattle.gx_growing_segments.proofs.CheckedRefs.{line_refused, no_order, no_target, taken}
use Rattle.gx_growing_segments.proofs.refs.check_ref.Goals as goal

pub returns-in_err-change-clause-one : goal.returns-in_err-change-clause-one
returns-in_err-change-clause-one g c =
    let p = err_from_is_err_and c.from_residual.result c.from_residual.ensures.1 in
    rw (p.1, p.2) (line_refused c.args.repo.now.1.records (option_map (λ last. last.now) c.args.last) c.args.text.now c.in_err-change.field-0.0 c.in_err-change.ensures.change)

pub returns-then-not-may_hold-clause-one : goal.returns-then-not-may_hold-clause-one
returns-then-not-may_hold-clause-one g c =
    no_target c.args.repo.now.1.records (option_map (λ last. last.now) c.args.last) c.args.text.now (shown_change (c.in_ok-change.change, c.in_ok-change.rest)) c.in_ok-change.ensures.change (sym c.if-not-may_hold.ensures)

pub returns-then-not-is_after-clause-one : goal.returns-then-not-is_after-clause-one
returns-then-not-is_after-clause-one g c =
    no_order c.args.repo.now.1.records (option_map (λ last. last.now) c.args.last) c.args.text.now (shown_change (c.in_ok-change.change, c.in_ok-change.rest)) c.in_ok-change.ensures.change (sym c.if-not-may_hold.ensures) (sym c.if-not-is_after.ensures)

pub returns-clause-one : goal.returns-clause-one
returns-clause-one g c =
    taken c.args.repo.now.1.records (option_map (λ last. last.now) c.args.last) c.args.text.now (shown_change (c.in_ok-change.change, c.in_ok-change.rest)) c.in_ok-change.ensures.change (sym c.if-not-may_hold.ensures) (sym c.if-not-is_after.ensures)
