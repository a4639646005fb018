use Rattle.std.proofs.Common.{◌≡◌, ◌+◌, ◌-◌, ◌∷◌, [], map, suc, ap, arith, subst, sym, ◌∙◌}
use Rattle.std.proofs.lemmas.List.{map-append}
use Rattle.std.proofs.lemmas.Result.{err_from_is_err_and}
use Rattle.gx_growing_parts.specs.Shown.{shown_run}
use Rattle.gx_growing_segments.proofs.Counted.{RunsAhead, one_run, run_refused}
use Rattle.gx_growing_segments.proofs.segments.read_runs.Goals as goal

pub returns-in_err-run : goal.returns-in_err-run
returns-in_err-run g c =
    let p = err_from_is_err_and c.from_residual.result c.from_residual.ensures.1 in
    let next : c.args.count - c.loop.counter ≡ suc (c.args.count - (c.loop.counter + 1)) = omega (arith, c.loop-test.true) in
    rw (p.1, p.2) (run_refused c.args.count c.args.text.now (map shown_run c.loop.runs.items) (c.args.count - c.loop.counter) c.loop.rest.now c.loop.invariant
    (c.args.count - (c.loop.counter + 1)) next c.in_err-run.field-0.0 c.in_err-run.ensures.run)

pub loop-preserved : goal.loop-preserved
loop-preserved g c =
    let m = c.args.count - (c.loop.counter + 1) in
    let run = c.in_ok-run.run' in
    let runs = c.loop.runs.items in
    let next : c.args.count - c.loop.counter ≡ suc m = omega (arith, c.loop-test.true) in
    let pushed = ap (map shown_run) c.in_ok-push.ensures.items ∙ map-append shown_run runs (run ∷ []) in
    subst (λ z. RunsAhead c.args.count c.args.text.now z m c.in_ok-run.behind.now) (sym pushed)
    (one_run c.args.count c.args.text.now (map shown_run runs) (c.args.count - c.loop.counter) c.loop.rest.now c.loop.invariant m next (shown_run run) c.in_ok-run.behind.now c.in_ok-run.ensures.run)
