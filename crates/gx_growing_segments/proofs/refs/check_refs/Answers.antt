use Rattle.std.proofs.Common.{◌≡◌, ◌+◌, ◌-◌, suc, None, arith, subst}
use Rattle.std.specs.Option.{option_map}
use Rattle.std.proofs.lemmas.Result.{err_from_is_err_and}
use Rattle.gx_growing_segments.proofs.Counted.{RefsAhead, no_refs, one_ref, ref_refused}
use Rattle.gx_growing_segments.proofs.refs.check_refs.Goals as goal

pub loop-init : goal.loop-init
loop-init g c =
    let all : c.args.count ≡ c.args.count - 0 = omega arith in
    subst (λ n. RefsAhead c.args.repo.now.1.records c.args.count c.args.text.now n None c.args.text.now) all (no_refs c.args.repo.now.1.records c.args.count c.args.text.now)

pub returns-in_err-name-clause-refs : goal.returns-in_err-name-clause-refs
returns-in_err-name-clause-refs g c =
    let p = err_from_is_err_and c.from_residual.result c.from_residual.ensures.1 in
    let next : c.args.count - c.loop.counter ≡ suc (c.args.count - (c.loop.counter + 1)) = omega (arith, c.loop-test.true) in
    rw (p.1, p.2) (ref_refused c.args.repo.now.1.records c.args.count c.args.text.now (c.args.count - c.loop.counter) (option_map (λ last. last.now) c.loop.last) c.loop.rest.now c.loop.invariant
    (c.args.count - (c.loop.counter + 1)) next c.in_err-name.field-0.0 c.in_err-name.ensures.one)

pub loop-preserved : goal.loop-preserved
loop-preserved g c =
    let next : c.args.count - c.loop.counter ≡ suc (c.args.count - (c.loop.counter + 1)) = omega (arith, c.loop-test.true) in
    one_ref c.args.repo.now.1.records c.args.count c.args.text.now (c.args.count - c.loop.counter) (option_map (λ last. last.now) c.loop.last) c.loop.rest.now c.loop.invariant
    (c.args.count - (c.loop.counter + 1)) next c.in_ok-name.name.now c.in_ok-name.behind.now c.in_ok-name.ensures.one
