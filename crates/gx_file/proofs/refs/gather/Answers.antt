use Rattle.std.proofs.Common.{None, map, sym, ◌∙◌, refl, arith}
use Rattle.std.proofs.lemmas.List.{map-append}
use Rattle.std.proofs.lemmas.Result.{err_from_is_err_and}
use Rattle.std.specs.Option.{option_map}
use Rattle.gx_repo.specs.Refs.{shown_update}
use Rattle.gx_file.specs.Gathering.{first_ref, gathered}
use Rattle.gx_file.proofs.GatheredRefs.{all_gathered, front_gathered, none_more, one_behind, one_disordered, one_gathered, one_refused}
use Rattle.gx_file.proofs.WantingHeads.{right}
use Rattle.gx_file.proofs.refs.gather.Goals as goal

pub returns-in_err-change-clause-refs : goal.returns-in_err-change-clause-refs
returns-in_err-change-clause-refs g c =
    let p = err_from_is_err_and c.from_residual.result c.from_residual.ensures.1 in
    rw (p.1, p.2) (one_refused (gathered c.args.count None c.args.text.now) (map shown_update c.loop.changes.items) c.args.count c.loop.counter (option_map (λ last. last.now) c.loop.last) c.loop.rest.now c.loop.invariant.listed
    c.in_err-change.field-0.0 c.loop-test.true c.in_err-change.ensures.change)

pub returns-then-not-is_after-clause-refs : goal.returns-then-not-is_after-clause-refs
returns-then-not-is_after-clause-refs g c =
    rw (c.in_ok-push.ensures.items, map-append) (one_disordered (gathered c.args.count None c.args.text.now) (map shown_update c.loop.changes.items) c.args.count c.loop.counter (option_map (λ last. last.now) c.loop.last) c.loop.rest.now c.loop.invariant.listed
    (shown_update c.in_ok-change.change) c.in_ok-change.after.now c.loop-test.true c.in_ok-change.ensures.change (sym c.is_after.ensures ∙ c.if-not-is_after.true))

pub loop-preserved : goal.loop-preserved
loop-preserved g c =
    let refs = map shown_update c.loop.changes.items in
    let last = option_map (λ last. last.now) c.loop.last in
    let ref = shown_update c.in_ok-change.change in
    let after = sym c.is_after.ensures ∙ c.if-not-is_after.false in
    rw (c.in_ok-push.ensures.items, map-append) (record {
      listed = one_gathered (gathered c.args.count None c.args.text.now) refs c.args.count c.loop.counter last c.loop.rest.now c.loop.invariant.listed ref c.in_ok-change.after.now c.loop-test.true c.in_ok-change.ensures.change after;
      ahead = one_behind c.args.text.now c.loop.counter refs last c.loop.rest.now c.loop.invariant.ahead ref c.in_ok-change.after.now c.in_ok-change.ensures.change after;
    })

pub returns-clause-refs : goal.returns-clause-refs
returns-clause-refs g c =
    all_gathered (gathered c.args.count None c.args.text.now) (map shown_update c.loop.changes.items) c.args.count c.loop.counter (option_map (λ last. last.now) c.loop.last) c.loop.rest.now c.loop.invariant.listed
    c.loop.rest refl (omega arith)

pub returns-in_err-push-clause-refs : goal.returns-in_err-push-clause-refs
returns-in_err-push-clause-refs g c =
    let p = err_from_is_err_and c.from_residual-in_err-push.result c.from_residual-in_err-push.ensures.1 in
    rw (p.1, p.2, c.in_err-push.ensures.items) (none_more (gathered c.args.count None c.args.text.now) (map shown_update c.loop.changes.items) c.args.count c.loop.counter (option_map (λ last. last.now) c.loop.last) c.loop.rest.now c.loop.invariant.listed)

pub returns-in_err-push-clause-memory : goal.returns-in_err-push-clause-memory
returns-in_err-push-clause-memory g c =
    let p = err_from_is_err_and c.from_residual-in_err-push.result c.from_residual-in_err-push.ensures.1 in
    let refs = map shown_update c.loop.changes.items in
    let last = option_map (λ last. last.now) c.loop.last in
    rw (p.1, p.2, c.in_err-push.ensures.items) (λ w. (
      c.loop.counter,
      c.loop-test.true,
      c.loop.rest.now,
      front_gathered c.args.text.now c.loop.counter refs last c.loop.rest.now c.loop.invariant.ahead,
      right (first_ref c.loop.rest.now) _ c.in_ok-change.ensures.change,
    ))
