use Rattle.std.proofs.Common.{◌≡◌, ◌+◌, ◌-◌, suc, true, false, sym, ◌∙◌, arith}
use Rattle.std.specs.Bool.{passes}
use Rattle.std.specs.Option.{option_map}
use Rattle.gx_model.proofs.Texts.PathTests.{same_is}
use Rattle.gx_look.proofs.CheckedRefs.{first_ahead, first_is, last_ahead, never_none, next_ahead, one_left}
use Rattle.gx_look.proofs.refs.are_refs.Goals as goal

pub loop-init : goal.loop-init
loop-init c = record {
  ahead = first_ahead c.args.text.now;
  left = λ refs e h n. record { refs = refs; spelled = e; named = h; before = tt; count = omega (arith, n) };
}

pub returns-in_default-clause-all : goal.returns-in_default-clause-all
returns-in_default-clause-all c = λ refs e h n.
    let next : c.args.count - c.loop.counter ≡ suc (c.args.count - (c.loop.counter + 1)) = omega (arith, c.loop-test.true) in
    absurd (never_none (option_map (λ last. last.now) c.loop.last) c.loop.rest.now _ _ next (c.loop.invariant.left refs e h n) c.in_default.ensures)

pub returns-then-not-is_after-clause-all : goal.returns-then-not-is_after-clause-all
returns-then-not-is_after-clause-all c = λ refs e h n.
    let next : c.args.count - c.loop.counter ≡ suc (c.args.count - (c.loop.counter + 1)) = omega (arith, c.loop-test.true) in
    let one = one_left (option_map (λ last. last.now) c.loop.last) c.loop.rest.now c.in-Some.name.now c.in-Some.behind.now _ _ next (c.loop.invariant.left refs e h n) c.in-Some.ensures in
    let l : false ≡ true = sym c.if-not-is_after.true ∙ c.is_after.ensures ∙ one.0 in
    absurd (cc l)

pub loop-preserved : goal.loop-preserved
loop-preserved c =
    let last = option_map (λ last. last.now) c.loop.last in
    let after = sym c.is_after.ensures ∙ c.if-not-is_after.false in
    record {
      ahead = next_ahead c.args.text.now c.loop.rest.now c.in-Some.name.now c.in-Some.behind.now last c.loop.invariant.ahead (first_is c.loop.rest.now c.in-Some.name.now c.in-Some.behind.now c.in-Some.ensures) after;
      left = λ refs e h n.
          let next : c.args.count - c.loop.counter ≡ suc (c.args.count - (c.loop.counter + 1)) = omega (arith, c.loop-test.true) in
          (one_left last c.loop.rest.now c.in-Some.name.now c.in-Some.behind.now _ _ next (c.loop.invariant.left refs e h n) c.in-Some.ensures).1;
    }

pub returns-clause-spelled : goal.returns-clause-spelled
returns-clause-spelled c = λ passed.
    last_ahead c.args.text.now c.loop.rest.now (option_map (λ last. last.now) c.loop.last) c.loop.invariant.ahead (same_is c.loop.rest.now c.as_slice.result.now (passes _ (sym c.eq.ensures ∙ passed)) ∙ c.as_slice.ensures)
