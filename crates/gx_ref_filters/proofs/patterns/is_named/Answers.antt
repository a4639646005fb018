use Rattle.std.proofs.Common.{◌≤◌, ap, arith, length, sym, ◌∙◌}
use Rattle.gx_ref_filters.specs.Patterns.{is_front}
use Rattle.gx_ref_filters.proofs.Named.{named_nowhere, named_there, none_yet, one_more, some_there}
use Rattle.gx_ref_filters.proofs.patterns.is_named.Goals as goal

pub loop-pattern-init : goal.loop-pattern-init
loop-pattern-init c = none_yet c.args.name.now c.args.patterns.now

pub loop-pattern-preserved : goal.loop-pattern-preserved
loop-pattern-preserved c =
    let called = c.args.name.now in
    one_more called c.args.patterns.now c.loop-pattern.pattern-index _ c.loop-pattern-test.true
    (ap (λ p. is_front p called) (sym c.as_bytes.ensures.value) ∙ sym c.is_front.ensures ∙ c.if-is_front.false) c.loop-pattern.invariant

pub returns-then-is_front : goal.returns-then-is_front
returns-then-is_front c =
    let called = c.args.name.now in
    sym (named_there called c.args.patterns.now c.loop-pattern.pattern-index _ c.loop-pattern-test.true (ap (λ p. is_front p called) (sym c.as_bytes.ensures.value) ∙ sym c.is_front.ensures ∙ c.if-is_front.true))

pub returns : goal.returns
returns c =
    let past : length c.args.patterns.now ≤ c.loop-pattern.pattern-index = omega (arith, c.loop-pattern-test.false) in
    sym (named_nowhere c.args.name.now c.args.patterns.now c.loop-pattern.pattern-index (some_there c.args.patterns.now (sym c.is_empty.ensures ∙ c.if-is_empty.false)) past c.loop-pattern.invariant)
