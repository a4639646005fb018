use Rattle.std.proofs.Common.{◌≡◌, ◌∙◌, true, false, refl, ap, sym, drop_of_length-le}
use Rattle.std.specs.List.{list_any}
use Rattle.gx_text.specs.Lent.{lent_texts}
use Rattle.gx_diff.specs.Paths.{asks_for}
use Rattle.gx_diff.proofs.Shown.{any_next}
use Rattle.gx_diff.proofs.paths.some_asks_for.Goals as goal

pub loop-one-init : goal.loop-one-init
loop-one-init c = refl

pub loop-one-preserved : goal.loop-one-preserved
loop-one-preserved c = sym (any_next (λ one. asks_for one c.args.path.now) c.args.asked.now c.loop-one.one-index _ false c.loop-one-test.true (sym c.asks_for.ensures ∙ c.if-asks_for.false)) ∙ c.loop-one.invariant

pub returns-then-asks_for : goal.returns-then-asks_for
returns-then-asks_for c = sym (any_next (λ one. asks_for one c.args.path.now) c.args.asked.now c.loop-one.one-index _ true c.loop-one-test.true (sym c.asks_for.ensures ∙ c.if-asks_for.true)) ∙ c.loop-one.invariant

pub returns : goal.returns
returns c = sym (ap (λ ns. list_any (λ one. asks_for one c.args.path.now) (lent_texts ns)) (drop_of_length-le c.args.asked.now c.loop-one-test.false)) ∙ c.loop-one.invariant
