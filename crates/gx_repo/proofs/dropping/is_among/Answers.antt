use Rattle.std.proofs.Common.{true, false, refl, ap, sym, ◌∙◌, drop_of_length-le}
use Rattle.gx_repo.specs.Dropping.{is_among}
use Rattle.gx_text.specs.Lent.{lent_texts}
use Rattle.gx_repo.proofs.DroppedRefs.{among_next}
use Rattle.gx_repo.proofs.dropping.is_among.Goals as goal

pub loop-given-init : goal.loop-given-init
loop-given-init c = refl

pub loop-given-preserved : goal.loop-given-preserved
loop-given-preserved c = sym (among_next c.args.names.now c.loop-given.given-index _ c.args.name.now false c.loop-given-test.true (sym c.eq.ensures ∙ c.if-eq.false)) ∙ c.loop-given.invariant

pub returns-then-eq : goal.returns-then-eq
returns-then-eq c = sym (among_next c.args.names.now c.loop-given.given-index _ c.args.name.now true c.loop-given-test.true (sym c.eq.ensures ∙ c.if-eq.true)) ∙ c.loop-given.invariant

pub returns : goal.returns
returns c = sym (ap (λ ns. is_among (lent_texts ns) c.args.name.now) (drop_of_length-le c.args.names.now c.loop-given-test.false)) ∙ c.loop-given.invariant
