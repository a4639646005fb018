use Rattle.std.proofs.Common.{subst}
use Rattle.gx_model.specs.Revisions.{minus_or_alone}
use Rattle.gx_rev.specs.Ranges.{ReadsRange}
use Rattle.gx_rev.proofs.range.read_last.Goals as goal

pub returns-in-None : goal.returns-in-None
returns-in-None g c = subst (λ cut. ReadsRange c.read_alone.result (minus_or_alone c.args.text.now cut)) c.in-None.ensures c.read_alone.ensures
