use Rattle.std.proofs.Common.{refl, subst, sym}
use Rattle.gx_cli.specs.Serving.{ServesStream}
use Rattle.gx_cli.specs.Trying.{FindsFault}
use Rattle.gx_cli.proofs.serving.serve_stream.Goals as goal

pub returns-in-WhereFault : goal.returns-in-WhereFault
returns-in-WhereFault g c =
    let name = g.N.Namer.name_of c.args.namer in
    let coming = g.R.Source.coming c.args.source in
    let was = g.W.Sink.taken c.args.sink.now in
    let found = subst (λ asks. FindsFault name asks coming c.find_fault.result) c.features_of-features-in-WhereFault.ensures c.find_fault.ensures.found in
    subst (λ t. ServesStream name t coming was was c.outcome_of-in-WhereFault.result) (sym c.in-WhereFault.is) ((c.find_fault.result, found, c.outcome_of-in-WhereFault.ensures), refl)
