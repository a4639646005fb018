use Rattle.std.proofs.Common.{ap}
use Rattle.gx_model.proofs.Records.HeldValues.{got}
use Rattle.gx_rev.proofs.objects.body_of.Goals as goal

pub returns : goal.returns
returns g c =
    ap (λ o. o.1) (got (g.N.Namer.name_of c.args.repo.now.0) (g.met.N.Namer.is_namer c.args.repo.now.0) c.args.repo.now.1 c.store.ensures.sound c.args.name.now.bytes (c.in-Some.field-0-0, c.in-Some.body.now) c.requires (rw c.store.ensures.held at c.in-Some.ensures))
