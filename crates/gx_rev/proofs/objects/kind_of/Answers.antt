use Rattle.std.proofs.Common.{ap}
use Rattle.gx_model.proofs.Records.HeldValues.{got}
use Rattle.gx_rev.proofs.objects.kind_of.Goals as goal

pub returns : goal.returns
returns g c =
    let name = g.N.Namer.name_of c.args.repo.now.0 in
    ap (λ o. o.0) (got name (g.met.N.Namer.is_namer c.args.repo.now.0) c.args.repo.now.1 c.store.ensures.sound c.args.name.now.bytes (c.in-Some.kind, c.in-Some.field-0-1.now) c.requires (rw c.store.ensures.held at c.in-Some.ensures))
