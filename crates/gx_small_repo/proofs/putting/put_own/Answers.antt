use Rattle.gx_small_repo.proofs.OfWhole.{own_stays}
use Rattle.gx_small_repo.proofs.putting.put_own.Goals as goal

pub returns-clause-small : goal.returns-clause-small
returns-clause-small g c =
    own_stays (g.O.Objects.told c.args.origin.now.objects.now) (g.N.Namer.name_of c.args.repo.now.0.namer) c.args.repo.now.1 c.put.new.repo.1 c.args.name.now.bytes c.in_ok-body.body.now c.put.result c.requires.small
    c.args.kind c.in_ok-body.ensures.held c.put.ensures.put
