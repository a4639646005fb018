use Rattle.gx_small_repo.proofs.OfWhole.{blob_stays}
use Rattle.gx_small_repo.proofs.putting.put_blob.Goals as goal

pub returns-clause-small : goal.returns-clause-small
returns-clause-small g c =
    blob_stays (g.O.Objects.told c.args.origin.now.objects.now) (g.N.Namer.name_of c.args.repo.now.0.namer) c.args.repo.now.1 c.put.new.repo.1 c.args.name.now.bytes c.blob_body.result c.put.result c.requires.small
    c.requires.held c.blob_body.ensures.stands c.put.ensures.put
