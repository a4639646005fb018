use Rattle.gx_repo.proofs.RefMaps.{put_copied}
use Rattle.gx_repo.proofs.publishing.enter.Goals as goal

pub returns : goal.returns
returns g c =
    put_copied c.in_ok-name.name c.args.name.now c.args.object c.args.objects.now.entries c.insert.new.self.entries c.in_ok-name.ensures.items c.in_ok-insert.ensures.entries
