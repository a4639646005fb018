use Rattle.gx_tree.proofs.Rooms.{fits_reach}
use Rattle.gx_tree.proofs.directory.Directory.fits.Goals as goal

pub returns : goal.returns
returns g c = fits_reach c.reach.result c.args.room c.args.self.now.files c.requires c.reach.ensures
