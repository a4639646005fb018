use Rattle.std.proofs.Common.{None, refl}
use Rattle.gx_tree.specs.Views.{shown_entries}
use Rattle.gx_tree.proofs.Searches.{found_either}
use Rattle.gx_tree.proofs.search.place_at.Goals as goal

pub returns-in-None-clause-missing : goal.returns-in-None-clause-missing
returns-in-None-clause-missing g c is = found_either c.args.component.now (shown_entries c.args.entries.now) None (c.in-None.ensures.missing refl) (c.place_marked-in-None.ensures.missing is)
