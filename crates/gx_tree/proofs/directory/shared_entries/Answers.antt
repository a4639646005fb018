use Rattle.std.proofs.Common.{sym, subst}
use Rattle.gx_tree.specs.Homes.{AreAtHome}
use Rattle.gx_tree.proofs.directory.shared_entries.Goals as goal

pub returns-clause-home : goal.returns-clause-home
returns-clause-home g c name rs h = c.in_ok-share_into.ensures.home name rs (subst (AreAtHome name rs) (sym c.in_ok-shared.ensures.items) tt, h)
