use Rattle.std.proofs.Common.{Ok, sym, ap}
use Rattle.gx_rev.proofs.shown.commit.Goals as goal

pub view_of-requires : goal.view_of-requires
view_of-requires g c = c.in_ok-commit.ensures.held

pub returns-clause-view : goal.returns-clause-view
returns-clause-view g c = rw c.in_ok-commit.ensures.commit (ap Ok (sym c.view_of.ensures))
