use Rattle.std.proofs.Common.{arith, subst}
use Rattle.gx_tree.specs.Homes.{IsItemAtHome}
use Rattle.gx_tree.proofs.Below.{sub_map-none}
use Rattle.gx_tree.proofs.directory.Directory.held_at.Goals as goal

pub returns-then-len-eq0-clause-held : goal.returns-then-len-eq0-clause-held
returns-then-len-eq0-clause-held g c = sub_map-none c.args.path.now c.args.self.now.files (omega arith)

pub returns-in-Folder-clause-home : goal.returns-in-Folder-clause-home
returns-in-Folder-clause-home g c name rs h = subst (IsItemAtHome name rs) c.in-Folder.is (c.in_ok-mode.ensures.home name rs h)
