use Rattle.std.proofs.Common.{false, true}
use Rattle.gx_c.proofs.Heads.{known, unknown}
use Rattle.gx_c.proofs.bundling.commit_of_head.Goals as goal

pub returns-in_default : goal.returns-in_default
returns-in_default g c = unknown c.args.repo.now.1 c.args.head.now c.if-is_empty.ensures c.in_default.ensures

pub returns-then-is_commit : goal.returns-then-is_commit
returns-then-is_commit g c = known c.args.repo.now.1 c.args.head.now c.if-is_empty.ensures c.in-Some.name.bytes c.in-Some.ensures true c.if-is_commit.ensures

pub returns-else-is_commit : goal.returns-else-is_commit
returns-else-is_commit g c = known c.args.repo.now.1 c.args.head.now c.if-is_empty.ensures c.in-Some.name.bytes c.in-Some.ensures false c.if-is_commit.ensures
