use Rattle.gx_object.specs.WideBodies.{shown_any_commit}
use Rattle.gx_object.proofs.WideBodies.{commit_found, commit_only}
use Rattle.gx_object.proofs.any_commit.decode_any_commit.Goals as goal

pub returns-clause-found : goal.returns-clause-found
returns-clause-found c = commit_found shown_any_commit c.args.body.now c.read_any_commit.result c.ok_or.result c.ok_or.ensures.ok_part c.read_any_commit.ensures

pub returns-clause-only : goal.returns-clause-only
returns-clause-only c = commit_only shown_any_commit c.args.body.now c.read_any_commit.result c.ok_or.result c.ok_or.ensures.ok_part c.read_any_commit.ensures
