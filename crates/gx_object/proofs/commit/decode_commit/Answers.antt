use Rattle.std.proofs.Common.{sym, ◌∙◌}
use Rattle.gx_object.proofs.Commits.{commit_found, commit_only}
use Rattle.gx_object.proofs.commit.decode_commit.Goals as goal

pub returns-clause-found : goal.returns-clause-found
returns-clause-found c = commit_found c.args.body.now c.ok_or.result (sym c.read_commit.ensures ∙ c.ok_or.ensures.ok_part)

pub returns-clause-only : goal.returns-clause-only
returns-clause-only c = commit_only c.args.body.now c.ok_or.result (sym c.read_commit.ensures ∙ c.ok_or.ensures.ok_part)
