use Rattle.gx_model.proofs.Export.KeptCommits.{commit_keeps}
use Rattle.gx_model.proofs.export_laws.commits_are_replayed.Goals as goal

pub returns-clause-kept : goal.returns-clause-kept
returns-clause-kept c = commit_keeps
