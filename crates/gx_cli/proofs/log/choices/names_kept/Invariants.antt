use Rattle.gx_cli.proofs.KeptCommits.{KeptFirst}
use Rattle.gx_cli.proofs.log.choices.names_kept.Given as goal

abbrev pub invariant-loop-name : goal.invariant-loop-name
invariant-loop-name g l = KeptFirst (g.N.Namer.name_of l.repo.0) l.only l.repo.1 l.names l.name-index l.kept.items
