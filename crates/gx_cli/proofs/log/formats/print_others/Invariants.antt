use Rattle.std.proofs.Common.{drop, map}
use Rattle.std.specs.List.{flat_map}
use Rattle.gx_rev.specs.Objects.{commit_at}
use Rattle.gx_print.specs.Logs.{next_entry}
use Rattle.gx_model.proofs.Texts.SentTexts.{IsLeft}
use Rattle.gx_cli.proofs.log.formats.print_others.Given as goal

abbrev pub invariant-loop-name : goal.invariant-loop-name
invariant-loop-name g l =
    IsLeft (flat_map (next_entry (g.N.Namer.name_of l.repo.0) l.options) (map (commit_at l.repo.1) l.names)) (g.W.Sink.taken l.fn.sink) (g.W.Sink.taken l.sink)
    (flat_map (next_entry (g.N.Namer.name_of l.repo.0) l.options) (map (commit_at l.repo.1) (drop l.name-index l.names)))
