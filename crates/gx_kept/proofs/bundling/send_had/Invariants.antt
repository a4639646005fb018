use Rattle.std.proofs.Common.{drop}
use Rattle.std.specs.List.{flat_map}
use Rattle.gx_object.specs.Commits.{bytes_of_names}
use Rattle.gx_model.proofs.Texts.SentTexts.{IsLeft}
use Rattle.gx_pack.specs.Bundles.{had_line}
use Rattle.gx_kept.specs.Telling.{AreNames}
use Rattle.gx_kept.proofs.bundling.send_had.Given as goal

abbrev pub invariant-loop-name : goal.invariant-loop-name
invariant-loop-name g l =
    IsLeft (flat_map had_line (bytes_of_names l.had)) (g.W.Sink.taken l.fn.sink) (g.W.Sink.taken l.sink) (flat_map had_line (bytes_of_names (drop l.name-index l.had)))
    × (AreNames (drop l.name-index l.had) → AreNames l.had)
