use Rattle.std.proofs.Common.{◌<◌, length}
use Rattle.std.specs.Option.{option_map}
use Rattle.gx_stream.specs.Heard.{heard}
use Rattle.gx_stream.specs.Pulled.{pulls_left, shown_coming}
use Rattle.gx_stream.specs.declared.pulls.SourceState.TheVariants.{Open}
use Rattle.gx_offered.proofs.ReadSources.{IsStill}
use Rattle.gx_offered.proofs.source.read_all.Given as goal

abbrev pub invariant-loop-text : goal.invariant-loop-text
invariant-loop-text g l = record {
  some : 0 < length l.piece.items;
  still : IsStill (option_map heard (g.R.Source.coming l.fn.source)) (shown_coming Open l.room (g.R.Source.coming l.source) l.text.items);
}

abbrev pub decreases-loop-text : goal.decreases-loop-text
decreases-loop-text g l = pulls_left Open l.room
