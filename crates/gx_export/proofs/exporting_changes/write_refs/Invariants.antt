use Rattle.std.proofs.Common.{List, take, Ok}
use Rattle.std.specs.List.{flat_map}
use Rattle.gx_model.specs.Changes.{named_in}
use Rattle.gx_model.specs.Histories.Values.{Value}
use Rattle.gx_export.specs.Marks.{Adds, HasWritten}
use Rattle.gx_export.proofs.RefLines.{tip_items}
use Rattle.gx_export.proofs.exporting_changes.write_refs.Given as goal

abbrev pub invariant-loop-tip : goal.invariant-loop-tip
invariant-loop-tip g l =
    (ws : List Value) → HasWritten l.repo.1 ws l.fn.written
    → Adds l.repo.1 ws (flat_map (tip_items l.repo.1 (named_in (g.N.Namer.name_of l.repo.0) ws)) (take l.tip-index l.refs)) l.fn.written l.written (Ok tt)
