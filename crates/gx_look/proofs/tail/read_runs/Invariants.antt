use Rattle.std.proofs.Common.{◌≡◌, ◌≤◌, ◌++◌, List, length, map}
use Rattle.std.specs.List.{AllByRecursion, flat_map}
use Rattle.gx_model.specs.Texts.{Bytes}
use Rattle.gx_growing.specs.GrowingText.{Run, run_text}
use Rattle.gx_growing_parts.specs.Shown.{shown_run}
use Rattle.gx_look.specs.Tails.{AreWithin, IsLive}
use Rattle.gx_look.proofs.RunsInLines.{RunsLeft}
use Rattle.gx_look.proofs.tail.read_runs.Given as goal

abbrev pub invariant-loop : goal.invariant-loop
invariant-loop g l =
    record {
      within : AreWithin l.ends l.runs.items;
      seen : length l.runs.items ≡ l.counter;
      left : (runs : List Run) (behind : Bytes) → AllByRecursion (IsLive l.ends) runs → length l.runs.items ≤ length runs → l.initial.rest ≡ flat_map run_text runs ++ behind → RunsLeft l.ends (map shown_run l.runs.items) l.rest runs behind;
    }
