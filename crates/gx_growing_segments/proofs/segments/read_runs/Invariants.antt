use Rattle.std.proofs.Common.{◌-◌, map}
use Rattle.gx_growing_parts.specs.Shown.{shown_run}
use Rattle.gx_growing_segments.proofs.Counted.{RunsAhead}
use Rattle.gx_growing_segments.proofs.segments.read_runs.Given as goal

abbrev pub invariant-loop : goal.invariant-loop
invariant-loop g l = RunsAhead l.fn.count l.fn.text (map shown_run l.runs.items) (l.count - l.counter) l.rest
