use Rattle.std.proofs.Common.{◌-◌}
use Rattle.std.specs.Option.{option_map}
use Rattle.gx_growing_segments.proofs.Counted.{RefsAhead}
use Rattle.gx_growing_segments.proofs.refs.check_refs.Given as goal

abbrev pub invariant-loop : goal.invariant-loop
invariant-loop g l = RefsAhead l.repo.1.records l.fn.count l.fn.text (l.count - l.counter) (option_map (λ last. last.now) l.last) l.rest
