use Rattle.std.proofs.Common.{None, map, ◌+◌, ◌-◌, ℕ}
use Rattle.std.specs.Option.{option_map}
use Rattle.gx_repo.specs.Refs.{shown_update}
use Rattle.gx_file.specs.Gathering.{gathered}
use Rattle.gx_file.proofs.GatheredRefs.{AreGathered}
use Rattle.gx_file.proofs.refs.gather.Given as goal

abbrev pub invariant-loop : goal.invariant-loop
invariant-loop g l = record {
  listed : AreGathered (gathered l.count None l.text) (map shown_update l.changes.items) (l.count - l.counter) (option_map (λ last. last.now) l.last) l.rest;
  ahead : (m : ℕ) → AreGathered (gathered (l.counter + m) None l.text) (map shown_update l.changes.items) m (option_map (λ last. last.now) l.last) l.rest;
}
