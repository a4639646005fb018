use Rattle.std.proofs.Common.{◌≡◌}
use Rattle.gx_ref_lines.specs.Refs.{shown_refs}
use Rattle.gx_small_repo.specs.Small.{AreOf}
use Rattle.gx_small_repo.proofs.small.set_refs.Given as goal

abbrev pub invariant-loop-name : goal.invariant-loop-name
invariant-loop-name g l = record {
  same : l.repo ≡ l.fn.repo;
  are : AreOf (shown_refs l.lines.refs.items) l.changes.items;
}
