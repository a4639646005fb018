use Rattle.std.proofs.Common.{map, take}
use Rattle.std.specs.List.{AllByRecursion}
use Rattle.gx_repo.specs.Refs.{shown_update}
use Rattle.gx_salvage_refs.specs.Parting.{IsLossBy}
use Rattle.gx_salvage_refs.specs.Salvaging.{ArePartedBy}
use Rattle.gx_salvage_refs.proofs.refs.part.Given as goal

abbrev pub invariant-loop-change : goal.invariant-loop-change
invariant-loop-change g l = record {
  parted : ArePartedBy l.repo.1.records (map shown_update (take l.change-index l.refs)) (map shown_update l.kept.items) l.lost.items;
  lost : AllByRecursion (IsLossBy l.repo.1.records l.bad) l.lost.items;
}
