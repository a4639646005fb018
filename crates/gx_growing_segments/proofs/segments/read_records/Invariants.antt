use Rattle.std.proofs.Common.{◌≡◌, ◌-◌, length}
use Rattle.gx_model.specs.declared.store_versions.Version.TheVariants.{Two}
use Rattle.gx_model.specs.Stores.StoreReading.{next_records}
use Rattle.gx_file.specs.TextEnds.{EndsWith}
use Rattle.gx_growing_segments.proofs.Placed.{ArePlaced}
use Rattle.gx_growing_segments.proofs.segments.read_records.Given as goal

abbrev pub invariant-loop : goal.invariant-loop
invariant-loop g l = record {
  left : EndsWith l.whole l.rest;
  namer : l.repo.0 ≡ l.fn.repo.0;
  refs : l.repo.1.refs ≡ l.fn.repo.1.refs;
  records : next_records (g.N.Namer.name_of l.fn.repo.0) Two l.count l.fn.repo.1.records l.fn.text ≡ next_records (g.N.Namer.name_of l.fn.repo.0) Two (l.count - l.counter) l.repo.1.records l.rest;
  placed : ArePlaced (length l.whole) l.fn.repo.1.records l.fn.places.items l.fn.text l.repo.1.records l.places.items l.rest;
}
