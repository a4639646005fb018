use Rattle.std.proofs.Common.{◌≡◌, ◌+◌, ◌-◌, ℕ}
use Rattle.gx_model.specs.Stores.StoreReading.{next_records}
use Rattle.gx_file.specs.TextEnds.{EndsWith}
use Rattle.gx_file.proofs.records.read_records.Given as goal

abbrev pub invariant-loop : goal.invariant-loop
invariant-loop g l = record {
  left : EndsWith l.whole l.rest;
  namer : l.repo.0 ≡ l.fn.repo.0;
  refs : l.repo.1.refs ≡ l.fn.repo.1.refs;
  records : next_records (g.N.Namer.name_of l.fn.repo.0) l.version l.count l.fn.repo.1.records l.fn.text ≡ next_records (g.N.Namer.name_of l.fn.repo.0) l.version (l.count - l.counter) l.repo.1.records l.rest;
  ahead : (m : ℕ) → next_records (g.N.Namer.name_of l.fn.repo.0) l.version (l.counter + m) l.fn.repo.1.records l.fn.text ≡ next_records (g.N.Namer.name_of l.fn.repo.0) l.version m l.repo.1.records l.rest;
}
