use Rattle.std.proofs.Common.{List}
use Rattle.std.specs.Prelude.{IfSome}
use Rattle.gx_model.specs.Histories.{Record}
use Rattle.gx_plain.specs.Held.{IsHeld}
use Rattle.gx_plain.proofs.FarRecords.{AreRead}
use Rattle.gx_plain.proofs.listing.list_records.Given as goal

abbrev pub invariant-loop : goal.invariant-loop
invariant-loop g l =
    (rs : List Record) × IsHeld (g.N.Namer.name_of l.namer) l.listing l.rooms.items rs × IfSome (g.S.ReadAt.text l.source) (λ text. AreRead (g.N.Namer.name_of l.namer) text l.start l.counter l.place l.listing rs)
