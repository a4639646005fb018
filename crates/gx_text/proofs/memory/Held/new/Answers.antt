use Rattle.std.proofs.Common.{ℕ, false, ap}
use Rattle.gx_model.specs.Texts.{Bytes}
use Rattle.gx_text.specs.Devices.{Holding}
use Rattle.gx_text.proofs.memory.Held.new.Goals as goal

abbrev holding : ℕ → Bytes → Holding
holding room bytes = record { taken = record { bytes = bytes; failed = false }; room = room }

pub returns : goal.returns
returns g c = ap (holding c.args.room) c.in_ok-with_capacity.ensures.items
