use Rattle.std.proofs.Common.{sym, ap}
use Rattle.gx_model.specs.Objects.Naming.{kind_number}
use Rattle.gx_devices.proofs.namers.number.Goals as goal

pub returns-in-Tag : goal.returns-in-Tag
returns-in-Tag c = ap kind_number (sym c.in-Tag.is)
