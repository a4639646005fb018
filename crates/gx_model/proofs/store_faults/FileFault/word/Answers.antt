use Rattle.std.proofs.Common.{sym, ap}
use Rattle.gx_model.specs.Faults.StoreFaults.{word}
use Rattle.gx_model.proofs.store_faults.FileFault.word.Goals as goal

pub returns-in-Dangling : goal.returns-in-Dangling
returns-in-Dangling c = ap word (sym c.in-Dangling.is)
