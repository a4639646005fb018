use Rattle.std.specs.Bool.{passes}
use Rattle.gx_model.proofs.Histories.AddedValues.{value_added}
use Rattle.gx_model.proofs.history_laws.adds_value.Goals as goal

pub returns : goal.returns
returns c = λ vs v h p n. value_added vs v h (passes _ p) n
