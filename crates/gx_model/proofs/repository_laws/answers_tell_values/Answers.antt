use Rattle.gx_model.proofs.Revisions.ShownValues.{held_value, one_answer}
use Rattle.gx_model.proofs.repository_laws.answers_tell_values.Goals as goal

pub returns : goal.returns
returns c = λ name namer. record { held = held_value name namer; one = one_answer name namer }
