use Rattle.gx_model.proofs.Pruning.PrunedHistories.{pruned_history, pruned_sound, reached_held, reached_is}
use Rattle.gx_model.proofs.pruning_laws.pruned_stands.Goals as goal

pub returns : goal.returns
returns c = λ name namer. record { reached = reached_is name namer; sound = pruned_sound name namer; history = pruned_history name namer; held = reached_held name namer }
