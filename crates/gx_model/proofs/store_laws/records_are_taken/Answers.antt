use Rattle.gx_model.proofs.Records.TakenRecords.{fine, linked, sound_with}
use Rattle.gx_model.proofs.store_laws.records_are_taken.Goals as goal

pub returns : goal.returns
returns c = λ name namer. record { linked = linked name namer; sound = sound_with name namer; fine = fine name namer }
