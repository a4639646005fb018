use Rattle.gx_model.specs.Records.HistoryOf.{history_of}
use Rattle.gx_model.proofs.Records.HistoriesAreSound.{sound}
use Rattle.gx_model.proofs.Records.HistoriesExist.{stands}
use Rattle.gx_model.proofs.Records.OneHistory.{one_history}
use Rattle.gx_model.proofs.repository_laws.histories_of_records.Goals as goal

pub returns : goal.returns
returns c = λ name namer. record {
  stands = stands name namer;
  sound = sound name namer;
  one = λ r h s. one_history name namer r h (history_of r) s (stands name namer r (sound name namer r h s));
}
