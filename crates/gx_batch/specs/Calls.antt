-- What goes out to a sink of a repository. The repository is seen by the names that its namer gives, the sink by what it took before the
-- call and after it, and a format by its parts. Where an object is told by its line alone, `check` is true.
use Rattle.std.specs.Prelude.{Bool, List, Option, Result}
use Rattle.gx_model.specs.declared.objects.Kind.{Kind}
use Rattle.gx_model.specs.Texts.{Bytes}
use Rattle.gx_model.specs.Histories.{Records}
use Rattle.gx_model.specs.Records.HistoryOf.{history_of}
use Rattle.gx_model.specs.Texts.Sinks.{Taken}
use Rattle.gx_batch.specs.Answers.{batch_answer}
use Rattle.gx_batch.specs.Batches.{Sent}
use Rattle.gx_batch.specs.declared.fault.BatchFault.{BatchFault}
use Rattle.gx_batch.specs.declared.format.Part.{Part}

module _ {N W : Type 0} (name_of : N → Kind → Bytes → Bytes) (taken : W → Option Taken) (repo : N × Records) (check : Bool) (parts : List Part) where
  -- the answer to a line
  abbrev pub SendsAnswer : Bytes → W → W → Result (Unit {0}) BatchFault → Type 0
  SendsAnswer asked old new result = Sent (batch_answer (name_of repo.0) check parts (history_of repo.1) asked) (taken old) (taken new) result
