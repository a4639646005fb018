-- What a call of an import answers.
-- Source: git-fast-import(1).
use Rattle.std.specs.Prelude.{◌≡◌, Bool, false, [], Some, Result, Ok, Err, IfErr}
use Rattle.gx_model.specs.declared.objects.Kind.{Kind}
use Rattle.gx_model.specs.declared.faults.Fault.{Fault}
use Rattle.gx_model.specs.declared.faults.Fault.TheVariants.{OutOfMemory, WriteFailed}
use Rattle.gx_model.specs.declared.features.Features.{Features}
use Rattle.gx_model.specs.Histories.{Records}
use Rattle.gx_model.specs.Texts.{Bytes}
use Rattle.gx_model.specs.Texts.Sinks.{Taken}
use Rattle.gx_import.specs.Imports.{ImportsAsked}
use Rattle.gx_import.specs.declared.fault.ImportFault.{ImportFault}
use Rattle.gx_import.specs.declared.report.Report.{Report}
use Rattle.gx_c.specs.declared.answer.Answer.{Answer}
use Rattle.gx_c.specs.declared.answer.Why.TheVariants.{Done, Import}

abbrev pub features_of : Bool → Bool → Features
features_of done force = record { done = done; force = force }

-- a sink in memory that took nothing
abbrev pub took_nothing : Taken
took_nothing = record { bytes = []; failed = false }

-- A sink in memory fails for want of memory alone.
abbrev pub told_fault : Fault → Fault
told_fault WriteFailed = OutOfMemory
told_fault fault = fault

-- the report or the fault of an import, with what went to its sink
abbrev pub TellsImport : {A : Type 0} → Result Report ImportFault → Taken → Answer A → Type 0
TellsImport (Ok report) lines answer =
    (answer.why ≡ Done) × (answer.number ≡ report.commands) × (answer.count ≡ report.objects) × (answer.bytes.items ≡ lines.bytes)
TellsImport (Err fault) lines answer =
    (answer.why ≡ Import (told_fault fault.kind)) × (answer.number ≡ fault.command) × (answer.count ≡ fault.checkpoints) × (answer.bytes.items ≡ lines.bytes)

-- A whole stream is imported, and what comes of that is told. Where it is refused before a checkpoint, the repository is as it was.
pub record AnswersImport {N A : Type 0} (name_of : N → Kind → Bytes → Bytes) (features : Features) (old new : N × Records)
    (stream : Bytes) (answer : Answer A) : Type 0 where
  pub result : Result Report ImportFault
  pub lines : Taken
  pub imported : ImportsAsked name_of (λ taken. Some taken) features old new (Some (record { bytes = stream; fails = false })) took_nothing lines result
  pub unchanged : IfErr result (λ fault. fault.checkpoints ≡ 0 → new ≡ old)
  pub told : TellsImport result lines answer
