-- What one command does to the repository, the tables and the sink.
-- Source: git-fast-import(1), "Commands" and "progress".
use Rattle.std.specs.Prelude.{◌≡◌, ◌⊎◌, ◌++◌, Option, Result, Ok, Err}
use Rattle.gx_model.specs.declared.objects.Kind.{Kind}
use Rattle.gx_model.specs.Texts.{Bytes}
use Rattle.gx_model.specs.Histories.{Records}
use Rattle.gx_model.specs.Streams.Commands.{Command, Progress}
use Rattle.gx_model.specs.Replay.{State, step}
use Rattle.gx_model.specs.Texts.Sinks.{FailedWithin, Taken, Took}
use Rattle.gx_import.specs.Additions.{Clash, values_added}
use Rattle.gx_import.specs.Imports.{line_of}
use Rattle.gx_import.specs.Standing.{Stands}
use Rattle.gx_model.specs.declared.faults.Fault.{Fault}
use Rattle.gx_model.specs.declared.faults.Fault.TheVariants.{NameHeld, OutOfMemory, WriteFailed}
use Rattle.gx_import.specs.declared.tables.Tables.{Tables}

-- the progress text that comes between two states
pub record IsProgress (before after : State) (text : Bytes) : Type 0 where
  pub progress : after.progress ≡ before.progress ++ text
  pub held : after.held ≡ before.held

module _ (name : Kind → Bytes → Bytes) {A : Type 0} where
  -- A command that is applied is the model's step, and the sink has its progress text. Otherwise the sink failed within the
  -- line of a progress, or it is as it was, and the step is refused so, a value that it adds clashes, or memory ran out.
  abbrev pub Applies : Records → Records → Tables A → State → Command → Option Taken → Option Taken → Result (Unit {0}) Fault → Type 0
  Applies old new tables s c was now (Ok _) = (t : State) × (text : Bytes) × (step name s c ≡ Ok t) × Stands name new tables t × IsProgress s t text × Took was now text
  Applies old new tables s c was now (Err OutOfMemory) = now ≡ was
  Applies old new tables s c was now (Err NameHeld) = ((step name s c ≡ Err NameHeld) ⊎ Clash name s.history.values (values_added name s c)) × (now ≡ was)
  Applies old new tables s c was now (Err WriteFailed) =
      ((step name s c ≡ Err WriteFailed) × (now ≡ was))
      ⊎ ((t : State) × (text : Bytes) × (c ≡ Progress text) × (step name s c ≡ Ok t) × IsProgress s t (line_of text) × FailedWithin was now (line_of text))
  Applies old new tables s c was now (Err e) = (step name s c ≡ Err e) × (now ≡ was)
