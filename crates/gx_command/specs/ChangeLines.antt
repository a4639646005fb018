-- The lines of changes, without where they lie in memory.
use Rattle.std.specs.Prelude.{◌≡◌, Option, Some, None, Result, Ok, Err}
use Rattle.gx_model.specs.Faults.{IsFaultOf, ◌>>=◌}
use Rattle.gx_model.specs.Streams.Items.{Stream}
use Rattle.gx_model.specs.Streams.Commands as model
use Rattle.gx_model.specs.Streams.Grammar.{Where, AtMark, AtName, AtBlock, bytes_from}
use Rattle.gx_model.specs.Streams.Lines.{Read}
use Rattle.gx_command.specs.CommandFaults.{fault_of}
use Rattle.gx_command.specs.Views.{shown_change}
use Rattle.gx_command.specs.declared.fault.CommandFault.{CommandFault}
use Rattle.gx_command.specs.declared.modify_line.Place.{Place}
use Rattle.gx_command.specs.declared.modify_line.Place.TheVariants as place
use Rattle.gx_command.specs.declared.change_lines.ChangeLine.{ChangeLine}
use Rattle.gx_command.specs.declared.change_lines.ChangeLine.TheVariants.{Whole, Modify}
use Rattle.gx_command.specs.declared.modify_line.ModifyLine.{ModifyLine}

-- where a modify's bytes are, as the model has it
abbrev pub shown_where : Place → Where
shown_where (place.Mark n) = AtMark n
shown_where (place.Name d) = AtName d.digits
shown_where place.Block = AtBlock

abbrev pub completed_modify : {A : Type 0} → ModifyLine A → Stream → Read model.Change
completed_modify m s = bytes_from (shown_where m.place) s >>= λ b. Ok (model.Modify m.mode b.0 m.path, b.1)

-- the change of a line, with the items after the line
abbrev pub completed : {A : Type 0} → ChangeLine A → Stream → Read model.Change
completed (Whole c) s = Ok (shown_change c, s)
completed (Modify m) s = completed_modify m s

abbrev pub BeginsModify : {A : Type 0} → Stream → Result (ModifyLine A) CommandFault → Read model.Change → Type 0
BeginsModify s (Ok m) read = read ≡ completed_modify m s
BeginsModify s (Err f) read = IsFaultOf (fault_of f) read

abbrev pub BeginsChange : {A : Type 0} → Stream → Result (Option (ChangeLine A)) CommandFault → Option (Read model.Change) → Type 0
BeginsChange s (Ok None) read = read ≡ None
BeginsChange s (Ok (Some line)) read = read ≡ Some (completed line s)
BeginsChange s (Err f) read = (given : Read model.Change) × (read ≡ Some given) × IsFaultOf (fault_of f) given
