-- Where a modify's bytes are, and for a file of which mode.
use Rattle.std.specs.Prelude.{Bool, true, false, IsTrue}
use Rattle.gx_model.specs.declared.objects.Mode.{Mode}
use Rattle.gx_model.specs.declared.objects.Mode.TheVariants.{Dir, Gitlink}
use Rattle.gx_command.specs.DataRefs.{is_suited}
use Rattle.gx_command.specs.declared.commands.DataRef.{DataRef}
use Rattle.gx_command.specs.declared.modify_line.Place.{Place}
use Rattle.gx_command.specs.declared.modify_line.Place.TheVariants.{Mark, Name, Block}

abbrev pub is_file_mode : Mode → Bool
is_file_mode Dir = false
is_file_mode mode = true

-- no directory; and a gitlink is given by digits
abbrev pub is_suited_place : Mode → Place → Bool
is_suited_place Dir p = false
is_suited_place Gitlink (Mark n) = false
is_suited_place Gitlink Block = false
is_suited_place Gitlink (Name d) = true
is_suited_place mode p = true

-- each mode that the place suits, the dataref suits too
abbrev pub IsSuitedAs : {A : Type 0} → Place → DataRef A → Type 0
IsSuitedAs place data_ref = (mode : Mode) → IsTrue (is_suited_place mode place) → IsTrue (is_suited mode data_ref)
