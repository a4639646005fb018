-- What may be given for a file of each mode.
use Rattle.std.specs.Prelude.{Bool, true, false}
use Rattle.gx_model.specs.declared.objects.Mode.{Mode}
use Rattle.gx_model.specs.declared.objects.Mode.TheVariants.{Dir, Gitlink}
use Rattle.gx_command.specs.declared.commands.DataRef.{DataRef}
use Rattle.gx_command.specs.declared.commands.DataRef.TheVariants.{Mark, Name, Inline}

-- no directory; and a gitlink is given by digits
abbrev pub is_suited : {A : Type 0} → Mode → DataRef A → Bool
is_suited Dir d = false
is_suited Gitlink (Mark n) = false
is_suited Gitlink (Inline bytes) = false
is_suited Gitlink (Name digits) = true
is_suited mode d = true
