-- Why it isn't told where a command begins.
use Rattle.std.specs.Prelude.{◌≡◌, ℕ, ◌<◌, ◌≤◌, ◌-◌, ◌^◌, ◌⊎◌, [], ◌++◌, codes, false, length, None, Ok}
use Rattle.std.specs.Fmt.{decimal}
use Rattle.gx_model.specs.Texts.{Bytes}
use Rattle.gx_model.specs.Streams.Items.{items_of}
use Rattle.gx_command.specs.Behind.{FailsAt, left_behind}
use Rattle.gx_command.specs.CommandFaults.{word}
use Rattle.gx_command.specs.declared.behind.BehindFault.{BehindFault}
use Rattle.gx_command.specs.declared.behind.BehindFault.TheVariants as behind
use Rattle.gx_where.specs.declared.fault.WhereFault.{WhereFault}
use Rattle.gx_where.specs.declared.fault.WhereFault.TheVariants.{NoSuchCommand, Command, ReadFailed, OutOfMemory}

abbrev pub of_behind : BehindFault → WhereFault
of_behind behind.OutOfMemory = OutOfMemory
of_behind (behind.Command command kind) = Command command kind

-- why the place of a command in a text isn't told: each fault with its cause. Memory is wanted only for a command, and for a text that
-- isn't too long
abbrev pub IsWhy : ℕ → Bytes → WhereFault → Type 0
IsWhy command text NoSuchCommand = (command ≡ 0) ⊎ (left_behind (command - 1) [] (items_of text false) ≡ Ok None)
IsWhy command text (Command number kind) = FailsAt (command - 1) number kind (items_of text false)
IsWhy command text ReadFailed = 2 ^ 63 - 1 < length text
IsWhy command text OutOfMemory = (0 < command) × (length text ≤ 2 ^ 63 - 1)

-- what a fault prints
abbrev pub refusal : WhereFault → Bytes
refusal NoSuchCommand = codes "no such command"
refusal (Command number kind) = codes "command " ++ decimal number ++ codes ": " ++ word kind
refusal ReadFailed = codes "read failed"
refusal OutOfMemory = codes "out of memory"
