-- Where a command of a text begins.
use Rattle.std.specs.Prelude.{◌≡◌, ℕ, ◌+◌, ◌-◌, false, [], drop, take, Ok, Some}
use Rattle.std.specs.List.{count_by}
use Rattle.gx_model.specs.Texts.{Bytes}
use Rattle.gx_model.specs.Streams.Items.{is_lf, items_of, line_len}
use Rattle.gx_command.specs.Behind.{AreBehind, left_behind}
use Rattle.gx_where.specs.declared.place.Place.{Place}

-- what a text has from a place on
abbrev pub rest_at : Bytes → Place → Bytes
rest_at text place = drop place.byte text

-- a command's items are the first of this rest: its items are those that the commands before it leave, past empty lines
abbrev pub BeginsWith : ℕ → Bytes → Bytes → Type 0
BeginsWith command text rest = left_behind (command - 1) [] (items_of text false) ≡ Ok (Some (items_of rest false))

-- the commands of a text are so many as come before one, and then those of this rest
abbrev pub GoesOnWith : ℕ → Bytes → Bytes → Type 0
GoesOnWith command text rest = AreBehind (command - 1) (items_of text false) (items_of rest false)

-- the number of the line that a byte stands in, from 1
abbrev pub line_at : Bytes → ℕ → ℕ
line_at text byte = 1 + count_by is_lf (take byte text)

-- the bytes before the first LF, or all of them
abbrev pub front_line : Bytes → Bytes
front_line text = take (line_len text) text
