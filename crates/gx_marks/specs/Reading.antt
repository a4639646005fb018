-- A line of a file of marks, part by part. Source: git-fast-import(1), "--import-marks".
use Rattle.std.specs.Prelude.{Bool, ◌||◌, ◌==◌, if◌then◌else◌, [], ◌∷◌, length, take, drop, Option, None}
use Rattle.std.specs.Option.{option_and_then, option_map}
use Rattle.std.specs.Result.{result_ok}
use Rattle.gx_model.specs.Objects.Naming.{name_in}
use Rattle.gx_model.specs.Streams.Lines.{mark_of}
use Rattle.gx_model.specs.Texts.{Bytes, cut_at, same_bytes}
use Rattle.gx_marks.specs.Marks.{NumberedName}

-- whether a line may end so before its LF
abbrev pub is_line_end : Bytes → Bool
is_line_end end = length end == 0 || same_bytes end (13 ∷ [])

-- the name in 40 digits, behind which a line may end
abbrev pub named_in : Bytes → Option Bytes
named_in text = if is_line_end (drop 40 text) then name_in (take 40 text) else None

-- the mark of what stands before a space and behind it
abbrev pub mark_of_parts : Bytes × Bytes → Option NumberedName
mark_of_parts parts = option_and_then (λ n. option_map (λ name. (n, name)) (named_in parts.1)) (result_ok (mark_of parts.0))

-- the mark that a line tells
unfoldable pub mark_in : Bytes → Option NumberedName
mark_in text = option_and_then mark_of_parts (cut_at 32 text)

-- the mark of a line, and what follows the line
abbrev pub mark_before : Bytes × Bytes → Option (NumberedName × Bytes)
mark_before parts = option_map (λ mark. (mark, parts.1)) (mark_in parts.0)

-- the mark that the first line tells, and what follows the line
unfoldable pub first_in : Bytes → Option (NumberedName × Bytes)
first_in text = option_and_then mark_before (cut_at 10 text)
