-- Marks without where they lie in memory.
use Rattle.std.specs.Borrow.{Bor}
use Rattle.std.specs.Prelude.{List, map}
use Rattle.gx_model.specs.Texts.{Bytes}
use Rattle.gx_marks.specs.declared.mark.Mark.{Mark}
use Rattle.gx_marks.specs.Marks.{NumberedName}

-- a mark by its number and its object's name
abbrev pub shown_mark : Mark → NumberedName
shown_mark mark = (mark.number, mark.name.bytes)

abbrev pub shown_marks : List Mark → List NumberedName
shown_marks = map shown_mark

-- a mark, and what follows its line
abbrev pub shown_first : Mark × Bor Bytes → NumberedName × Bytes
shown_first first = (shown_mark first.0, first.1.now)
