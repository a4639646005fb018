-- Files of marks: the text that git writes of marks, and which marks a text tells. Source: git-fast-import(1), "--export-marks" and
-- "--import-marks". Where the manual is silent, what git 2.39 takes: digits of either case, zeros that lead, a CR at a line's end;
-- and no line without its LF, no empty one, no mark 0.
use Rattle.std.specs.Prelude.{◌≡◌, ◌⊎◌, ℕ, ◌+◌, List, [], ◌∷◌, ◌++◌, length, IsTrue, Ok, Some}
use Rattle.std.specs.List.{flat_map}
use Rattle.gx_model.specs.Export.{mark_text}
use Rattle.gx_model.specs.Laws.ExportLaws.{IsMark}
use Rattle.gx_model.specs.Objects.{hex, is_name, line}
use Rattle.gx_model.specs.Objects.Naming.{name_in}
use Rattle.gx_model.specs.Streams.LineShapes.{IsMarkText}
use Rattle.gx_model.specs.Texts.{Bytes}

-- a mark's number, and the name of its object
abbrev pub NumberedName : Type 0
NumberedName = ℕ × Bytes

-- a number that a mark may have, and a name that an object may have
abbrev pub IsNumberedName : NumberedName → Type 0
IsNumberedName mark = IsMark mark.0 × IsTrue (is_name mark.1)

-- ---- as they are written

-- the line of a mark
abbrev pub mark_line : NumberedName → Bytes
mark_line mark = line (mark_text mark.0) (hex mark.1)

-- the text of marks: their lines
abbrev pub marks_text : List NumberedName → Bytes
marks_text = flat_map mark_line

-- ---- as they are read

-- what ends a line before its LF: nothing, or a CR
abbrev pub IsLineEnd : Bytes → Type 0
IsLineEnd end = (end ≡ []) ⊎ (end ≡ 13 ∷ [])

-- A line, without its LF, tells a mark: the mark with its number from 1, a space, and the 40 digits of the object's name.
pub record TellsMark (text : Bytes) (mark : NumberedName) : Type 0 where
  pub number : Bytes
  pub name : Bytes
  pub end : Bytes
  pub parts : text ≡ number ++ 32 ∷ (name ++ end)
  pub is_number : IsMarkText number (Ok mark.0)
  pub is_name : name_in name ≡ Some mark.1
  pub is_end : IsLineEnd end

-- a text begins with a line that tells this mark, and this follows the line
abbrev pub LeadsWith : Bytes → NumberedName → Bytes → Type 0
LeadsWith text mark rest = (told : Bytes) × (text ≡ told ++ 10 ∷ rest) × TellsMark told mark

-- each line of a text tells a mark, and these are the marks in the order of the lines
abbrev pub TellMarks : Bytes → List NumberedName → Type 0
TellMarks text [] = text ≡ []
TellMarks text (mark ∷ marks) = (rest : Bytes) × LeadsWith text mark rest × TellMarks rest marks

-- the first line of a text tells some mark
abbrev pub IsLed : Bytes → Type 0
IsLed text = (mark : NumberedName) × (rest : Bytes) × LeadsWith text mark rest

-- The line of this number, from 1, is the first of a text that tells no mark: the lines before it tell marks, and behind them
-- something is left that begins with no line of a mark.
pub record IsFirstBad (text : Bytes) (number : ℕ) : Type 0 where
  pub front : Bytes
  pub rest : Bytes
  pub marks : List NumberedName
  pub parts : text ≡ front ++ rest
  pub told : TellMarks front marks
  pub place : number ≡ length marks + 1
  pub some : rest ≡ [] → ⊥
  pub bad : (mark : NumberedName) (behind : Bytes) → LeadsWith rest mark behind → ⊥
