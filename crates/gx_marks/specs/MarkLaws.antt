-- Laws of files of marks. Source: git-fast-import(1), "--export-marks" and "--import-marks".
use Rattle.std.specs.Prelude.{◌≡◌, ℕ, List}
use Rattle.std.specs.List.{AllByRecursion}
use Rattle.gx_model.specs.Texts.{Bytes}
use Rattle.gx_marks.specs.Marks.{IsFirstBad, IsNumberedName, NumberedName, TellMarks, marks_text}

-- No text tells two lists of marks, or has two lines that are the first to tell none, or both.
abbrev pub OneReading : Type 0
OneReading =
    (text : Bytes)
    → ((marks others : List NumberedName) → TellMarks text marks → TellMarks text others → marks ≡ others)
    × ((marks : List NumberedName) (number : ℕ) → TellMarks text marks → IsFirstBad text number → ⊥)
    × ((number other : ℕ) → IsFirstBad text number → IsFirstBad text other → number ≡ other)

-- The text of marks tells these marks.
abbrev pub MarksAreRead : Type 0
MarksAreRead = (marks : List NumberedName) → AllByRecursion IsNumberedName marks → TellMarks (marks_text marks) marks
