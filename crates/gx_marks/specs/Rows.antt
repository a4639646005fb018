-- Worked rows on files of marks. The first text is what git 2.39 wrote for two blobs with these marks.
use Rattle.std.specs.Prelude.{◌≡◌, List, [], ◌∷◌, ◌++◌, map, codes, Option, Some, None, refl}
use Rattle.std.specs.Fmt.{digits}
use Rattle.gx_model.specs.Objects.{unhex}
use Rattle.gx_model.specs.Objects.Naming.{name_in}
use Rattle.gx_model.specs.Streams.Lines.{mark_of}
use Rattle.gx_model.specs.Texts.{Bytes, cut_at}
use Rattle.gx_marks.specs.Marks.{NumberedName, marks_text}
use Rattle.gx_marks.specs.Reading.{first_in, mark_in}

abbrev hi_digits : Bytes
hi_digits = codes "45b983be36b73c0788dc9cbcb76cbb80fc7bb057"

abbrev hi : Bytes
hi = unhex hi_digits

-- two marks, as they are written
written : marks_text ((1, hi) ∷ (18, hi) ∷ []) ≡ codes ":1 " ++ hi_digits ++ 10 ∷ codes ":18 " ++ hi_digits ++ 10 ∷ []
unfolding digits
written = refl

-- lines, and the marks that they tell
abbrev rows : List (Bytes × Option NumberedName)
rows =
    (codes ":1 " ++ hi_digits, Some (1, hi))
    ∷ (codes ":010 " ++ hi_digits, Some (10, hi))
    ∷ (codes ":18446744073709551615 " ++ hi_digits, Some (18446744073709551615, hi))
    ∷ (codes ":1 45B983BE36B73C0788DC9CBCB76CBB80FC7BB057", Some (1, hi))
    ∷ (codes ":1 " ++ hi_digits ++ 13 ∷ [], Some (1, hi))
    -- what git refuses
    ∷ ([], None)
    ∷ (codes "#1", None)
    ∷ (codes ":0 " ++ hi_digits, None)
    ∷ (codes ": " ++ hi_digits, None)
    ∷ (codes ":1x " ++ hi_digits, None)
    ∷ (codes ":1  " ++ hi_digits, None)
    ∷ (codes "1 " ++ hi_digits, None)
    ∷ (codes ":1 45b983be36b73c0788dc9cbcb76cbb80fc7bb05", None)
    -- what git doesn't look at, or counts otherwise than it is written
    ∷ (codes ":1 " ++ hi_digits ++ codes " x", None)
    ∷ (codes ":1 " ++ hi_digits ++ codes "0", None)
    ∷ (codes ":1 " ++ hi_digits ++ 13 ∷ 13 ∷ [], None)
    ∷ (codes ":+1 " ++ hi_digits, None)
    ∷ (codes ":-1 " ++ hi_digits, None)
    ∷ (codes ": 1 " ++ hi_digits, None)
    ∷ (codes ":18446744073709551616 " ++ hi_digits, None)
    ∷ []

told : map (λ row. mark_in row.0) rows ≡ map (λ row. row.1) rows
unfolding mark_in mark_of name_in cut_at
told = refl

-- the first line ends with an LF
first_line : first_in (codes ":2 " ++ hi_digits ++ 10 ∷ codes "x") ≡ Some ((2, hi), codes "x")
unfolding first_in mark_in mark_of name_in cut_at
first_line = refl

no_lf : first_in (codes ":2 " ++ hi_digits) ≡ None
unfolding first_in cut_at
no_lf = refl
