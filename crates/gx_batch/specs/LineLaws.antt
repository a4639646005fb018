-- What the lines of a text are to it.
use Rattle.std.specs.Prelude.{◌≡◌, ℕ, true, false, List, [], ◌∷◌, ◌++◌}
use Rattle.std.specs.List.{AllByRecursion, flat_map}
use Rattle.gx_model.specs.Texts.{Bytes, lacks}
use Rattle.gx_batch.specs.Lines.{lines_of}

-- these lines, each with the byte at its end
abbrev pub with_ends : ℕ → List Bytes → Bytes
with_ends e = flat_map (λ l. l ++ e ∷ [])

-- what stands behind the last such byte, as a line, unless it is empty
abbrev pub last_line : Bytes → List Bytes
last_line [] = []
last_line (b ∷ bs) = (b ∷ bs) ∷ []

-- The lines of a text that fails stand in it one after the other, each with the byte at its end. What is left has no such byte: it is the
-- last line where the text ends.
pub record AreLines (e : ℕ) (text : Bytes) (failed ended : List Bytes) : Type 0 where
  pub left : Bytes
  pub spelled : text ≡ with_ends e failed ++ left
  pub lines : AllByRecursion (λ l. lacks e l ≡ true) failed
  pub unended : lacks e left ≡ true
  pub last : ended ≡ failed ++ last_line left

-- it is so for each byte and text
abbrev pub LinesSpell : Type 0
LinesSpell = (e : ℕ) → (text : Bytes) → AreLines e text (lines_of e text true) (lines_of e text false)
