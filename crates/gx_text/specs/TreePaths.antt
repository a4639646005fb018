-- What a path in memory keeps beside its text, and what it offers to callers.
use Rattle.std.specs.Prelude.{ℕ, ◌+◌, Bool, ◌&&◌, ◌==◌, List, [], ◌∷◌, ◌++◌, length, if◌then◌else◌}
use Rattle.std.specs.List.{list_all}
use Rattle.gx_model.specs.Texts.{Bytes}
use Rattle.gx_model.specs.Texts.Paths.{Path, is_component, is_short}

-- components that may stand in a path, at most 4,095 bytes with their slashes
abbrev pub is_path : Path → Bool
is_path p = list_all is_component p && is_short p

-- the places of the slashes, in a text that begins at a place
abbrev pub slashes : ℕ → Bytes → List ℕ
slashes at [] = []
slashes at (b ∷ bs) = if b == 47 then at ∷ slashes (at + 1) bs else slashes (at + 1) bs

-- where each component of a text ends: at a slash, and the last at the text's end
abbrev pub component_ends : Bytes → List ℕ
component_ends [] = []
component_ends (b ∷ bs) = slashes 0 (b ∷ bs) ++ length (b ∷ bs) ∷ []
