-- Which paths are asked for. Source: gitglossary(7), "pathspec", with no magic: a path, and what stands below it.
use Rattle.std.specs.Prelude.{Bool, true, nat_eq, ◌==◌, ◌&&◌, ◌||◌, List, [], ◌∷◌, drop, length, take}
use Rattle.std.specs.List.{ends_with, filter, list_any}
use Rattle.gx_model.specs.Texts.{Bytes, same_bytes}
use Rattle.gx_model.specs.Texts.Paths.{path_text}
use Rattle.gx_differences.specs.Listed.{Standing}

-- nothing, or a slash and what stands behind it
abbrev pub ends_component : Bytes → Bool
ends_component [] = true
ends_component (b ∷ bs) = b == 47

-- whether a text asks for the path of this text: for it, or for what is below it, or of a directory's text with a slash at its end
-- for what is below it alone
abbrev pub asks_for : Bytes → Bytes → Bool
asks_for asked path =
    same_bytes (take (length asked) path) asked && (ends_with nat_eq asked (47 ∷ []) || ends_component (drop (length asked) path))

-- whether some texts ask for it; none asks for each
abbrev pub ask_for : List Bytes → Bytes → Bool
ask_for [] path = true
ask_for (a ∷ others) path = list_any (λ asked. asks_for asked path) (a ∷ others)

-- what is asked for of what differs
abbrev pub asked_of : List Bytes → List Standing → List Standing
asked_of asked ss = filter (λ s. ask_for asked (path_text s.0)) ss
