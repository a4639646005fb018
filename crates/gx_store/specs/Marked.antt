-- What is left of a list where marks stand.
use Rattle.std.specs.Prelude.{Bool, false, if◌then◌else◌, List, [], ◌∷◌, drop}

-- the first of these marks; where there is none, no mark
abbrev pub first_mark : List Bool → Bool
first_mark [] = false
first_mark (mark ∷ marks) = mark

-- the elements at whose places a mark stands, in their order
abbrev pub marked : {X : Type 0} → List Bool → List X → List X
marked marks [] = []
marked marks (x ∷ xs) = if first_mark marks then x ∷ marked (drop 1 marks) xs else marked (drop 1 marks) xs
