-- Records with the places of their lines. Source: this project's own format.
use Rattle.std.specs.Prelude.{ℕ, List, [], ◌∷◌}
use Rattle.gx_model.specs.Histories.{Record}
use Rattle.gx_growing.specs.GrowingText.{Row}

-- the names of records with these places
abbrev pub rows_of : List Record → List ℕ → List Row
rows_of [] places = []
rows_of (r ∷ rs) [] = []
rows_of (r ∷ rs) (place ∷ places) = (r.name, place) ∷ rows_of rs places
