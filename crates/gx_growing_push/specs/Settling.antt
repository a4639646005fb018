-- Refs that have none of some names, from a place on. Source: gitglossary(7), "ref".
use Rattle.std.specs.Prelude.{◌≡◌, ℕ, ◌+◌, Bool, List, [], ◌∷◌, drop, get_or, Option, None, Some}
use Rattle.std.specs.Borrow.{Bor}
use Rattle.gx_model.specs.Records.Publishing.{Ref}
use Rattle.gx_model.specs.Texts.{Bytes}
use Rattle.gx_object.specs.declared.name.Name.{Name}
use Rattle.gx_push.specs.Pushes.{same_ref}
use Rattle.gx_ref_lines.specs.Refs.{shown_refs}
use Rattle.gx_repo.specs.Dropping.{without}
use Rattle.gx_repo.specs.Refs.{shown_lent_ref}

-- two refs are one, as they are lent
abbrev pub same_lent : Bor Bytes × Name → Bor Bytes × Name → Bool
same_lent ref other = same_ref (shown_lent_ref ref) (shown_lent_ref other)

-- the refs from a place on that have none of these names
abbrev pub others_from : List Bytes → List (Bor Bytes × Name) → ℕ → List Ref
others_from names refs i = without names (shown_refs (drop i refs))

-- the first of these is at this place, and the others behind it; or there is none
abbrev pub TellsOther : List Bytes → List (Bor Bytes × Name) → ℕ → Option ℕ → Type 0
TellsOther names refs i None = others_from names refs i ≡ []
TellsOther names refs i (Some place) =
    (past : Bor Bytes × Name) → others_from names refs i ≡ shown_lent_ref (get_or refs place past) ∷ others_from names refs (place + 1)
