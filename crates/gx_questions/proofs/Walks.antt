-- A walk down held trees along a path, step by step.
use Rattle.std.proofs.Common.{◌≡◌, ℕ, zero, suc, ◌+◌, ◌<◌, true, false, cond, refl, sym, ap, ◌∙◌, arith, List, [], ◌∷◌, length, drop, Option, None, Some}
use Rattle.std.specs.Prelude.{IfSome, slice_index_or}
use Rattle.std.specs.Option.{option_and_then, option_map}
use Rattle.gx_model.specs.declared.objects.Mode.{Mode}
use Rattle.gx_model.specs.Texts.{Bytes}
use Rattle.gx_model.specs.Texts.Paths.{Path}
use Rattle.gx_model.specs.Histories.Files.{Leaf}
use Rattle.gx_model.specs.Histories.{Record, Records}
use Rattle.gx_model.specs.Objects.{Entry, is_dir}
use Rattle.gx_model.specs.Records.Walks.{entries_named, entry_at, place_at_end, walked, walked_from}
use Rattle.gx_object.specs.declared.name.Name.{Name}
use Rattle.gx_rev.specs.Places.{place_of_entry, shown_place}

-- from a place on: down a tree, or the end of the path
abbrev pub walked_on : List Record → Leaf Bytes → Path → Option (Leaf Bytes)
walked_on records place path = cond (is_dir place.0) (walked records place.1 path) (place_at_end path place)

-- down a tree, one component further
down : (records : List Record) (m : Mode) (called c : Bytes) (path : Path) → true ≡ is_dir m
    → walked_on records (m, called) (c ∷ path) ≡ option_and_then (λ place. walked_on records place path) (option_map place_of_entry (entry_at (entries_named records called) c))
down records m called c path h = ap (λ b. cond b (walked records called (c ∷ path)) None) (sym h) ∙ by (entry_at (entries_named records called) c)
  where
    by : (o : Option Entry) → walked_from o path (λ below. walked records below path) ≡ option_and_then (λ place. walked_on records place path) (option_map place_of_entry o)
    by None = refl
    by (Some e) = refl

-- a path from a place on
pub path_from : (path : Path) (i : ℕ) (c : Bytes) → i < length path → c ≡ slice_index_or path i [] → drop i path ≡ c ∷ drop (i + 1) path
path_from [] i c h e = absurd (omega arith)
path_from (d ∷ p) zero c h e = ap (λ x. x ∷ p) (sym e)
path_from (d ∷ p) (suc i) c h e = let next : suc i + 1 ≡ suc (i + 1) = omega arith in rw next (path_from p i c (omega arith) e)

-- ---- of the repository that is told

module _ (told : Option Records) (tree : Name) (path : Path) where
  -- a walk is at this place, with the path from a component on before it
  abbrev pub IsWalked : Mode × Name → ℕ → Type 0
  IsWalked place i = IfSome told (λ r. walked r.records tree.bytes path ≡ walked_on r.records (shown_place place) (drop i path))

-- nothing stands below a file
pub below_file : (told : Option Records) (tree : Name) (path : Path) (place : Mode × Name) (i : ℕ) → i < length path → false ≡ is_dir place.0 → IsWalked told tree path place i → IfSome told (λ r. None ≡ walked r.records tree.bytes path)
below_file None tree path place i l d h = tt
below_file (Some r) tree path place i l d h = sym (h ∙ ap (walked_on r.records (shown_place place)) (path_from path i _ l refl) ∙ ap (λ b. cond b (walked r.records place.1.bytes (slice_index_or path i [] ∷ drop (i + 1) path)) None) (sym d))

step : (r : Records) (tree : Name) (path : Path) (place : Mode × Name) (i : ℕ) (c : Bytes) (found : Option (Mode × Name)) → i < length path → true ≡ is_dir place.0 → c ≡ slice_index_or path i []
    → walked r.records tree.bytes path ≡ walked_on r.records (shown_place place) (drop i path) → option_map shown_place found ≡ option_map place_of_entry (entry_at (entries_named r.records place.1.bytes) c)
    → walked r.records tree.bytes path ≡ option_and_then (λ next. walked_on r.records next (drop (i + 1) path)) (option_map shown_place found)
step r tree path place i c found l d e h f =
    h ∙ ap (walked_on r.records (shown_place place)) (path_from path i c l e) ∙ down r.records place.0 place.1.bytes c (drop (i + 1) path) d
    ∙ ap (option_and_then (λ next. walked_on r.records next (drop (i + 1) path))) (sym f)
