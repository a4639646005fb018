-- What the rows of a growing text's live runs tell of its records.
use Rattle.std.proofs.Common.{◌≡◌, ◌⊎◌, inl, inr, ℕ, zero, suc, List, [], ◌∷◌, map, Option, Some, None, refl, sym, ◌∙◌, subst, arith}
use Rattle.std.specs.List.{AllZip, Contains}
use Rattle.std.specs.List.Sorted.{IsPermutation}
use Rattle.std.proofs.lemmas.List.Sorted.{Contains-permutation, IsPermutation-sym}
use Rattle.gx_model.specs.Texts.{Bytes}
use Rattle.gx_model.specs.Histories.{AreDistinct, Record}
use Rattle.gx_model.specs.Records.Growth.{record_named}
use Rattle.gx_model.specs.Records.Sound.{AnyByRecursion}
use Rattle.gx_model.proofs.Records.TakenRecords.{named_some, some_named}
use Rattle.gx_growing.specs.GrowingText.{Row}
use Rattle.gx_growing.specs.GrowingLaws.{StandsAt}
use Rattle.gx_growing.proofs.RowsTellPlaces.{Tells}

-- ---- one row, one record

-- an element of a longer list
pub contained_head : {X : Type 0} (y x : X) (xs : List X) → Contains (y ∷ xs) x → (y ≡ x) ⊎ Contains xs x
contained_head y x xs (zero, l, e) = inl e
contained_head y x xs (suc k, l, e) = inr (k, omega (arith, l), e)

contained_behind : {X : Type 0} (y x : X) (xs : List X) → Contains xs x → Contains (y ∷ xs) x
contained_behind y x xs (k, l, e) = (suc k, omega (arith, l), e)

contained_first : {X : Type 0} (x : X) (xs : List X) → Contains (x ∷ xs) x
contained_first x xs = (0, omega arith, refl)

-- what stands at a row's place has the row's name
abbrev pub Stands : Bytes → Row → Record → Type 0
Stands text row held = (held.name ≡ row.0) × StandsAt text row.1 held

-- a row is that of some record
pub record_of_row : (text : Bytes) (rows : List Row) (rs : List Record) (row : Row) → AllZip (Tells text) rows rs → Contains rows row → AnyByRecursion (Stands text row) rs
record_of_row text [] rs row all h = absurd (omega (arith, h.1))
record_of_row text (x ∷ xs) [] row all h = absurd all
record_of_row text (x ∷ xs) (r ∷ rs) row all h = elim (contained_head x row xs h) [
  | inl e ↦ inl (subst (λ (z : Row). Stands text z r) e (sym all.0.0, all.0.1))
  | inr more ↦ inr (record_of_row text xs rs row all.1 more)
]

-- a record has a row
pub row_of_record : (text : Bytes) (rows : List Row) (rs : List Record) (name : Bytes) → AllZip (Tells text) rows rs → AnyByRecursion (λ held. held.name ≡ name) rs → (place : ℕ) × Contains rows (name, place)
row_of_record text [] [] name all h = absurd h
row_of_record text [] (r ∷ rs) name all h = absurd all
row_of_record text (x ∷ xs) [] name all h = absurd all
row_of_record text (x ∷ xs) (r ∷ rs) name all h = elim h [
  | inl e ↦ (x.1, subst (λ (z : Row). Contains (x ∷ xs) z) (λ i. ((all.0.0 ∙ e) i, x.1)) (contained_first x xs))
  | inr more ↦ (let rest = row_of_record text xs rs name all.1 more in (rest.0, contained_behind x (name, rest.0) xs rest.1))
]

-- ---- all rows

module _ (text : Bytes) (live rows : List Row) (rs : List Record) (same : IsPermutation live rows) (all : AllZip (Tells text) rows rs) where
  -- the record of a name stands at the place in its row
  pub stands_there : AreDistinct (map (λ held. held.name) rs) → (name : Bytes) (place : ℕ) → Contains live (name, place)
      → (held : Record) × (record_named rs name ≡ Some held) × (held.name ≡ name) × StandsAt text place held
  stands_there distinct name place h =
      let there = record_of_row text rows rs (name, place) all (Contains-permutation live rows (name, place) same h) in
      let found = named_some (λ held. (held.name ≡ name) × StandsAt text place held) name (λ r p. p.0) rs distinct there in
      (found.0, found.1, found.2.0, found.2.1)

  -- where no row has a name, no record does
  pub none_there : (name : Bytes) → ((place : ℕ) → Contains live (name, place) → ⊥) → record_named rs name ≡ None
  none_there name none = by (record_named rs name) refl
    where
      by : (o : Option Record) → record_named rs name ≡ o → o ≡ None
      by None e = refl
      by (Some held) e =
          let there = some_named (λ r. r.name ≡ name) rs name held e (λ s. s) in
          let row = row_of_record text rows rs name all there in
          absurd (none row.0 (Contains-permutation rows live (name, row.0) (IsPermutation-sym live rows same) row.1))
