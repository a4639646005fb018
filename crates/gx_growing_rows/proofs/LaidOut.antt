-- Records that are laid out one behind the other, and their rows.
use Rattle.std.proofs.Common.{◌≡◌, ℕ, zero, suc, ◌+◌, ◌*◌, ◌<◌, ◌≤◌, refl, sym, ap, ◌∙◌, List, [], ◌∷◌, ◌++◌, length, take, drop, get_or, Some, None, arith, append_assoc, append-nil, length-append}
use Rattle.std.specs.List.{flat_map, slice_get}
use Rattle.std.proofs.lemmas.List.{drop_all, take_all}
use Rattle.gx_model.specs.declared.store_versions.Version.TheVariants.{Two}
use Rattle.gx_model.specs.declared.objects.Kind.{Kind}
use Rattle.gx_model.specs.Histories.{Record}
use Rattle.gx_model.specs.Objects.{hex, line}
use Rattle.gx_model.specs.Objects.Naming.{kind_word}
use Rattle.gx_model.specs.Texts.{Bytes}
use Rattle.gx_model.specs.Texts.Numbers.{number_text}
use Rattle.gx_model.proofs.Records.ReadRecords.{hex_long}
use Rattle.gx_model.specs.Stores.StoreText.{stored_record}
use Rattle.gx_growing.specs.GrowingText.{Row, placed, rows_in}
use Rattle.gx_growing.proofs.SortedRows.{placed_long}
use Rattle.gx_growing_parts.specs.Placing.{rows_of}
use Rattle.gx_growing_rows.proofs.RisingRows.{rows_long}

-- The element at a place, and those behind it.
pub from_place : {X : Type 0} (xs : List X) (i : ℕ) (x : X) → Some x ≡ slice_get xs i → drop i xs ≡ x ∷ drop (i + 1) xs
from_place [] i x e = absurd cc
from_place (y ∷ ys) zero x e = let same : x ≡ y = cc in ap (λ z. z ∷ ys) (sym same)
from_place (y ∷ ys) (suc i) x e = let s : suc i + 1 ≡ suc (i + 1) = omega arith in rw s (from_place ys i x e)

-- There is an element at each place before the length.
pub is_within : {X : Type 0} (xs : List X) (i : ℕ) → None ≡ slice_get xs i → i < length xs → ⊥
is_within [] i e h = omega (arith, h)
is_within (x ∷ xs) zero e h = cc
is_within (x ∷ xs) (suc i) e h = is_within xs i e (omega (arith, h))

module _ (old : List Row) (held first : ℕ) (rs : List Record) where
  -- of these records from a number on, those in front of one have their rows behind the old ones, and that one stands at this place
  pub record AreLaidOut (rows : List Row) (place at : ℕ) : Type 0 where
    pub told : rows ++ placed place (drop at rs) ≡ old ++ placed first (drop held rs)
    pub behind : place + length (flat_map (stored_record Two) (drop at rs)) ≡ first + length (flat_map (stored_record Two) (drop held rs))

  -- Before the first, none has.
  pub none_laid : AreLaidOut old first held
  none_laid = record { told = refl; behind = refl }

  module _ (rows : List Row) (place at : ℕ) (a : AreLaidOut rows place at) where
    -- One more.
    pub one_laid : (r : Record) (behind : ℕ) → drop at rs ≡ r ∷ drop (at + 1) rs → behind ≡ place + length (stored_record Two r) → AreLaidOut (rows ++ (r.name, place) ∷ []) behind (at + 1)
    one_laid r behind here ends =
        let more = flat_map (stored_record Two) (drop (at + 1) rs) in
        let all = flat_map (stored_record Two) (drop held rs) in
        let whole = ap (λ z. place + length (flat_map (stored_record Two) z)) (sym here) ∙ a.behind in
        record {
          told = append_assoc rows ((r.name, place) ∷ []) (placed behind (drop (at + 1) rs)) ∙ ap (λ p. rows ++ ((r.name, place) ∷ placed p (drop (at + 1) rs))) ends
              ∙ ap (λ z. rows ++ placed place z) (sym here) ∙ a.told;
          behind = sums place behind (length (stored_record Two r)) (length more) (length (stored_record Two r ++ more)) (first + length all) ends (length-append (stored_record Two r) more) whole;
        }
      where
        sums : (p b t m w f : ℕ) → b ≡ p + t → w ≡ t + m → p + w ≡ f → b + m ≡ f
        sums p b t m w f x y z = omega arith

    -- Behind the last, all have, and this is where it ends.
    pub all_laid : length rs ≤ at → (rows ≡ old ++ placed first (drop held rs)) × (place ≡ first + length (flat_map (stored_record Two) (drop held rs)))
    all_laid last =
        let none = drop_all at rs last in (
          sym (append-nil rows) ∙ ap (λ z. rows ++ placed place z) (sym none) ∙ a.told,
          sums place (length (flat_map (stored_record Two) (drop at rs))) (first + length (flat_map (stored_record Two) (drop held rs))) (ap (λ z. length (flat_map (stored_record Two) z)) none) a.behind,
        )
      where
        sums : (p m f : ℕ) → m ≡ 0 → p + m ≡ f → p ≡ f
        sums p m f x y = omega arith

-- Rows that were read, and one for each record behind them.
pub placed_behind : (taken : ℕ) (bytes : Bytes) (first : ℕ) (rs : List Record) → length (rows_in taken bytes ++ placed first rs) ≡ taken + length rs
placed_behind taken bytes first rs = length-append (rows_in taken bytes) (placed first rs) ∙ (λ i. rows_long taken bytes i + placed_long first rs i)

-- Where a record ends, by the numbers of its parts.
pub ends_behind : (name : Bytes) (kind : Kind) (body : Bytes) (place begins behind word digits long : ℕ) → word ≡ length (kind_word kind) → digits ≡ length (number_text (length body)) → long ≡ length name
    → begins ≡ place + (word + digits + 2 * long + 4) → behind ≡ begins + length body → behind ≡ place + length (stored_record Two (record { name = name; kind = kind; body = body }))
ends_behind name kind body place begins behind word digits long e f d g h =
    let w = kind_word kind in
    let n = number_text (length body) in
    let x = n ++ 32 ∷ hex name in
    let l = line w x in
    sums place begins behind word digits long (length (hex name)) (length x) (length (w ++ 32 ∷ x)) (length l) (length body) (length (l ++ body)) (length ((l ++ body) ++ 10 ∷ [])) (hex_long name ∙ ap (λ k. 2 * k) (sym d))
    (length-append n (32 ∷ hex name) ∙ ap (λ k. k + suc (length (hex name))) (sym f)) (length-append w (32 ∷ x) ∙ ap (λ k. k + suc (length x)) (sym e)) (length-append (w ++ 32 ∷ x) (10 ∷ []))
    (length-append l body) (length-append (l ++ body) (10 ∷ [])) g h
  where
    sums : (p b q w d m h x y l n s t : ℕ) → h ≡ 2 * m → x ≡ d + suc h → y ≡ w + suc x → l ≡ y + 1 → s ≡ l + n → t ≡ s + 1 → b ≡ p + (w + d + 2 * m + 4) → q ≡ b + n → q ≡ p + t
    sums p b q w d m h x y l n s t f g i j k o r u = omega arith

-- ---- names with places

-- One more record with its place has a row.
pub rows_more : (rs : List Record) (ps : List ℕ) (i : ℕ) (r : Record) → Some r ≡ slice_get rs i → i < length ps → take (i + 1) (rows_of rs ps) ≡ take i (rows_of rs ps) ++ (r.name, get_or ps i 0) ∷ []
rows_more [] ps i r e l = absurd cc
rows_more (x ∷ rs) [] i r e l = absurd (omega (arith, l))
rows_more (x ∷ rs) (p ∷ ps) zero r e l = let same : r ≡ x = cc in ap (λ (z : Record). (z.name, p) ∷ []) (sym same)
rows_more (x ∷ rs) (p ∷ ps) (suc i) r e l =
    let s : suc i + 1 ≡ suc (i + 1) = omega arith in
    rw s (ap (λ z. (x.name, p) ∷ z) (rows_more rs ps i r e (omega (arith, l))))

-- There are no more rows than places.
pub rows_few : (rs : List Record) (ps : List ℕ) → length (rows_of rs ps) ≤ length ps
rows_few [] ps = omega arith
rows_few (x ∷ rs) [] = omega arith
rows_few (x ∷ rs) (p ∷ ps) = let m = rows_few rs ps in omega (arith, m)

-- Behind the last place, all have rows.
pub rows_all : (rs : List Record) (ps : List ℕ) (i : ℕ) → length ps ≤ i → take i (rows_of rs ps) ≡ rows_of rs ps
rows_all rs ps i last = take_all i (rows_of rs ps) (let m = rows_few rs ps in omega (arith, m, last))
