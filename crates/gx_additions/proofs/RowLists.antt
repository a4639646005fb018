-- The rows of records that stand in segments have names of 20 bytes, and places below 2^64.
use Rattle.std.proofs.Common.{◌≡◌, ℕ, ◌+◌, ◌≤◌, ◌<◌, ◌^◌, refl, sym, ap, subst, ◌∙◌, List, [], ◌∷◌, ◌++◌, length, codes, arith, length-append, eqb→eq}
use Rattle.std.specs.Prelude.{T, nat_eq}
use Rattle.std.specs.List.{AllByRecursion, AllZip, flat_map}
use Rattle.std.specs.List.Sorted.{IsPermutation}
use Rattle.std.proofs.lemmas.List.Elements.{All-from_recursion, recursion_from_All}
use Rattle.std.proofs.lemmas.List.Sorted.{All-permutation}
use Rattle.gx_model.specs.declared.objects.Kind.{Kind}
use Rattle.gx_model.specs.declared.store_versions.Version.TheVariants.{Two}
use Rattle.gx_model.specs.Texts.{Bytes}
use Rattle.gx_model.specs.Texts.Numbers.{number_text}
use Rattle.gx_model.specs.Objects.{IsNamer, is_name, line}
use Rattle.gx_model.specs.Histories.{Record}
use Rattle.gx_model.specs.Stores.StoreText.{stored_record}
use Rattle.gx_model.proofs.Texts.PathTests.{first}
use Rattle.gx_model.proofs.ObjectTexts.TreePaths.{name_is_name}
use Rattle.gx_growing.specs.GrowingText.{Row, Segment, first_place, placed, placed_rows, records_of, rows_text, segment_text, tail_text}
use Rattle.gx_growing.proofs.StandingRuns.{IsRow}

-- a row has the name of a record, and a place below 2^63
abbrev pub Names : Row → Record → Type 0
Names row held = (row.0 ≡ held.name) × (row.1 < 2 ^ 63)

-- ---- rows beside their records

-- two lists of rows beside their records
pub names_both : (xs us : List Row) (rs qs : List Record) → AllZip Names xs rs → AllZip Names us qs → AllZip Names (xs ++ us) (rs ++ qs)
names_both [] us [] qs h g = g
names_both [] us (r ∷ rs) qs h g = absurd h
names_both (x ∷ xs) us [] qs h g = absurd h
names_both (x ∷ xs) us (r ∷ rs) qs h g = (h.0, names_both xs us rs qs h.1 g)

-- records that stand one behind the other up to a place below 2^63
pub placed_named : (place : ℕ) (rs : List Record) → place + length (flat_map (stored_record Two) rs) < 2 ^ 63 → AllZip Names (placed place rs) rs
placed_named place [] l = tt
placed_named place (r ∷ rs) l =
    let t = stored_record Two r in
    let more = flat_map (stored_record Two) rs in
    let bounds = split place (length t) (length more) (length (t ++ more)) (length-append t more) l in
    ((refl, bounds.0), placed_named (place + length t) rs bounds.1)
  where
    split : (p t m w : ℕ) → w ≡ t + m → p + w < 2 ^ 63 → (p < 2 ^ 63) × ((p + t) + m < 2 ^ 63)
    split p t m w e l = (omega arith, omega arith)

-- the records of a segment end before it does
pub records_within : (place : ℕ) (s : Segment) → first_place place s.records + length (flat_map (stored_record Two) s.records) ≤ place + length (segment_text s)
records_within place s =
    let objects = line (codes "objects") (number_text (length s.records)) in
    let held = flat_map (stored_record Two) s.records in
    let behind = rows_text s.count s.table (tail_text s.runs s.refs) in
    within place (length objects) (length held) (length behind) (length (held ++ behind)) (length (segment_text s)) (length-append objects (held ++ behind)) (length-append held behind)
  where
    within : (place objects held behind both whole : ℕ) → whole ≡ objects + both → both ≡ held + behind → (place + objects) + held ≤ place + whole
    within place objects held behind both whole e f = omega arith

-- so are those of segments
pub rows_named : (place : ℕ) (ss : List Segment) → place + length (flat_map segment_text ss) < 2 ^ 63 → AllZip Names (placed_rows place ss) (records_of ss)
rows_named place [] l = tt
rows_named place (s ∷ ss) l =
    let t = segment_text s in
    let more = flat_map segment_text ss in
    let bounds = split place (length t) (length more) (length (t ++ more)) (first_place place s.records + length (flat_map (stored_record Two) s.records)) (length-append t more) l (records_within place s) in
    names_both (placed (first_place place s.records) s.records) (placed_rows (place + length t) ss) s.records (records_of ss) (placed_named (first_place place s.records) s.records bounds.0) (rows_named (place + length t) ss bounds.1)
  where
    split : (p t m w k : ℕ) → w ≡ t + m → p + w < 2 ^ 63 → k ≤ p + t → (k < 2 ^ 63) × ((p + t) + m < 2 ^ 63)
    split p t m w k e l h = (omega arith, omega arith)

-- ---- what they are

module _ (name : Kind → Bytes → Bytes) (namer : IsNamer name) where
  -- their names have 20 bytes, and their places are below 2^64
  pub named_rows : (xs : List Row) (rs : List Record) → AllZip Names xs rs → AllByRecursion (λ held. held.name ≡ name held.kind held.body) rs → AllByRecursion IsRow xs
  named_rows [] [] h n = tt
  named_rows [] (r ∷ rs) h n = tt
  named_rows (x ∷ xs) [] h n = absurd h
  named_rows (x ∷ xs) (r ∷ rs) h n =
      let long : length r.name ≡ 20 = eqb→eq (length r.name) 20 (first (nat_eq (length r.name) 20) _ (subst (λ z. T (is_name z)) (sym n.0) (name_is_name name namer r.kind r.body))) in
      ((ap length h.0.0 ∙ long, less x.1 h.0.1), named_rows xs rs h.1 n.1)
    where
      less : (p : ℕ) → p < 2 ^ 63 → p < 2 ^ 64
      less p l = omega arith

-- ---- in another order

-- what holds of all rows holds of the last of them in another order
pub all_behind : (P : Row → Type 0) (xs front behind : List Row) → IsPermutation xs (front ++ behind) → AllByRecursion P xs → AllByRecursion P behind
all_behind P xs front behind p h = right front (recursion_from_All P (front ++ behind) (All-permutation P xs (front ++ behind) p (All-from_recursion P xs h)))
  where
    right : (us : List Row) → AllByRecursion P (us ++ behind) → AllByRecursion P behind
    right [] a = a
    right (u ∷ us) a = right us a.1
