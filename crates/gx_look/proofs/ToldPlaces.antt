-- The places of records, by their numbers: they go up, and a place that is found is that of the record with the name.
use Rattle.std.proofs.Common.{◌≡◌, ◌⊎◌, inl, inr, ℕ, zero, suc, ◌+◌, ◌<◌, ◌≤◌, Bool, true, false, cond, List, [], ◌∷◌, ◌++◌, length, map, take, get_or, Option, Some, None, Ok, refl, sym, ap, ◌∙◌, subst, arith}
use Rattle.std.specs.Prelude.{◌||◌, not, nat_lt, IfSome}
use Rattle.std.proofs.lemmas.Bool.Decides.{nat_tests}
use Rattle.std.specs.Bool.{passes}
use Rattle.std.specs.List.{AllByRecursion, AllZip, Contains, list_any, position, position_or_len}
use Rattle.std.specs.Option.{option_map}
use Rattle.std.specs.Result.{result_ok}
use Rattle.std.proofs.lemmas.List.Sorted.{Contains-permutation}
use Rattle.std.proofs.lemmas.Option.{IfSome_then}
use Rattle.sha2.specs.Sha256.{sha256}
use Rattle.gx_model.specs.declared.objects.Kind.{Kind}
use Rattle.gx_model.specs.Texts.{Bytes, same_bytes}
use Rattle.gx_model.specs.Objects.{IsNamer}
use Rattle.gx_model.specs.Histories.{AreDistinct, Record, Records}
use Rattle.gx_model.specs.Records.Growth.{record_named}
use Rattle.gx_model.specs.Records.Sound.{AnyByRecursion}
use Rattle.gx_model.proofs.Texts.Cuts.{some_is}
use Rattle.gx_model.proofs.Texts.PathTests.{is_same, is_true, same_is}
use Rattle.gx_growing.specs.GrowingText.{Row, head_length, live_rows}
use Rattle.gx_growing.specs.GrowingReading.{grown_of}
use Rattle.gx_growing.specs.GrowingLaws.{GoUp, StandsAt}
use Rattle.gx_growing.proofs.RowsTellPlaces.{Rise, Tells, rise_go_up, segments_rise, zip_length}
use Rattle.gx_growing_parts.specs.Shown.{shown_run}
use Rattle.gx_objects.specs.Answers.{GoesUp, StandsThere}
use Rattle.gx_store.specs.Stores.{place_named}
use Rattle.gx_look.specs.declared.tail.Tail.{Tail}
use Rattle.gx_look.specs.Looking.{place_at, rows_of, told_by, told_rows}
use Rattle.gx_look.specs.Opened.{IsOpened}
use Rattle.gx_look.specs.Rows.{PlacesIn}
use Rattle.gx_look.proofs.OpenedTexts.{is_told}
use Rattle.gx_look.proofs.TellingRows.{contained_head, record_of_row}
use Rattle.gx_look.proofs.ToldNames.{IsRecordOf, absence_tells, each_told, record_stands, same_live, seen}

-- ---- places go up

later_at : (p : ℕ) (ps : List ℕ) (j : ℕ) → AllByRecursion (λ later. p < later) ps → j < length ps → p < get_or ps j 0
later_at p [] j h l = absurd (omega (arith, l))
later_at p (q ∷ qs) zero h l = h.0
later_at p (q ∷ qs) (suc j) h l = later_at p qs j h.1 (omega (arith, l))

up_at : (ps : List ℕ) → GoUp ps → (i j : ℕ) → i < j → j < length ps → get_or ps i 0 < get_or ps j 0
up_at [] h i j l m = absurd (omega (arith, m))
up_at (p ∷ ps) h i zero l m = absurd (omega (arith, l))
up_at (p ∷ ps) h zero (suc j) l m = later_at p ps j h.0 (omega (arith, m))
up_at (p ∷ ps) h (suc i) (suc j) l m = up_at ps h.1 i j (omega (arith, l)) (omega (arith, m))

-- ---- numbers

less_behind : (k n : ℕ) → nat_lt (1 + k) (suc n) ≡ nat_lt k n
less_behind k n = by (nat_lt k n) refl
  where
    by : (b : Bool) → nat_lt k n ≡ b → nat_lt (1 + k) (suc n) ≡ b
    by true e = let l : k < n = grind (arith, nat_tests) in grind (arith, nat_tests)
    by false e = let l : n ≤ k = grind (arith, nat_tests) in grind (arith, nat_tests)

-- the first that passes, behind one more
position_behind : {X : Type 0} (p : X → Bool) (x : X) (xs : List X) → position p (x ∷ xs) ≡ cond (p x) (Some 0) (option_map (λ n. n + 1) (position p xs))
position_behind p x xs = by (p x)
  where
    shift : (k : ℕ) (b : Bool) → cond b (Some (1 + k)) None ≡ option_map (λ n. n + 1) (cond b (Some k) None)
    shift k true = let e : 1 + k ≡ k + 1 = omega arith in ap Some e
    shift k false = refl

    by : (b : Bool) → cond (nat_lt (cond (not b) (1 + position_or_len p xs) 0) (length (x ∷ xs))) (Some (cond (not b) (1 + position_or_len p xs) 0)) None ≡ cond b (Some 0) (option_map (λ n. n + 1) (position p xs))
    by true = let e : nat_lt 0 (length (x ∷ xs)) ≡ true = grind (arith, nat_tests) in ap (λ t. cond t (Some 0) None) e
    by false = ap (λ t. cond t (Some (1 + position_or_len p xs)) None) (less_behind (position_or_len p xs) (length xs)) ∙ shift (position_or_len p xs) (nat_lt (position_or_len p xs) (length xs))

-- a name that none of these has isn't among them
pub not_among : (n : Bytes) (rs : List Record) → list_any (same_bytes n) (map (λ held. held.name) rs) ≡ false → AnyByRecursion (λ held. held.name ≡ n) rs → ⊥
not_among n [] e h = h
not_among n (r ∷ rs) e h = by (not_among n rs) (same_bytes n r.name) (list_any (same_bytes n) (map (λ held. held.name) rs)) refl refl e h
  where
    by : (list_any (same_bytes n) (map (λ held. held.name) rs) ≡ false → AnyByRecursion (λ held. held.name ≡ n) rs → ⊥) → (a b : Bool) → same_bytes n r.name ≡ a → list_any (same_bytes n) (map (λ held. held.name) rs) ≡ b → (a || b) ≡ false → (r.name ≡ n) ⊎ AnyByRecursion (λ held. held.name ≡ n) rs → ⊥
    by rest true b f g k (inl i) = cc
    by rest true b f g k (inr i) = cc
    by rest false true f g k (inl i) = cc
    by rest false true f g k (inr i) = cc
    by rest false false f g k (inl i) = let l = sym (is_true _ (is_same n r.name (sym i))) ∙ f in cc
    by rest false false f g k (inr i) = rest g i

some_weaker : (P Q : Record → Type 0) → ((r : Record) → P r → Q r) → (rs : List Record) → AnyByRecursion P rs → AnyByRecursion Q rs
some_weaker P Q f [] h = h
some_weaker P Q f (r ∷ rs) (inl p) = inl (f r p)
some_weaker P Q f (r ∷ rs) (inr p) = inr (some_weaker P Q f rs p)

-- the number of a row is that of the record with its name
row_number : (text : Bytes) (rows : List Row) (rs : List Record) (called : Bytes) (place : ℕ) → AllZip (Tells text) rows rs → AreDistinct (map (λ held. held.name) rs) → Contains rows (called, place)
    → Some place ≡ option_map (place_at rows) (place_named rs called)
row_number text [] rs called place all d h = absurd (omega (arith, h.1))
row_number text (x ∷ xs) [] called place all d h = absurd all
row_number text (x ∷ xs) (r ∷ rs) called place all d h = elim (contained_head x (called, place) xs h) [
  | inl e ↦ (let name : called ≡ r.name = sym (ap (λ (z : Row). z.0) e) ∙ all.0.0 in
      sym (ap (option_map (place_at (x ∷ xs))) (position_behind (λ held. same_bytes called held.name) r rs ∙ ap (λ b. cond b (Some 0) (option_map (λ n. n + 1) (place_named rs called))) (is_true _ (is_same called r.name name))) ∙ ap (λ (z : Row). Some z.1) e))
  | inr more ↦ (let there = some_weaker _ (λ held. held.name ≡ called) (λ held p. p.0) rs (record_of_row text xs rs (called, place) all.1 more) in
      behind there (row_number text xs rs called place all.1 d.1 more))
]
  where
    shifted : (o : Option ℕ) → option_map (place_at xs) o ≡ option_map (place_at (x ∷ xs)) (option_map (λ n. n + 1) o)
    shifted None = refl
    shifted (Some n) = let e : suc n ≡ n + 1 = omega arith in ap (λ k. Some (place_at (x ∷ xs) k)) e

    behind : AnyByRecursion (λ held. held.name ≡ called) rs → Some place ≡ option_map (place_at xs) (place_named rs called) → Some place ≡ option_map (place_at (x ∷ xs)) (place_named (r ∷ rs) called)
    behind there e = by (same_bytes called r.name) refl ∙ sym (ap (option_map (place_at (x ∷ xs))) (position_behind (λ held. same_bytes called held.name) r rs))
      where
        by : (b : Bool) → same_bytes called r.name ≡ b → Some place ≡ option_map (place_at (x ∷ xs)) (cond b (Some 0) (option_map (λ n. n + 1) (place_named rs called)))
        by true f =
            let same : called ≡ r.name = same_is called r.name (passes _ f) in
            absurd (not_among r.name rs d.0 (some_weaker _ (λ held. held.name ≡ r.name) (λ held p. p ∙ same) rs there))
        by false f = e ∙ shifted (place_named rs called)

-- the record of a name whose number has this row stands at the row's place
number_stands : (text : Bytes) (rows : List Row) (rs : List Record) (called : Bytes) (place : ℕ) → AllZip (Tells text) rows rs → Some place ≡ option_map (place_at rows) (place_named rs called)
    → (held : Record) × (record_named rs called ≡ Some held) × (held.name ≡ called) × StandsAt text place held
number_stands text [] [] called place all e = absurd (cc)
number_stands text [] (r ∷ rs) called place all e = absurd all
number_stands text (x ∷ xs) [] called place all e = absurd all
number_stands text (x ∷ xs) (r ∷ rs) called place all e =
    by (λ f. number_stands text xs rs called place all.1 f) (same_bytes called r.name) refl (e ∙ ap (option_map (place_at (x ∷ xs))) (position_behind (λ held. same_bytes called held.name) r rs))
  where
    shifted : (o : Option ℕ) → option_map (place_at (x ∷ xs)) (option_map (λ n. n + 1) o) ≡ option_map (place_at xs) o
    shifted None = refl
    shifted (Some n) = let e : n + 1 ≡ suc n = omega arith in ap (λ k. Some (place_at (x ∷ xs) k)) e

    by : (Some place ≡ option_map (place_at xs) (place_named rs called) → (held : Record) × (record_named rs called ≡ Some held) × (held.name ≡ called) × StandsAt text place held)
        → (b : Bool) → same_bytes called r.name ≡ b → Some place ≡ option_map (place_at (x ∷ xs)) (cond b (Some 0) (option_map (λ n. n + 1) (place_named rs called)))
        → (held : Record) × (cond b (Some r) (record_named rs called) ≡ Some held) × (held.name ≡ called) × StandsAt text place held
    by rest true f k =
        let there : x.1 ≡ place = sym (some_is place x.1 k) in
        (r, refl, sym (same_is called r.name (passes _ f)), subst (λ p. StandsAt text p r) there all.0.1)
    by rest false f k = rest (k ∙ shifted (place_named rs called))

-- where no record has a name, none has a number
no_number : (rs : List Record) (called : Bytes) → record_named rs called ≡ None → place_named rs called ≡ None
no_number [] called e = refl
no_number (r ∷ rs) called e = position_behind (λ held. same_bytes called held.name) r rs ∙ by (λ f. no_number rs called f) (same_bytes called r.name) e
  where
    by : (record_named rs called ≡ None → place_named rs called ≡ None) → (b : Bool) → cond b (Some r) (record_named rs called) ≡ None → cond b (Some 0) (option_map (λ n. n + 1) (place_named rs called)) ≡ None
    by rest true f = absurd (cc)
    by rest false f = ap (option_map (λ n. n + 1)) (rest f)

-- ---- what is told

module _ (name : Kind → Bytes → Bytes) (namer : IsNamer name) where
  rows_told : (told : Option Bytes) (text : Bytes) → told ≡ Some text → (r : Records) (g : grown_of name sha256 text ≡ Ok r) → told_rows name told ≡ (is_told name namer text r g).0.1.rows
  rows_told told text e r g = ap (told_rows name) e ∙ ap rows_of (is_told name namer text r g).1.front_is

  -- places go up with the order of records
  pub order_tells : (told : Option Bytes) → IfSome (told_by name told) (λ r. GoesUp (place_at (told_rows name told)) (length r.records))
  order_tells told = each_told name namer told (λ r. GoesUp (place_at (told_rows name told)) (length r.records)) (λ text e r g i j l m.
      let t = is_told name namer text r g in
      let rows = t.0.1.rows in
      let f = t.1.front in
      let up : GoUp (map (λ row. row.1) rows) = rise_go_up head_length rows (subst (Rise head_length) (sym f.rows) (segments_rise head_length (f.before ++ f.last ∷ []))) in
      let size = zip_length (take t.0.0.ends text) rows r.records t.1.stand in
      subst (λ z. place_at z i < place_at z j) (sym (rows_told told text e r g)) (up_at (map (λ row. row.1) rows) up i j l (omega (arith, size, m))))

  module _ {A : Type 0} {is_first : Bool} (told : Option Bytes) (ends : ℕ) (tail : Tail A) (opened : IsOpened name told is_first ends tail) where
    -- a place that is found is that of the number of the record with the name
    pub number_tells : (called : Bytes) (place : ℕ) → PlacesIn told tail.runs.items called (Some place) → IfSome (told_by name told) (λ r. StandsThere (place_at (told_rows name told)) called r (Some place))
    number_tells called place there = each_told name namer told (λ r. StandsThere (place_at (told_rows name told)) called r (Some place)) (λ text e r g.
        let s = seen name namer told ends tail opened text e r g in
        let t = s.told_is in
        let row : Row = (called, place) in
        let among : Contains (live_rows text (map shown_run tail.runs.items)) row = subst (λ z. PlacesIn z tail.runs.items called (Some place)) e there in
        let live = subst (λ z. Contains z row) (ap (live_rows text) s.tail_is.0 ∙ same_live text s.x.0.ends s.x.1.runs t.runs) among in
        let held = Contains-permutation (live_rows (take s.x.0.ends text) s.x.1.runs) s.x.1.rows row t.rows live in
        let same : told_rows name told ≡ s.x.1.rows = ap (told_rows name) e ∙ ap rows_of t.front_is in
        subst (λ z. Some place ≡ option_map (place_at z) (place_named r.records called)) (sym same) (row_number (take s.x.0.ends text) s.x.1.rows r.records called place t.stand t.sound.distinct held))

    -- and where none is found, none has the name
    pub no_number_tells : (called : Bytes) → PlacesIn told tail.runs.items called None → IfSome (told_by name told) (λ r. StandsThere (place_at (told_rows name told)) called r None)
    no_number_tells called none = IfSome_then (told_by name told) (absence_tells name namer told ends tail opened called none) (λ r e. ap (option_map (place_at (told_rows name told))) (sym (no_number r.records called e)))

    -- what is answered of a name's place
    pub place_answer : (called : Bytes) (found : Option ℕ) → PlacesIn told tail.runs.items called found → IfSome (told_by name told) (λ r. StandsThere (place_at (told_rows name told)) called r found)
    place_answer called (Some place) there = number_tells called place there
    place_answer called None none = no_number_tells called none

    -- what a number's place has is the record of the name
    pub number_leads : (called : Bytes) (place : ℕ) → IfSome (told_by name told) (λ r. StandsThere (place_at (told_rows name told)) called r (Some place)) → IfSome (told_by name told) (IsRecordOf name told ends place called)
    number_leads called place there = each_told name namer told (IsRecordOf name told ends place called) (λ text e r g.
        let s = seen name namer told ends tail opened text e r g in
        let t = s.told_is in
        let of_told : told_by name told ≡ Some r = ap (told_by name) e ∙ ap result_ok g in
        let here : StandsThere (place_at (told_rows name told)) called r (Some place) = subst (λ o. IfSome o (λ r. StandsThere (place_at (told_rows name told)) called r (Some place))) of_told there in
        let same : told_rows name told ≡ s.x.1.rows = ap (told_rows name) e ∙ ap rows_of t.front_is in
        let number = subst (λ z. Some place ≡ option_map (place_at z) (place_named r.records called)) same here in
        record_stands name namer told ends tail opened called place text e r g (number_stands (take s.x.0.ends text) s.x.1.rows r.records called place t.stand number))
