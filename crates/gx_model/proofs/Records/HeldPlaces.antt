-- The place of a held name among records: the first that has it.
use Rattle.std.proofs.Common.{◌≡◌, ℕ, zero, suc, ◌+◌, ◌<◌, Bool, true, false, cond, not, List, [], ◌∷◌, length, nat_lt, Option, Some, None, refl, sym, ap, ◌∙◌, arith}
use Rattle.std.proofs.lemmas.Bool.Decides.{nat_tests}
use Rattle.std.specs.Prelude.{IsTrue, is_some}
use Rattle.std.specs.List.{position, position_or_len, slice_get}
use Rattle.std.specs.Bool.{passes}
use Rattle.gx_model.specs.declared.objects.Kind.{Kind}
use Rattle.gx_model.specs.Texts.{Bytes, same_bytes}
use Rattle.gx_model.specs.Histories.{Record, Records}
use Rattle.gx_model.specs.Objects.{IsNamer}
use Rattle.gx_model.specs.Records.HistoryOf.{value_of_name}
use Rattle.gx_model.specs.Records.Growth.{record_named}
use Rattle.gx_model.specs.Laws.RepositoryLaws.{values_of}
use Rattle.gx_model.specs.Records.Sound.{IsSound}
use Rattle.gx_model.proofs.Texts.PathTests.{same_is}
use Rattle.gx_model.proofs.Records.Standing.{name_there}

-- none of the first n passes
abbrev pub NoneBefore : {X : Type 0} → (X → Bool) → List X → ℕ → Type 0
NoneBefore test xs n = (i : ℕ) → i < n → (x : _) → slice_get xs i ≡ Some x → test x ≡ false

counted : {X : Type 0} (test : X → Bool) (xs : List X) (i : ℕ) (x : X) → NoneBefore test xs i → slice_get xs i ≡ Some x → test x ≡ true → (position_or_len test xs ≡ i) × (i < length xs)
counted test [] i x h e t = absurd cc
counted test (y ∷ ys) zero x h e t =
    let same : y ≡ x = cc in
    let k : test y ≡ true = ap test same ∙ t in
    (ap (λ b. cond (not b) (1 + position_or_len test ys) 0) k, omega arith)
counted test (y ∷ ys) (suc i) x h e t =
    let k = counted test ys i x (λ j l z f. h (suc j) (omega (arith, l)) z f) e t in
    let first : test y ≡ false = h 0 (omega arith) y refl in
    (ap (λ b. cond (not b) (1 + position_or_len test ys) 0) first ∙ ap (λ n. 1 + n) k.0 ∙ omega arith, (let l = k.1 in omega arith))

-- the first that passes
pub first_place : {X : Type 0} (test : X → Bool) (xs : List X) (i : ℕ) (x : X) → NoneBefore test xs i → slice_get xs i ≡ Some x → test x ≡ true → position test xs ≡ Some i
first_place test xs i x h e t =
    let k = counted test xs i x h e t in
    let within : nat_lt i (length xs) ≡ true = (let l = k.1 in grind (arith, nat_tests)) in
    ap (λ n. cond (nat_lt n (length xs)) (Some n) None) k.0 ∙ ap (λ b. cond b (Some i) None) within

-- ---- held names

-- a record that is found stands at the first place of its name
pub record IsFirst (rs : List Record) (n : Bytes) (s : Record) : Type 0 where
  pub place : ℕ
  pub stands : slice_get rs place ≡ Some s
  pub none : NoneBefore (λ r. same_bytes n r.name) rs place
  pub same : same_bytes n s.name ≡ true

is_first : (rs : List Record) (n : Bytes) (s : Record) → record_named rs n ≡ Some s → IsFirst rs n s
is_first [] n s e = absurd cc
is_first (r ∷ rs) n s e = by (λ f. is_first rs n s f) (same_bytes n r.name) refl e
  where
    nothing : NoneBefore (λ q. same_bytes n q.name) (r ∷ rs) 0
    nothing j l z f = absurd (omega (arith, l))

    more : same_bytes n r.name ≡ false → (k : IsFirst rs n s) → NoneBefore (λ q. same_bytes n q.name) (r ∷ rs) (suc k.place)
    more k f zero l z g = let same : r ≡ z = cc g in ap (λ q. same_bytes n q.name) (sym same) ∙ k
    more k f (suc j) l z g = f.none j (omega (arith, l)) z g

    by : (record_named rs n ≡ Some s → IsFirst rs n s) → (b : Bool) → same_bytes n r.name ≡ b → cond b (Some r) (record_named rs n) ≡ Some s → IsFirst (r ∷ rs) n s
    by rest true k f =
        let same : r ≡ s = cc f in
        record { place = 0; stands = f; none = nothing; same = ap (λ q. same_bytes n q.name) (sym same) ∙ k }
    by rest false k f = let t = rest f in record { place = suc t.place; stands = t.stands; none = more k t; same = t.same }

module _ (name : Kind → Bytes → Bytes) (namer : IsNamer name) (r : Records) (sound : IsSound name r) where
  -- the place of a held name is that of its value
  pub held_place : (n : Bytes) → IsTrue (is_some (record_named r.records n)) → (i : ℕ) × (position (λ held. same_bytes n held.name) r.records ≡ Some i) × (slice_get (values_of r) i ≡ Some (value_of_name r.records n))
  held_place n h = by (record_named r.records n) refl h
    where
      by : (o : Option Record) → record_named r.records n ≡ o → IsTrue (is_some o) → (i : ℕ) × (position (λ held. same_bytes n held.name) r.records ≡ Some i) × (slice_get (values_of r) i ≡ Some (value_of_name r.records n))
      by None e k = absurd cc
      by (Some s) e k =
          let f = is_first r.records n s e in
          let same : n ≡ s.name = same_is n s.name (passes _ f.same) in
          (f.place, first_place (λ q. same_bytes n q.name) r.records f.place s f.none f.stands f.same, (name_there name namer r sound f.place s (sym f.stands)).0 ∙ ap (λ m. Some (value_of_name r.records m)) (sym same))
