-- What is found of names in two parts is found of both, and in the records that begin with digits.
use Rattle.std.proofs.Common.{◌≡◌, ◌≢◌, ◌⊎◌, inl, inr, Bool, true, false, cond, List, [], ◌∷◌, map, refl, sym, ap, ◌∙◌}
use Rattle.std.specs.Prelude.{◌||◌}
use Rattle.std.specs.List.{AllByRecursion, list_any}
use Rattle.std.proofs.lemmas.Bool.{false≢true, or_parts}
use Rattle.gx_model.specs.Texts.{Bytes, same_bytes}
use Rattle.gx_model.specs.Histories.{AreDistinct, Record}
use Rattle.gx_model.specs.Records.Lookups.{records_begun_by}
use Rattle.gx_model.specs.Records.Sound.{AnyByRecursion}
use Rattle.gx_model.specs.Revisions.Denotation.{begins_with_digits}
use Rattle.gx_model.proofs.Texts.PathTests.{is_same, is_true}
use Rattle.gx_object.specs.declared.name.Name.{Name}
use Rattle.gx_store.specs.Prefixes.{prefix_of}
use Rattle.gx_store.specs.declared.prefix.Prefix.{Prefix}
use Rattle.gx_store.specs.declared.prefix.Prefix.TheVariants.{Unique, Absent, Ambiguous}
use Rattle.gx_look.specs.Rows.{IsFoundOf}

-- ---- two parts

module _ (One Other Both : Bytes → Type 0) (either : (n : Bytes) → Both n → One n ⊎ Other n) (one : (n : Bytes) → One n → Both n) (other : (n : Bytes) → Other n → Both n) where
  pub found_behind_none : (more : Prefix) → IsFoundOf One Absent → IsFoundOf Other more → IsFoundOf Both more
  found_behind_none Absent none more = λ n h. elim (either n h) [
    | inl k ↦ none n k
    | inr k ↦ more n k
  ]
  found_behind_none (Unique m) none more = (
    other m.bytes more.0,
    λ n h. elim (either n h) [
      | inl k ↦ absurd (none n k)
      | inr k ↦ more.1 n k
    ],
  )
  found_behind_none Ambiguous none more = (more.0, more.1, other more.0 more.2, other more.1 more.3, more.4)

  pub found_before_none : (m : Name) → IsFoundOf One (Unique m) → IsFoundOf Other Absent → IsFoundOf Both (Unique m)
  found_before_none m found none = (
    one m.bytes found.0,
    λ n h. elim (either n h) [
      | inl k ↦ found.1 n k
      | inr k ↦ absurd (none n k)
    ],
  )

  pub found_alike : (m l : Name) → m.bytes ≡ l.bytes → IsFoundOf One (Unique m) → IsFoundOf Other (Unique l) → IsFoundOf Both (Unique m)
  found_alike m l same found more = (
    one m.bytes found.0,
    λ n h. elim (either n h) [
      | inl k ↦ found.1 n k
      | inr k ↦ more.1 n k ∙ sym same
    ],
  )

  pub found_apart : (m l : Name) → (m.bytes ≢ l.bytes) → IsFoundOf One (Unique m) → IsFoundOf Other (Unique l) → IsFoundOf Both Ambiguous
  found_apart m l apart found more = (m.bytes, l.bytes, one m.bytes found.0, other l.bytes more.0, apart)

  pub found_two : IsFoundOf One Ambiguous → IsFoundOf Both Ambiguous
  found_two found = (found.0, found.1, one found.0 found.2, one found.1 found.3, found.4)

  pub found_two_behind : IsFoundOf Other Ambiguous → IsFoundOf Both Ambiguous
  found_two_behind found = (found.0, found.1, other found.0 found.2, other found.1 found.3, found.4)

-- ---- records that begin with digits

kept_apart : (n digits : Bytes) (rs : List Record) → list_any (same_bytes n) (map (λ held. held.name) rs) ≡ false → list_any (same_bytes n) (map (λ held. held.name) (records_begun_by rs digits)) ≡ false
kept_apart n digits [] e = refl
kept_apart n digits (r ∷ rs) e =
    let p = or_parts (same_bytes n r.name) (list_any (same_bytes n) (map (λ held. held.name) rs)) e in
    by (begins_with_digits digits r.name) p.0 (kept_apart n digits rs p.1)
  where
    by : (b : Bool) → same_bytes n r.name ≡ false → list_any (same_bytes n) (map (λ held. held.name) (records_begun_by rs digits)) ≡ false
        → list_any (same_bytes n) (map (λ held. held.name) (cond b (r ∷ records_begun_by rs digits) (records_begun_by rs digits))) ≡ false
    by true f g = ap (λ b. b || list_any (same_bytes n) (map (λ held. held.name) (records_begun_by rs digits))) f ∙ g
    by false f g = g

kept_distinct : (digits : Bytes) (rs : List Record) → AreDistinct (map (λ held. held.name) rs) → AreDistinct (map (λ held. held.name) (records_begun_by rs digits))
kept_distinct digits [] d = tt
kept_distinct digits (r ∷ rs) d = by (begins_with_digits digits r.name) (kept_distinct digits rs d.1)
  where
    by : (b : Bool) → AreDistinct (map (λ held. held.name) (records_begun_by rs digits)) → AreDistinct (map (λ held. held.name) (cond b (r ∷ records_begun_by rs digits) (records_begun_by rs digits)))
    by true k = (kept_apart r.name digits rs d.0, k)
    by false k = k

module _ (digits : Bytes) (Is : Bytes → Type 0) where
  kept_all : (rs : List Record) → AllByRecursion (λ held. begins_with_digits digits held.name ≡ true → Is held.name) rs → AllByRecursion (λ held. Is held.name) (records_begun_by rs digits)
  kept_all [] h = tt
  kept_all (r ∷ rs) h = by (begins_with_digits digits r.name) refl (kept_all rs h.1)
    where
      by : (b : Bool) → begins_with_digits digits r.name ≡ b → AllByRecursion (λ held. Is held.name) (records_begun_by rs digits) → AllByRecursion (λ held. Is held.name) (cond b (r ∷ records_begun_by rs digits) (records_begun_by rs digits))
      by true e k = (h.0 e, k)
      by false e k = k

  kept_some : (n : Bytes) (rs : List Record) → AnyByRecursion (λ held. (held.name ≡ n) × (begins_with_digits digits held.name ≡ true)) rs → AnyByRecursion (λ held. held.name ≡ n) (records_begun_by rs digits)
  kept_some n [] h = absurd h
  kept_some n (r ∷ rs) h = by (kept_some n rs) (begins_with_digits digits r.name) refl h
    where
      by : (AnyByRecursion (λ held. (held.name ≡ n) × (begins_with_digits digits held.name ≡ true)) rs → AnyByRecursion (λ held. held.name ≡ n) (records_begun_by rs digits)) → (b : Bool) → begins_with_digits digits r.name ≡ b → ((r.name ≡ n) × (begins_with_digits digits r.name ≡ true)) ⊎ AnyByRecursion (λ held. (held.name ≡ n) × (begins_with_digits digits held.name ≡ true)) rs
          → AnyByRecursion (λ held. held.name ≡ n) (cond b (r ∷ records_begun_by rs digits) (records_begun_by rs digits))
      by more true e (inl k) = inl k.0
      by more true e (inr k) = inr (more k)
      by more false e (inl k) = absurd (false≢true (sym e ∙ k.1))
      by more false e (inr k) = more k

  -- these records alone have the names
  finds : (rs : List Record) → AreDistinct (map (λ held. held.name) rs) → ((n : Bytes) → Is n → AnyByRecursion (λ held. held.name ≡ n) rs) → AllByRecursion (λ held. Is held.name) rs → (found : Prefix) → IsFoundOf Is found → found ≡ prefix_of rs
  finds [] d only all Absent h = refl
  finds [] d only all (Unique m) h = absurd (only m.bytes h.0)
  finds [] d only all Ambiguous h = absurd (only h.0 h.2)
  finds (r ∷ []) d only all Absent h = absurd (h r.name all.0)
  finds (r ∷ []) d only all (Unique m) h = ap (λ (b : Bytes). Unique (record { bytes = b })) (sym (h.1 r.name all.0))
  finds (r ∷ []) d only all Ambiguous h = absurd (h.4 (sym (one h.0 (only h.0 h.2)) ∙ one h.1 (only h.1 h.3)))
    where
      one : (n : Bytes) → (r.name ≡ n) ⊎ ⊥ → r.name ≡ n
      one n (inl e) = e
      one n (inr e) = absurd e
  finds (r ∷ s ∷ rs) d only all Absent h = absurd (h r.name all.0)
  finds (r ∷ s ∷ rs) d only all (Unique m) h =
      let same : r.name ≡ s.name = h.1 r.name all.0 ∙ sym (h.1 s.name all.1.0) in
      let apart = or_parts (same_bytes r.name s.name) (list_any (same_bytes r.name) (map (λ held. held.name) rs)) d.0 in
      absurd (false≢true (sym apart.0 ∙ is_true _ (is_same r.name s.name same)))
  finds (r ∷ s ∷ rs) d only all Ambiguous h = refl

  -- what is found of the names that begin so is what the records tell
  pub begun_found : (rs : List Record) → AreDistinct (map (λ held. held.name) rs) → ((n : Bytes) → Is n → AnyByRecursion (λ held. (held.name ≡ n) × (begins_with_digits digits held.name ≡ true)) rs)
      → AllByRecursion (λ held. begins_with_digits digits held.name ≡ true → Is held.name) rs → (found : Prefix) → IsFoundOf Is found → found ≡ prefix_of (records_begun_by rs digits)
  begun_found rs d only all = finds (records_begun_by rs digits) (kept_distinct digits rs d) (λ n h. kept_some n rs (only n h)) (kept_all rs all)
