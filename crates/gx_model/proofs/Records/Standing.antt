-- Where values stand in the history: each at one place, and a commit's parents before it.
use Rattle.std.proofs.Common.{◌≡◌, ℕ, zero, suc, ◌<◌, refl, sym, ap, subst, ◌∙◌, arith, List, [], ◌∷◌, ◌++◌, map, length, take, None, Some, inl, inr, append_assoc, append-nil}
use Rattle.std.specs.Prelude.{IsTrue, is_some}
use Rattle.std.specs.List.{AllByRecursion, slice_get}
use Rattle.std.proofs.lemmas.List.{length-map}
use Rattle.gx_model.specs.declared.objects.Kind.{Kind}
use Rattle.gx_model.specs.declared.objects.Kind.TheVariants as kind
use Rattle.gx_model.specs.Texts.{Bytes}
use Rattle.gx_model.specs.Histories.Values.{Commit, Commits, Value, commit_value, list_of, more, none, parents_of, parts}
use Rattle.gx_model.specs.Objects.{IsNamer}
use Rattle.gx_model.specs.Records.{kind_of, name_of}
use Rattle.gx_model.specs.Histories.{AreDistinct, IsClosedAfter, IsIn, Record, Records, record_of}
use Rattle.gx_model.specs.Laws.HistoryLaws.{IsParent}
use Rattle.gx_model.specs.Records.HistoryOf.{commit_of_value, history_of, value_of_name}
use Rattle.gx_model.specs.Records.Growth.{record_named}
use Rattle.gx_model.specs.Records.RecordFaults.{is_held}
use Rattle.gx_model.specs.Laws.RepositoryLaws.{values_of}
use Rattle.gx_model.specs.Records.Sound.{IsSound}
use Rattle.gx_model.proofs.Records.OneHistory.{no_other}
use Rattle.gx_model.proofs.Records.GrownRecords.{distinct_of}
use Rattle.gx_model.proofs.Records.HistoriesExist.{stands}
use Rattle.gx_model.specs.Histories.Marks.{IsAt}
use Rattle.gx_model.proofs.Records.HeldValues.{all_whole, commit_stands, held_is, held_kind, kind_held, value_held}

-- ---- places in a list

pub in_at : (vs : List Value) (v : Value) → IsIn vs v → (i : ℕ) × (slice_get vs i ≡ Some v)
in_at [] v h = absurd h
in_at (w ∷ vs) v h = elim h [ inl e ↦ (0, ap Some e) | inr k ↦ let n = in_at vs v k in (suc n.0, n.1) ]

pub at_in : (vs : List Value) (i : ℕ) (v : Value) → slice_get vs i ≡ Some v → IsIn vs v
at_in [] i v e = absurd cc
at_in (w ∷ vs) zero v e = inl (let same : w ≡ v = cc in same)
at_in (w ∷ vs) (suc i) v e = inr (at_in vs i v e)

pub at_within : (vs : List Value) (i : ℕ) (v : Value) → slice_get vs i ≡ Some v → i < length vs
at_within [] i v e = absurd cc
at_within (w ∷ vs) zero v e = omega arith
at_within (w ∷ vs) (suc i) v e = let k = at_within vs i v e in omega arith

in_front : (vs : List Value) (n : ℕ) (v : Value) → IsIn (take n vs) v → (i : ℕ) × (i < n) × (slice_get vs i ≡ Some v)
in_front [] zero v h = absurd h
in_front [] (suc n) v h = absurd h
in_front (w ∷ vs) zero v h = absurd h
in_front (w ∷ vs) (suc n) v h = elim h [ inl e ↦ (0, omega arith, ap Some e) | inr k ↦ let m = in_front vs n v k in (suc m.0, (let l = m.1 in omega arith), m.2) ]

-- the parts of the value at a place stand before it
before_place : (before vs : List Value) (i : ℕ) (v : Value) → IsClosedAfter before vs → slice_get vs i ≡ Some v → AllByRecursion (IsIn (before ++ take i vs)) (parts v)
before_place before [] i v c e = absurd cc
before_place before (w ∷ vs) zero v c e = let same : w ≡ v = cc in subst (λ u. AllByRecursion (IsIn (before ++ [])) (parts u)) same (subst (λ us. AllByRecursion (IsIn us) (parts w)) (sym (append-nil before)) c.1)
before_place before (w ∷ vs) (suc i) v c e = subst (λ us. AllByRecursion (IsIn us) (parts v)) (append_assoc before (w ∷ []) (take i vs)) (before_place (before ++ w ∷ []) vs i v c.2 e)

pub parent_known : (Known : Value → Type 0) (cs : Commits) (p : Commit) → AllByRecursion Known (map commit_value (list_of cs)) → IsParent p cs → Known (commit_value p)
parent_known Known none p k h = absurd h
parent_known Known (more c cs) p k h = elim h [ inl e ↦ subst (λ d. Known (commit_value d)) e k.0 | inr l ↦ parent_known Known cs p k.1 l ]

module _ (name : Kind → Bytes → Bytes) (namer : IsNamer name) where
  one_place : (vs : List Value) (v : Value) (i j : ℕ) → AreDistinct (map (name_of name) vs) → slice_get vs i ≡ Some v → slice_get vs j ≡ Some v → i ≡ j
  one_place [] v i j d e f = absurd cc
  one_place (w ∷ vs) v zero zero d e f = refl
  one_place (w ∷ vs) v zero (suc j) d e f = absurd (no_other name namer (name_of name w) vs v d.0 (at_in vs j v f) (let same : w ≡ v = cc in ap (name_of name) same))
  one_place (w ∷ vs) v (suc i) zero d e f = absurd (no_other name namer (name_of name w) vs v d.0 (at_in vs i v e) (let same : w ≡ v = cc in ap (name_of name) same))
  one_place (w ∷ vs) v (suc i) (suc j) d e f = ap suc (one_place vs v i j d.1 e f)

module _ (name : Kind → Bytes → Bytes) (namer : IsNamer name) (r : Records) (sound : IsSound name r) where
  apart : AreDistinct (map (name_of name) (values_of r))
  apart = distinct_of name namer r (history_of r) (stands name namer r sound)

  pub same_place : (v : Value) (i j : ℕ) → slice_get (values_of r) i ≡ Some v → slice_get (values_of r) j ≡ Some v → i ≡ j
  same_place v i j e f = one_place name namer (values_of r) v i j apart e f

  -- a parent stands before its commit
  pub parent_before : (c p : Commit) (i : ℕ) → IsAt r i c → IsParent p (parents_of c) → (j : ℕ) × (j < i) × IsAt r j p
  parent_before c p i e h =
      in_front (values_of r) i (commit_value p) (parent_known (IsIn (take i (values_of r))) (parents_of c) p (before_place [] (values_of r) i (commit_value c) (all_whole name namer r sound).closed e).1 h)

  -- ---- names at places

  names_at_places : (vs : List Value) (i : ℕ) (s : Record) → Some s ≡ slice_get (map (record_of name) vs) i → (v : Value) × (slice_get vs i ≡ Some v) × (s.name ≡ name_of name v)
  names_at_places [] i s e = absurd cc
  names_at_places (v ∷ vs) zero s e = (v, refl, (let same : s ≡ record_of name v = cc in ap (λ z. z.name) same))
  names_at_places (v ∷ vs) (suc i) s e = names_at_places vs i s e

  pub name_there : (i : ℕ) (s : Record) → Some s ≡ slice_get r.records i → (slice_get (values_of r) i ≡ Some (value_of_name r.records s.name)) × IsTrue (is_some (record_named r.records s.name))
  name_there i s e =
      let f = names_at_places (values_of r) i s (e ∙ ap (λ rs. slice_get rs i) (stands name namer r sound).records) in
      let h = value_held name namer r sound (kind_of name f.0) f.0 s.name (at_in (values_of r) i f.0 f.1) refl f.2 in
      (f.1 ∙ ap Some (sym h.1), (kind_held name namer r sound (kind_of name f.0) s.name h.0).0)

  places_within : (vs : List Value) (i : ℕ) → i < length vs → None ≡ slice_get (map (record_of name) vs) i → ⊥
  places_within [] i h e = omega arith
  places_within (v ∷ vs) zero h e = cc
  places_within (v ∷ vs) (suc i) h e = places_within vs i (omega arith) e

  pub some_there : (i : ℕ) → i < length (values_of r) → None ≡ slice_get r.records i → ⊥
  some_there i h e = places_within (values_of r) i h (e ∙ ap (λ rs. slice_get rs i) (stands name namer r sound).records)

  pub as_many : length r.records ≡ length (values_of r)
  as_many = ap length (stands name namer r sound).records ∙ length-map (values_of r) (record_of name)

  -- a name is told by its value
  pub same_name : (n m : Bytes) → IsTrue (is_some (record_named r.records n)) → IsTrue (is_some (record_named r.records m)) → value_of_name r.records n ≡ value_of_name r.records m → n ≡ m
  same_name n m h k e = sym (held_is name namer r sound n h).named ∙ ap (name_of name) e ∙ (held_is name namer r sound m k).named

  -- a held name's value stands at a place
  pub stands_at : (n : Bytes) → IsTrue (is_some (record_named r.records n)) → (i : ℕ) × (slice_get (values_of r) i ≡ Some (value_of_name r.records n))
  stands_at n h = in_at (values_of r) (value_of_name r.records n) (held_is name namer r sound n h).stands

  pub commit_at_place : (n : Bytes) (i : ℕ) → IsTrue (is_held r.records kind.Commit n) → slice_get (values_of r) i ≡ Some (value_of_name r.records n) → IsAt r i (commit_of_value (value_of_name r.records n))
  commit_at_place n i h e = e ∙ ap Some (commit_stands name namer r sound n h).0

  -- the name at a commit's place is a held commit's
  pub commit_name_there : (n : Bytes) (i : ℕ) (c : Commit) → IsTrue (is_some (record_named r.records n)) → slice_get (values_of r) i ≡ Some (value_of_name r.records n) → IsAt r i c → IsTrue (is_held r.records kind.Commit n)
  commit_name_there n i c h e f =
      let same : value_of_name r.records n ≡ commit_value c = (let o : Some (value_of_name r.records n) ≡ Some (commit_value c) = sym e ∙ f in cc o) in
      held_kind name namer r sound kind.Commit n h (ap (kind_of name) same)
