-- The commits that pass a test, the newest put first: where they stand.
use Rattle.std.proofs.Common.{◌≡◌, ℕ, zero, suc, ◌<◌, Bool, true, false, cond, refl, sym, ap, ◌∙◌, arith, List, [], ◌∷◌, ◌++◌, map, Some, inl, inr}
use Rattle.std.specs.Prelude.{◌&&◌, not}
use Rattle.std.specs.List.{slice_get}
use Rattle.std.specs.Option.{option_map}
use Rattle.std.proofs.lemmas.Option.{slice_get-map}
use Rattle.gx_model.specs.declared.objects.Kind.{Kind}
use Rattle.gx_model.specs.declared.objects.Kind.TheVariants as kinds
use Rattle.gx_model.specs.Histories.{Records}
use Rattle.gx_model.specs.Histories.Values.{Commit, Value, blob_value, commit_value, tag_value, tree_value}
use Rattle.gx_model.specs.Laws.RepositoryLaws.{values_of}
use Rattle.gx_model.specs.Objects.{IsNamer}
use Rattle.gx_model.specs.Records.Sound.{IsSound}
use Rattle.gx_model.specs.Texts.{Bytes}
use Rattle.gx_model.proofs.Records.HeldPlaces.{held_place}
use Rattle.gx_model.proofs.Records.HeldValues.{commit_held}
use Rattle.gx_model.proofs.Records.Standing.{commit_at_place, same_place}
use Rattle.gx_object.specs.declared.name.Name.{Name}
use Rattle.gx_print.specs.Logs.{AreCommits}
use Rattle.gx_ranges.specs.Walks.{passing_from}
use Rattle.gx_ranges.proofs.Walks.{if_passing, passing, passing_first}
use Rattle.gx_rev.specs.Objects.{IsHeldAs, commit_at}
use Rattle.gx_store.specs.Stores.{place_named}
use Rattle.gx_tips.specs.Spans.{AreNewestFirst}
use Rattle.gx_tips.proofs.Lists.{holds_at, in_two}

module _ (test : Commit → Bool) where
  -- a value gives one commit at most
  one_passing : (v : Value) (j : ℕ) (c : Commit) → slice_get (if_passing test v) j ≡ Some c → (v ≡ commit_value c) × (j ≡ 0)
  one_passing (blob_value x) j c e = absurd cc
  one_passing (tree_value f) j c e = absurd cc
  one_passing (tag_value t) j c e = absurd cc
  one_passing (commit_value d) j c e = by (test d) j e
    where
      by : (b : Bool) (j : ℕ) → slice_get (cond b (d ∷ []) []) j ≡ Some c → (commit_value d ≡ commit_value c) × (j ≡ 0)
      by true zero f = let same : d ≡ c = cc in (ap commit_value same, refl)
      by true (suc j) f = absurd cc
      by false j f = absurd cc

  -- a commit that passes is a value
  found_in : (vs : List Value) (i : ℕ) (c : Commit) → slice_get (passing test vs) i ≡ Some c → (k : ℕ) × (slice_get vs k ≡ Some (commit_value c))
  found_in [] i c e = absurd cc
  found_in (v ∷ vs) i c e = elim (in_two (passing test vs) (if_passing test v) i c (ap (λ cs. slice_get cs i) (sym (passing_first test v vs)) ∙ e)) [
    | inl l ↦ (let k = found_in vs i c l.1 in (suc k.0, k.1))
    | inr l ↦ (0, ap Some (one_passing v l.0 c l.1).0)
  ]

  -- what passes first stands behind
  first_behind : (vs : List Value) (i j : ℕ) (c d : Commit) → i < j → slice_get (passing test vs) i ≡ Some c → slice_get (passing test vs) j ≡ Some d
      → (k : ℕ) × ((l : ℕ) × (l < k) × (slice_get vs k ≡ Some (commit_value c)) × (slice_get vs l ≡ Some (commit_value d)))
  first_behind [] i j c d m e f = absurd cc
  first_behind (v ∷ vs) i j c d m e f =
      let front = passing test vs in
      let split : (n : ℕ) (x : Commit) → slice_get (passing test (v ∷ vs)) n ≡ Some x → slice_get (front ++ if_passing test v) n ≡ Some x = λ n x g. ap (λ cs. slice_get cs n) (sym (passing_first test v vs)) ∙ g in
      elim (in_two front (if_passing test v) i c (split i c e)) [
        | inl a ↦ elim (in_two front (if_passing test v) j d (split j d f)) [
          | inl b ↦ (let w = first_behind vs i j c d m a.1 b.1 in (suc w.0, (suc w.1.0, (let n = w.1.1 in omega (arith, n)), w.1.2, w.1.3)))
          | inr b ↦ (let w = found_in vs i c a.1 in (suc w.0, (0, omega arith, w.1, ap Some (one_passing v b.0 d b.1).0)))
        ]
        | inr a ↦ absurd (elim (in_two front (if_passing test v) j d (split j d f)) [
          | inl b ↦ (let n = a.2 in let o = b.0 in omega (arith, m, n, o))
          | inr b ↦ (let n = a.2 in let o = b.2 in let p = (one_passing v b.0 d b.1).1 in omega (arith, m, n, o, p))
        ])
      ]

module _ (name : Kind → Bytes → Bytes) (namer : IsNamer name) (r : Records) (sound : IsSound name r) where
  -- the number of a held commit is that of its value
  number_is : (n : Name) (i k : ℕ) → IsHeldAs kinds.Commit r n → place_named r.records n.bytes ≡ Some k → slice_get (values_of r) i ≡ Some (commit_value (commit_at r n)) → i ≡ k
  number_is n i k h e f =
      let p = held_place name namer r sound n.bytes (commit_held name namer r sound n.bytes h) in
      let o : Some p.0 ≡ Some k = sym p.1 ∙ e in
      let same : p.0 ≡ k = cc o in
      same_place name namer r sound (commit_value (commit_at r n)) i p.0 f (commit_at_place name namer r sound n.bytes p.0 h p.2) ∙ same

  -- the names of commits that pass, the newest put first, are those of commits each of which stands behind the next one
  pub newest_first : (included excluded : Commit → Bool) (names : List Name) → AreCommits r names → map (commit_at r) names ≡ passing_from r included excluded 0 → AreNewestFirst names r
  newest_first included excluded names held e = record {
    commits = held;
    order = λ i j k l n m lower at behind here there.
        let got : (p : ℕ) (x : Name) → slice_get names p ≡ Some x → slice_get (passing (λ c. included c && not (excluded c)) (values_of r)) p ≡ Some (commit_at r x) =
        λ p x g. ap (λ cs. slice_get cs p) (sym e) ∙ slice_get-map (commit_at r) names p ∙ ap (option_map (commit_at r)) g in
        let w = first_behind (λ c. included c && not (excluded c)) (values_of r) i j (commit_at r n) (commit_at r m) lower (got i n at) (got j m behind) in
        let a = number_is n w.0 k (holds_at (IsHeldAs kinds.Commit r) names i n held at) here w.1.2 in
        let b = number_is m w.1.0 l (holds_at (IsHeldAs kinds.Commit r) names j m held behind) there w.1.3 in
        let q = w.1.1 in omega (arith, a, b, q);
  }
