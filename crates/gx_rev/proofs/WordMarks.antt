-- Marks joined by place, and the commits that they list.
use Rattle.std.proofs.Common.{◌≡◌, ℕ, zero, suc, ◌+◌, ◌<◌, ◌≤◌, Bool, true, false, cond, refl, sym, ap, ◌∙◌, arith, List, [], ◌∷◌, ◌++◌, map, reverse, length, drop, Some, append-nil}
use Rattle.std.specs.Prelude.{◌&&◌, not, slice_index_or}
use Rattle.std.specs.List.{filter, filter_map, slice_get}
use Rattle.std.proofs.lemmas.List.{length-map, map-append}
use Rattle.std.proofs.lemmas.Grind.{reverse_onto}
use Rattle.std.proofs.lemmas.List.Elements.{filter-append}
use Rattle.gx_model.specs.declared.objects.Kind.{Kind}
use Rattle.gx_model.specs.Texts.{Bytes}
use Rattle.gx_model.specs.Histories.Values.{Commit, Value, blob_value, commit_of, commit_value, tag_value, tree_value}
use Rattle.gx_model.specs.Records.{name_of}
use Rattle.gx_model.specs.Histories.Marks.{holds, marks_of}
use Rattle.gx_rev.specs.Walking.{AreWithout}

holds_without : (P Q : Commit → Bool) (v : Value) → (holds P v && not (holds Q v)) ≡ holds (λ c. P c && not (Q c)) v
holds_without P Q (blob_value x) = refl
holds_without P Q (tree_value f) = refl
holds_without P Q (commit_value c) = refl
holds_without P Q (tag_value t) = refl

pub marks_long : (vs : List Value) (P : Commit → Bool) → length (marks_of P vs) ≡ length vs
marks_long vs P = length-map vs (holds P)

-- the places that the commits of one kind have and those of the other don't
pub marks_without : (vs : List Value) (P Q : Commit → Bool) → AreWithout (marks_of (λ c. P c && not (Q c)) vs) (marks_of P vs) (marks_of Q vs)
marks_without [] P Q zero = refl
marks_without [] P Q (suc i) = refl
marks_without (v ∷ vs) P Q zero = sym (holds_without P Q v)
marks_without (v ∷ vs) P Q (suc i) = marks_without vs P Q i

-- ---- what is listed

pub value_there : (vs : List Value) (i : ℕ) → i < length vs → (v : Value) × (slice_get vs i ≡ Some v)
value_there [] i h = absurd (omega arith)
value_there (v ∷ vs) zero h = (v, refl)
value_there (v ∷ vs) (suc i) h = value_there vs i (omega arith)

module _ (name : Kind → Bytes → Bytes) where
  -- the names of the marked values, the last one first
  abbrev pub names_back : List Value → List Bool → List Bytes
  names_back [] marks = []
  names_back (v ∷ vs) [] = []
  names_back (v ∷ vs) (m ∷ ms) = names_back vs ms ++ cond m (name_of name v ∷ []) []

  -- one place more
  pub names_step : (vs : List Value) (ms : List Bool) (i : ℕ) (v : Value) (b : Bool) → i < length ms → slice_get vs i ≡ Some v → slice_index_or ms i false ≡ b
      → names_back (drop i vs) (drop i ms) ≡ names_back (drop (i + 1) vs) (drop (i + 1) ms) ++ cond b (name_of name v ∷ []) []
  names_step [] ms i v b h e f = absurd cc
  names_step (w ∷ vs) [] i v b h e f = absurd (omega arith)
  names_step (w ∷ vs) (m ∷ ms) zero v b h e f = let same : w ≡ v = cc in λ j. names_back vs ms ++ cond (f j) (name_of name (same j) ∷ []) []
  names_step (w ∷ vs) (m ∷ ms) (suc i) v b h e f = let s : suc i + 1 ≡ suc (i + 1) = omega arith in rw s (names_step vs ms i v b (omega arith) e f)

  pub names_end : (vs : List Value) (ms : List Bool) (i : ℕ) → length ms ≤ i → names_back (drop i vs) (drop i ms) ≡ []
  names_end vs ms i h = by (drop i vs) (drop i ms) (path_end ms i h)
    where
      path_end : (ms : List Bool) (i : ℕ) → length ms ≤ i → drop i ms ≡ []
      path_end [] zero h = refl
      path_end [] (suc i) h = refl
      path_end (m ∷ ms) zero h = absurd (omega arith)
      path_end (m ∷ ms) (suc i) h = path_end ms i (omega arith)

      by : (us : List Value) (ns : List Bool) → ns ≡ [] → names_back us ns ≡ []
      by [] ns e = refl
      by (u ∷ us) [] e = refl
      by (u ∷ us) (n ∷ ns) e = absurd cc

  abbrev called : Commit → Bytes
  called c = name_of name (commit_value c)

  -- the names of the marked commits are those of the commits that pass, newest first
  pub names_listed : (vs : List Value) (P : Commit → Bool) → names_back vs (marks_of P vs) ≡ map called (filter P (reverse (filter_map commit_of vs)))
  names_listed [] P = refl
  names_listed (blob_value x ∷ vs) P = append-nil (names_back vs (marks_of P vs)) ∙ names_listed vs P
  names_listed (tree_value f ∷ vs) P = append-nil (names_back vs (marks_of P vs)) ∙ names_listed vs P
  names_listed (tag_value t ∷ vs) P = append-nil (names_back vs (marks_of P vs)) ∙ names_listed vs P
  names_listed (commit_value c ∷ vs) P =
      let rest = filter_map commit_of vs in
      let right = ap (λ cs. map called (filter P cs)) (reverse_onto rest c []) ∙ ap (map called) (filter-append P (reverse rest) (c ∷ [])) ∙ map-append called (filter P (reverse rest)) (filter P (c ∷ [])) in
      ap (λ ns. ns ++ cond (P c) (called c ∷ []) []) (names_listed vs P) ∙ ap (λ ns. map called (filter P (reverse rest)) ++ ns) (one (P c)) ∙ sym right
    where
      one : (b : Bool) → cond b (called c ∷ []) [] ≡ map called (cond b (c ∷ []) [])
      one true = refl
      one false = refl
