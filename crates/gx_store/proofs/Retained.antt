-- What is left where marks stand: of records, of names, and of a map's entries.
use Rattle.std.proofs.Common.{◌≡◌, ◌≤◌, Bool, true, false, cond, List, [], ◌∷◌, drop, length, map, refl, sym, ap, subst, ◌∙◌, arith}
use Rattle.std.specs.List.{AllByRecursion, list_all, list_any}
use Rattle.std.specs.Map.Calls.{RetainsPairs}
use Rattle.std.proofs.lemmas.Bool.{and_from, and_parts, or_from, or_parts}
use Rattle.gx_model.specs.declared.objects.Kind.{Kind}
use Rattle.gx_model.specs.Texts.{Bytes, same_bytes}
use Rattle.gx_model.specs.Objects.{is_name}
use Rattle.gx_model.specs.Histories.{AreDistinct, Record}
use Rattle.gx_store.specs.Marked.{first_mark, marked}
use Rattle.gx_store.specs.Stores.{AreHeld}

-- ---- lists

pub marked_map : {X Y : Type 0} (f : X → Y) (marks : List Bool) (xs : List X) → map f (marked marks xs) ≡ marked marks (map f xs)
marked_map f marks [] = refl
marked_map {X} {Y} f marks (x ∷ xs) = by (first_mark marks) (marked_map f (drop 1 marks) xs) where
  by : (b : Bool) → map f (marked (drop 1 marks) xs) ≡ marked (drop 1 marks) (map f xs)
      → map f (cond b (x ∷ marked (drop 1 marks) xs) (marked (drop 1 marks) xs)) ≡ cond b (f x ∷ marked (drop 1 marks) (map f xs)) (marked (drop 1 marks) (map f xs))
  by true e = ap (λ ys. f x ∷ ys) e
  by false e = e

pub marked_less : {X : Type 0} (marks : List Bool) (xs : List X) → length (marked marks xs) ≤ length xs
marked_less marks [] = omega arith
marked_less {X} marks (x ∷ xs) = by (first_mark marks) (marked_less (drop 1 marks) xs) where
  by : (b : Bool) → length (marked (drop 1 marks) xs) ≤ length xs → length (cond b (x ∷ marked (drop 1 marks) xs) (marked (drop 1 marks) xs)) ≤ length (x ∷ xs)
  by true l = omega (arith, l)
  by false l = omega (arith, l)

marked_all : {X : Type 0} (P : X → Type 0) (marks : List Bool) (xs : List X) → AllByRecursion P xs → AllByRecursion P (marked marks xs)
marked_all P marks [] h = tt
marked_all {X} P marks (x ∷ xs) h = by (first_mark marks) (marked_all P (drop 1 marks) xs h.1) where
  by : (b : Bool) → AllByRecursion P (marked (drop 1 marks) xs) → AllByRecursion P (cond b (x ∷ marked (drop 1 marks) xs) (marked (drop 1 marks) xs))
  by true k = (h.0, k)
  by false k = k

marked_passes : {X : Type 0} (t : X → Bool) (marks : List Bool) (xs : List X) → list_all t xs ≡ true → list_all t (marked marks xs) ≡ true
marked_passes t marks [] h = refl
marked_passes {X} t marks (x ∷ xs) h =
    let p = and_parts (t x) (list_all t xs) h in
    by (first_mark marks) p.0 (marked_passes t (drop 1 marks) xs p.1)
  where
    by : (b : Bool) → t x ≡ true → list_all t (marked (drop 1 marks) xs) ≡ true → list_all t (cond b (x ∷ marked (drop 1 marks) xs) (marked (drop 1 marks) xs)) ≡ true
    by true e k = and_from (t x) (list_all t (marked (drop 1 marks) xs)) e k
    by false e k = k

marked_none : (n : Bytes) (marks : List Bool) (ns : List Bytes) → list_any (same_bytes n) ns ≡ false → list_any (same_bytes n) (marked marks ns) ≡ false
marked_none n marks [] h = refl
marked_none n marks (m ∷ ns) h =
    let p = or_parts (same_bytes n m) (list_any (same_bytes n) ns) h in
    by (first_mark marks) p.0 (marked_none n (drop 1 marks) ns p.1)
  where
    by : (b : Bool) → same_bytes n m ≡ false → list_any (same_bytes n) (marked (drop 1 marks) ns) ≡ false → list_any (same_bytes n) (cond b (m ∷ marked (drop 1 marks) ns) (marked (drop 1 marks) ns)) ≡ false
    by true e k = or_from (same_bytes n m) (list_any (same_bytes n) (marked (drop 1 marks) ns)) e k
    by false e k = k

marked_distinct : (marks : List Bool) (ns : List Bytes) → AreDistinct ns → AreDistinct (marked marks ns)
marked_distinct marks [] h = tt
marked_distinct marks (n ∷ ns) h = by (first_mark marks) (marked_distinct (drop 1 marks) ns h.1) where
  by : (b : Bool) → AreDistinct (marked (drop 1 marks) ns) → AreDistinct (cond b (n ∷ marked (drop 1 marks) ns) (marked (drop 1 marks) ns))
  by true k = (marked_none n (drop 1 marks) ns h.0, k)
  by false k = k

-- ---- records

pub held_marked : (name : Kind → Bytes → Bytes) (marks : List Bool) (rs : List Record) → AreHeld name rs → AreHeld name (marked marks rs)
held_marked name marks rs h = record {
  distinct = subst AreDistinct (sym (marked_map (λ r. r.name) marks rs)) (marked_distinct marks (map (λ r. r.name) rs) h.distinct);
  named = marked_all (λ r. r.name ≡ name r.kind r.body) marks rs h.named;
  names = marked_passes (λ r. is_name r.name) marks rs h.names;
}

-- ---- what a map's `retain` leaves by a test that takes mark after mark

module _ {K X F : Type 0} (T : F → K → X → Bool → X → F → Type 0) (marks_of : F → List Bool)
    (says : (f : F) (k : K) (v : X) (b : Bool) (w : X) (g : F) → T f k v b w g → (b ≡ first_mark (marks_of f)) × (w ≡ v) × (marks_of g ≡ drop 1 (marks_of f))) where
  pub retained : (f : F) (es kept : List (K × X)) → RetainsPairs T f es kept → kept ≡ marked (marks_of f) es
  retained f [] kept h = h
  retained f (e ∷ es) kept h =
      let s = says f e.0 e.1 h.0 h.1 h.2 h.4 in
      let rest : h.3 ≡ marked (drop 1 (marks_of f)) es = retained h.2 es h.3 h.5 ∙ ap (λ marks. marked marks es) s.2 in
      h.6 ∙ (λ j. cond (s.0 j) ((e.0, s.1 j) ∷ rest j) (rest j))
