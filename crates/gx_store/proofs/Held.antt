-- Records of which no two have one name, with one more.
use Rattle.std.proofs.Common.{◌≡◌, ◌≤◌, Bool, true, false, cond, List, [], ◌∷◌, ◌++◌, length, map, Option, Some, None, refl, sym, ap, ◌∙◌, take, zero, suc, ℕ, subst, arith}
use Rattle.std.specs.Prelude.{nat_lt}
use Rattle.std.specs.List.{list_all, list_any, AllByRecursion}
use Rattle.std.specs.Cmp.Lexicographic.{bytes_decides}
use Rattle.std.proofs.lemmas.List.{map_push, take-map, take-append-le, take_all}
use Rattle.std.proofs.lemmas.List.Folds.{list_all-append}
use Rattle.std.proofs.lemmas.Bool.{false≢true, false_from_ne_true, and_from, or_from, or_parts, eq-eqb, and_parts}
use Rattle.gx_model.specs.declared.objects.Kind.{Kind}
use Rattle.gx_model.specs.Texts.{Bytes, same_bytes}
use Rattle.gx_model.specs.Objects.{IsNamer, is_name}
use Rattle.gx_model.specs.Histories.{AreDistinct, Record}
use Rattle.gx_model.specs.Records.Growth.{record_named}
use Rattle.gx_store.specs.Stores.{AreHeld}

abbrev names : List Record → List Bytes
names rs = map (λ r. r.name) rs

free_of : (b : Bool) (r : Record) (o : Option Record) → cond b (Some r) o ≡ None → (b ≡ false) × (o ≡ None)
free_of true r o e = cc
free_of false r o e = (refl, e)

-- names that differ one way differ the other way
apart : (a b : Bytes) → same_bytes a b ≡ false → same_bytes b a ≡ false
apart a b e = false_from_ne_true _ (λ same. false≢true (sym e ∙ (bytes_decides a b).1 (sym ((bytes_decides b a).0 same))))

not_among : (n : Bytes) (ns : List Bytes) (new : Bytes) → list_any (same_bytes n) ns ≡ false → same_bytes n new ≡ false → list_any (same_bytes n) (ns ++ new ∷ []) ≡ false
not_among n [] new e h = or_from _ _ h refl
not_among n (m ∷ ns) new e h = let p = or_parts (same_bytes n m) _ e in or_from _ _ p.0 (not_among n ns new p.1 h)

distinct_more : (rs : List Record) (r : Record) → record_named rs r.name ≡ None → AreDistinct (names rs) → AreDistinct (names (rs ++ r ∷ []))
distinct_more [] r free d = (refl, tt)
distinct_more (s ∷ rs) r free d =
    let p = free_of (same_bytes r.name s.name) s (record_named rs r.name) free in
    let more = map_push (λ (x : Record). x.name) rs r in
    (ap (list_any (same_bytes s.name)) more ∙ not_among s.name (names rs) r.name d.0 (apart r.name s.name p.0), distinct_more rs r p.1 d.1)

named_more : (name : Kind → Bytes → Bytes) (rs : List Record) (r : Record) → r.name ≡ name r.kind r.body → AllByRecursion (λ s. s.name ≡ name s.kind s.body) rs → AllByRecursion (λ s. s.name ≡ name s.kind s.body) (rs ++ r ∷ [])
named_more name [] r e h = (e, tt)
named_more name (s ∷ rs) r e h = (h.0, named_more name rs r e h.1)

pub held_more : (name : Kind → Bytes → Bytes) → IsNamer name → (rs : List Record) (r : Record) → r.name ≡ name r.kind r.body → record_named rs r.name ≡ None
    → AreHeld name rs → AreHeld name (rs ++ r ∷ [])
held_more name namer rs r e free h =
    let long = ap length e ∙ namer.long r.kind r.body in
    let bytes = ap (list_all (λ b. nat_lt b 256)) e ∙ namer.bytes r.kind r.body in
    record {
      distinct = distinct_more rs r free h.distinct;
      named = named_more name rs r e h.named;
      names = list_all-append (λ (s : Record). is_name s.name) rs (r ∷ []) ∙ and_from _ _ h.names (and_from _ _ (and_from _ _ (eq-eqb (length r.name) 20 long) bytes) refl);
    }

-- ---- the first ones alone

fewer : (n : Bytes) (k : ℕ) (ns : List Bytes) → list_any (same_bytes n) ns ≡ false → list_any (same_bytes n) (take k ns) ≡ false
fewer n zero ns e = refl
fewer n (suc k) [] e = refl
fewer n (suc k) (m ∷ ns) e = let p = or_parts (same_bytes n m) _ e in or_from _ _ p.0 (fewer n k ns p.1)

distinct_first : (k : ℕ) (rs : List Record) → AreDistinct (names rs) → AreDistinct (names (take k rs))
distinct_first zero rs d = tt
distinct_first (suc k) [] d = tt
distinct_first (suc k) (r ∷ rs) d = (ap (list_any (same_bytes r.name)) (sym (take-map (λ (s : Record). s.name) k rs)) ∙ fewer r.name k (names rs) d.0, distinct_first k rs d.1)

named_first : (name : Kind → Bytes → Bytes) (k : ℕ) (rs : List Record) → AllByRecursion (λ s. s.name ≡ name s.kind s.body) rs → AllByRecursion (λ s. s.name ≡ name s.kind s.body) (take k rs)
named_first name zero rs h = tt
named_first name (suc k) [] h = tt
named_first name (suc k) (r ∷ rs) h = (h.0, named_first name k rs h.1)

names_first : (k : ℕ) (rs : List Record) → list_all (λ r. is_name r.name) rs ≡ true → list_all (λ r. is_name r.name) (take k rs) ≡ true
names_first zero rs h = refl
names_first (suc k) [] h = refl
names_first (suc k) (r ∷ rs) h = let p = and_parts (is_name r.name) _ h in and_from _ _ p.0 (names_first k rs p.1)

pub held_first : (name : Kind → Bytes → Bytes) (k : ℕ) (rs : List Record) → AreHeld name rs → AreHeld name (take k rs)
held_first name k rs h = record { distinct = distinct_first k rs h.distinct; named = named_first name k rs h.named; names = names_first k rs h.names }

-- ---- without the last one

front : (rs : List Record) (r : Record) → take (length rs) (rs ++ r ∷ []) ≡ rs
front rs r = take-append-le (length rs) rs (r ∷ []) (omega arith) ∙ take_all (length rs) rs (omega arith)

pub held_less : (name : Kind → Bytes → Bytes) (rs : List Record) (r : Record) → AreHeld name (rs ++ r ∷ []) → AreHeld name rs
held_less name rs r h = subst (AreHeld name) (front rs r) (held_first name (length rs) (rs ++ r ∷ []) h)

none_before : (n : Bytes) (rs : List Record) (r : Record) → list_any (same_bytes n) (names (rs ++ r ∷ [])) ≡ false → same_bytes n r.name ≡ false
none_before n [] r h = (or_parts (same_bytes n r.name) _ h).0
none_before n (s ∷ rs) r h = none_before n rs r (or_parts (same_bytes n s.name) _ h).1

-- the last one's name is no other's
pub last_is_free : (rs : List Record) (r : Record) → AreDistinct (names (rs ++ r ∷ [])) → record_named rs r.name ≡ None
last_is_free [] r d = refl
last_is_free (s ∷ rs) r d =
    ap (λ b. cond b (Some s) (record_named rs r.name)) (apart s.name r.name (none_before s.name rs r d.0)) ∙ last_is_free rs r d.1

pub first_less : (n : ℕ) (rs : List Record) (r : Record) → n ≤ length rs → take n (rs ++ r ∷ []) ≡ take n rs
first_less n rs r h = take-append-le n rs (r ∷ []) h
