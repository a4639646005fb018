-- What tests pick among names, and what the parts of a test pick together.
use Rattle.std.proofs.Common.{◌≡◌, ℕ, zero, suc, ◌≤◌, Bool, true, false, cond, ◌&&◌, ◌||◌, List, [], ◌∷◌, ◌++◌, length, take, map, Some, refl, sym, ap, ◌∙◌, arith}
use Rattle.std.specs.Prelude.{nat_lt}
use Rattle.std.specs.List.{list_all, slice_get}
use Rattle.std.proofs.lemmas.Bool.{and_parts, lt-ltb, false≢true}
use Rattle.std.proofs.lemmas.List.{take-take}
use Rattle.gx_model.specs.Texts.{Bytes}
use Rattle.gx_model.specs.Objects.{is_name}
use Rattle.gx_model.specs.Revisions.Denotation.{begins_with_digits}
use Rattle.gx_model.specs.Records.Lookups.{records_begun_by}
use Rattle.gx_model.specs.Histories.{Record}
use Rattle.gx_object.specs.declared.name.Name.{Name}
use Rattle.gx_store.specs.NameOrder.{is_within}
use Rattle.gx_store.specs.Chains.{up_to_last}
use Rattle.gx_store.specs.Objects.{shown_stored}
use Rattle.gx_store.specs.Prefixes.{AreEnds, BeginNone, joined, picked, prefix_of}
use Rattle.gx_store.specs.declared.prefix.Prefix.{Prefix}
use Rattle.gx_store.specs.declared.prefix.Prefix.TheVariants.{Unique, Absent, Ambiguous}
use Rattle.gx_store.specs.declared.store.Object.{Object}
use Rattle.gx_store.proofs.Chained.{taken, up_to_last_again, up_to_last_bound, up_to_last_more}

-- ---- two answers

pub joined_assoc : (p q r : Prefix) → joined (joined p q) r ≡ joined p (joined q r)
joined_assoc Absent q r = refl
joined_assoc Ambiguous q r = refl
joined_assoc (Unique n) Absent r = refl
joined_assoc (Unique n) Ambiguous r = refl
joined_assoc (Unique n) (Unique m) Absent = refl
joined_assoc (Unique n) (Unique m) (Unique l) = refl
joined_assoc (Unique n) (Unique m) Ambiguous = refl

pub joined_turned : (p q : Prefix) (n : Name) → joined p (joined (Unique n) q) ≡ joined (Unique n) (joined p q)
joined_turned Absent q n = refl
joined_turned Ambiguous q n = refl
joined_turned (Unique m) Absent n = refl
joined_turned (Unique m) (Unique l) n = refl
joined_turned (Unique m) Ambiguous n = refl

joined_none : (p : Prefix) → joined p Absent ≡ p
joined_none Absent = refl
joined_none (Unique n) = refl
joined_none Ambiguous = refl

-- ---- among a list of names

pub picked_more : (test : Name → Bool) (ns : List Name) (n : Name) → picked test (ns ++ n ∷ []) ≡ cond (test n) (joined (Unique n) (picked test ns)) (picked test ns)
picked_more test [] n = refl
picked_more test (m ∷ ns) n = by (test m) (test n) (picked_more test ns n)
  where
    by : (b c : Bool) → picked test (ns ++ n ∷ []) ≡ cond c (joined (Unique n) (picked test ns)) (picked test ns)
        → cond b (joined (Unique m) (picked test (ns ++ n ∷ []))) (picked test (ns ++ n ∷ []))
        ≡ cond c (joined (Unique n) (cond b (joined (Unique m) (picked test ns)) (picked test ns))) (cond b (joined (Unique m) (picked test ns)) (picked test ns))
    by true true e = ap (joined (Unique m)) e ∙ joined_turned (Unique m) (picked test ns) n
    by true false e = ap (joined (Unique m)) e
    by false true e = e
    by false false e = e

pub picked_none : (good test : Name → Bool) (ns : List Name) → list_all good ns ≡ true → ((n : Name) → good n ≡ true → test n ≡ false) → picked test ns ≡ Absent
picked_none good test [] all none = refl
picked_none good test (n ∷ ns) all none =
    let p = and_parts (good n) _ all in
    ap (λ b. cond b (joined (Unique n) (picked test ns)) (picked test ns)) (none n p.0) ∙ picked_none good test ns p.1 none

pub picked_same : (good test other : Name → Bool) (ns : List Name) → list_all good ns ≡ true → ((n : Name) → good n ≡ true → test n ≡ other n) → picked test ns ≡ picked other ns
picked_same good test other [] all same = refl
picked_same good test other (n ∷ ns) all same =
    let p = and_parts (good n) _ all in
    (λ i. cond (same n p.0 i) (joined (Unique n) (picked_same good test other ns p.1 same i)) (picked_same good test other ns p.1 same i))

-- a test in two parts picks what its parts pick together
pub picked_parts : (one two whole : Name → Bool) (ns : List Name) → ((n : Name) → ((one n && two n) ≡ false) × ((one n || two n) ≡ whole n)) → joined (picked one ns) (picked two ns) ≡ picked whole ns
picked_parts one two whole [] parts = refl
picked_parts one two whole (n ∷ ns) parts = by (one n) (two n) (whole n) (parts n).0 (parts n).1 (picked_parts one two whole ns parts)
  where
    by : (b c d : Bool) → (b && c) ≡ false → (b || c) ≡ d → joined (picked one ns) (picked two ns) ≡ picked whole ns
        → joined (cond b (joined (Unique n) (picked one ns)) (picked one ns)) (cond c (joined (Unique n) (picked two ns)) (picked two ns)) ≡ cond d (joined (Unique n) (picked whole ns)) (picked whole ns)
    by true true d apart either rest = absurd (false≢true (sym apart))
    by true false true apart either rest = joined_assoc (Unique n) (picked one ns) (picked two ns) ∙ ap (joined (Unique n)) rest
    by true false false apart either rest = absurd (false≢true (sym either))
    by false true true apart either rest = joined_turned (picked one ns) (picked two ns) n ∙ ap (joined (Unique n)) rest
    by false true false apart either rest = absurd (false≢true (sym either))
    by false false true apart either rest = absurd (false≢true either)
    by false false false apart either rest = rest

pub picked_empty : (test : Name → Bool) (ns : List Name) → length ns ≤ 0 → picked test ns ≡ Absent
picked_empty test [] h = refl
picked_empty test (n ∷ ns) h = absurd (omega arith)

-- ---- along a chain

both : (b c : Bool) → b ≡ false → (b && c) ≡ false
both b c e = ap (λ x. x && c) e

-- behind the last name that passes, none passes both tests
pub picked_up_to_last : (test other : Name → Bool) (ns : List Name) → picked (λ n. test n && other n) (take (up_to_last test ns) ns) ≡ picked (λ n. test n && other n) ns
unfolding up_to_last
picked_up_to_last test other [] = refl
picked_up_to_last test other (n ∷ ns) = by (nat_lt 0 (up_to_last test ns)) refl (test n) refl (picked_up_to_last test other ns)
  where
    empty : (last : ℕ) → nat_lt 0 last ≡ false → take last ns ≡ []
    empty zero h = refl
    empty (suc last) h = absurd (false≢true (sym h ∙ lt-ltb 0 (suc last) (omega arith)))

    by : (b : Bool) → nat_lt 0 (up_to_last test ns) ≡ b → (c : Bool) → test n ≡ c → picked (λ n. test n && other n) (take (up_to_last test ns) ns) ≡ picked (λ n. test n && other n) ns
        → picked (λ n. test n && other n) (take (cond b (suc (up_to_last test ns)) (cond c 1 0)) (n ∷ ns)) ≡ cond (test n && other n) (joined (Unique n) (picked (λ n. test n && other n) ns)) (picked (λ n. test n && other n) ns)
    by true p c q rest = ap (λ found. cond (test n && other n) (joined (Unique n) found) found) rest
    by false p true q rest = ap (λ found. cond (test n && other n) (joined (Unique n) found) found) (ap (picked (λ n. test n && other n)) (sym (empty (up_to_last test ns) p)) ∙ rest)
    by false p false q rest = ap (picked (λ n. test n && other n)) (sym (empty (up_to_last test ns) p)) ∙ rest ∙ ap (λ b. cond b (joined (Unique n) (picked (λ n. test n && other n) ns)) (picked (λ n. test n && other n) ns)) (sym (both (test n) (other n) q))

-- the last name of a chain among the first ones, and what is left before it
module _ (test other : Name → Bool) (ns : List Name) (end place : ℕ) (n : Name) (next : end ≡ suc place) (at : slice_get ns place ≡ Some n) (last : end ≡ up_to_last test (take end ns)) where
  front : take end ns ≡ take place ns ++ n ∷ []
  front = ap (λ k. take k ns) next ∙ taken ns place n at

  pub short : up_to_last test (take place ns) ≤ place
  short = let bound = up_to_last_bound test (take place ns) in omega (arith, bound, fewer place ns)
    where
      fewer : (k : ℕ) (ms : List Name) → length (take k ms) ≤ k
      fewer zero ms = omega arith
      fewer (suc k) [] = omega arith
      fewer (suc k) (m ∷ ms) = let rest = fewer k ms in omega arith

  pub last_passes : test n ≡ true
  last_passes = by (test n) refl
    where
      ends : end ≡ cond (test n) (suc (length (take place ns))) (up_to_last test (take place ns))
      ends = last ∙ ap (up_to_last test) front ∙ up_to_last_more test (take place ns) n

      by : (b : Bool) → test n ≡ b → b ≡ true
      by true p = refl
      by false p = absurd (low (ends ∙ ap (λ b. cond b (suc (length (take place ns))) (up_to_last test (take place ns))) p))
        where
          low : end ≡ up_to_last test (take place ns) → ⊥
          low e = omega (arith, short, next, e)

  left : take (up_to_last test (take place ns)) (take place ns) ≡ take (up_to_last test (take place ns)) ns
  left = take-take (up_to_last test (take place ns)) place ns short

  pub next_again : up_to_last test (take place ns) ≡ up_to_last test (take (up_to_last test (take place ns)) ns)
  next_again = sym (up_to_last_again test (take place ns)) ∙ ap (up_to_last test) left

  pub picked_next : picked (λ m. test m && other m) (take end ns)
      ≡ cond (other n) (joined (Unique n) (picked (λ m. test m && other m) (take (up_to_last test (take place ns)) ns))) (picked (λ m. test m && other m) (take (up_to_last test (take place ns)) ns))
  picked_next =
      ap (picked (λ m. test m && other m)) front ∙ picked_more (λ m. test m && other m) (take place ns) n
      ∙ (λ i. cond (last_passes i && other n) (joined (Unique n) (same i)) (same i))
    where
      same : picked (λ m. test m && other m) (take place ns) ≡ picked (λ m. test m && other m) (take (up_to_last test (take place ns)) ns)
      same = sym (picked_up_to_last test other (take place ns)) ∙ ap (picked (λ m. test m && other m)) left

  picked_left : (left_end : ℕ) → left_end ≡ up_to_last test (take place ns) → picked (λ m. test m && other m) (take end ns)
      ≡ cond (other n) (joined (Unique n) (picked (λ m. test m && other m) (take left_end ns))) (picked (λ m. test m && other m) (take left_end ns))
  picked_left left_end e = picked_next ∙ ap (λ k. cond (other n) (joined (Unique n) (picked (λ m. test m && other m) (take k ns))) (picked (λ m. test m && other m) (take k ns))) (sym e)

  -- what is found so far, where this name doesn't lie between, is the first that does, or the second
  pub walked_on : (found : Prefix) (left_end : ℕ) → left_end ≡ up_to_last test (take place ns) → other n ≡ false → joined found (picked (λ m. test m && other m) (take end ns)) ≡ joined found (picked (λ m. test m && other m) (take left_end ns))
  walked_on found left_end e h = ap (joined found) (picked_left left_end e ∙ ap (λ b. cond b (joined (Unique n) (picked (λ m. test m && other m) (take left_end ns))) (picked (λ m. test m && other m) (take left_end ns))) h)

  pub walked_first : (left_end : ℕ) → left_end ≡ up_to_last test (take place ns) → other n ≡ true → joined Absent (picked (λ m. test m && other m) (take end ns)) ≡ joined (Unique n) (picked (λ m. test m && other m) (take left_end ns))
  walked_first left_end e h = picked_left left_end e ∙ ap (λ b. cond b (joined (Unique n) (picked (λ m. test m && other m) (take left_end ns))) (picked (λ m. test m && other m) (take left_end ns))) h

  pub walked_twice : (found : Prefix) → (found ≡ Absent → ⊥) → other n ≡ true → Ambiguous ≡ joined found (picked (λ m. test m && other m) (take end ns))
  walked_twice found some h =
      two found some (picked (λ m. test m && other m) (take (up_to_last test (take place ns)) ns))
      ∙ ap (joined found) (sym (picked_next ∙ ap (λ b. cond b (joined (Unique n) (picked (λ m. test m && other m) (take (up_to_last test (take place ns)) ns))) (picked (λ m. test m && other m) (take (up_to_last test (take place ns)) ns))) h))
    where
      two : (p : Prefix) → (p ≡ Absent → ⊥) → (q : Prefix) → Ambiguous ≡ joined p (joined (Unique n) q)
      two Absent some q = absurd (some refl)
      two (Unique m) some Absent = refl
      two (Unique m) some (Unique l) = refl
      two (Unique m) some Ambiguous = refl
      two Ambiguous some q = refl

-- ---- among records

prefix_more : (r : Record) (rs : List Record) → prefix_of (r ∷ rs) ≡ joined (Unique (record { bytes = r.name })) (prefix_of rs)
prefix_more r [] = refl
prefix_more r (s ∷ []) = refl
prefix_more r (s ∷ t ∷ rs) = refl

pub picks_records : {A : Type 0} (digits : Bytes) (least greatest : Name) → AreEnds digits least greatest → (es : List (Name × Object A)) → list_all (λ r. is_name r.name) (map shown_stored es) ≡ true
    → picked (λ n. is_within least.bytes greatest.bytes n.bytes) (map (λ e. e.0) es) ≡ prefix_of (records_begun_by (map shown_stored es) digits)
picks_records digits least greatest ends [] all = refl
picks_records digits least greatest ends (e ∷ es) all =
    let p = and_parts (is_name e.0.bytes) _ all in
    let rest = picks_records digits least greatest ends es p.1 in
    by (is_within least.bytes greatest.bytes e.0.bytes) (begins_with_digits digits e.0.bytes) (ends e.0.bytes p.0) rest
  where
    by : (b c : Bool) → b ≡ c → picked (λ n. is_within least.bytes greatest.bytes n.bytes) (map (λ e. e.0) es) ≡ prefix_of (records_begun_by (map shown_stored es) digits)
        → cond b (joined (Unique e.0) (picked (λ n. is_within least.bytes greatest.bytes n.bytes) (map (λ e. e.0) es))) (picked (λ n. is_within least.bytes greatest.bytes n.bytes) (map (λ e. e.0) es))
        ≡ prefix_of (cond c (shown_stored e ∷ records_begun_by (map shown_stored es) digits) (records_begun_by (map shown_stored es) digits))
    by true true h rest = ap (joined (Unique e.0)) rest ∙ sym (prefix_more (shown_stored e) (records_begun_by (map shown_stored es) digits))
    by false false h rest = rest
    by true false h rest = absurd (false≢true (sym h))
    by false true h rest = absurd (false≢true h)

-- where no name begins so, no record's does
pub none_begun : (digits : Bytes) (rs : List Record) → list_all (λ r. is_name r.name) rs ≡ true → BeginNone digits → records_begun_by rs digits ≡ []
none_begun digits [] h none = refl
none_begun digits (r ∷ rs) h none =
    let p = and_parts (is_name r.name) _ h in
    ap (λ b. cond b (r ∷ records_begun_by rs digits) (records_begun_by rs digits)) (none r.name p.0) ∙ none_begun digits rs p.1 none

pub names_are : {A : Type 0} (es : List (Name × Object A)) → list_all (λ r. is_name r.name) (map shown_stored es) ≡ list_all (λ n. is_name n.bytes) (map (λ e. e.0) es)
names_are [] = refl
names_are (e ∷ es) = ap (λ b. is_name e.0.bytes && b) (names_are es)
