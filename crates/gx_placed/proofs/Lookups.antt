-- What a name finds among objects, among those of other names, and among those that wait.
use Rattle.std.proofs.Common.{◌≡◌, ℕ, zero, suc, true, false, cond, sym, ap, ◌∙◌, refl, subst, List, [], ◌∷◌, ◌++◌, map, set, take, Option, Some, None, inl, inr, ◌⊎◌}
use Rattle.std.specs.Prelude.{not}
use Rattle.std.specs.Bool.{passes}
use Rattle.std.specs.List.{AllByRecursion, slice_get}
use Rattle.std.specs.Option.{option_map, option_and_then}
use Rattle.gx_model.specs.Texts.{Bytes, same_bytes}
use Rattle.gx_model.specs.Histories.{Record}
use Rattle.gx_model.specs.Records.Growth.{record_named}
use Rattle.gx_model.proofs.Histories.PathRuns.{other, same_itself}
use Rattle.gx_model.proofs.Texts.PathTests.{same_is}
use Rattle.gx_placed.specs.Placed.{others}
use Rattle.gx_placed.specs.Machine.{place_in, slot_at, waits}

-- ---- names

-- two names are one, or the test tells them apart
pub one_or_two : (x y : Bytes) → (x ≡ y) ⊎ (same_bytes x y ≡ false)
one_or_two x y = elim (same_bytes x y) as (λ b. same_bytes x y ≡ b → (x ≡ y) ⊎ (same_bytes x y ≡ false)) [
  | true ↦ λ e. inl (same_is x y (passes _ e))
  | false ↦ λ e. inr e
] refl

-- names that the test tells apart are told apart the other way round
pub apart_too : (x y : Bytes) → same_bytes x y ≡ false → same_bytes y x ≡ false
apart_too x y e = elim (one_or_two y x) [
  | inl same ↦ absurd (other x y e (sym same))
  | inr apart ↦ apart
]

-- what isn't one is two
pub two : (x y : Bytes) → (x ≡ y → ⊥) → same_bytes x y ≡ false
two x y n = elim (one_or_two x y) [ inl same ↦ absurd (n same) | inr apart ↦ apart ]

-- ---- records

-- the first record has the name
pub at_front : (rs : List Record) (r : Record) (n : Bytes) → n ≡ r.name → record_named (r ∷ rs) n ≡ Some r
at_front rs r n e = ap (λ x. cond (same_bytes x r.name) (Some r) (record_named rs x)) e ∙ ap (λ b. cond b (Some r) (record_named rs r.name)) (same_itself r.name)

-- it has another one
pub behind_front : (rs : List Record) (r : Record) (n : Bytes) → same_bytes n r.name ≡ false → record_named (r ∷ rs) n ≡ record_named rs n
behind_front rs r n e = ap (λ b. cond b (Some r) (record_named rs n)) e

-- a name that is found is found where there are more records behind
pub found_still : (rs more : List Record) (n : Bytes) (r : Record) → record_named rs n ≡ Some r → record_named (rs ++ more) n ≡ Some r
found_still [] more n r e = absurd (cc)
found_still (s ∷ rs) more n r e = elim (one_or_two n s.name) [
  | inl same ↦ at_front (rs ++ more) s n same ∙ sym (at_front rs s n same) ∙ e
  | inr apart ↦ behind_front (rs ++ more) s n apart ∙ found_still rs more n r (sym (behind_front rs s n apart) ∙ e)
]

-- a name that isn't found is looked for behind
pub found_behind : (rs more : List Record) (n : Bytes) → record_named rs n ≡ None → record_named (rs ++ more) n ≡ record_named more n
found_behind [] more n e = refl
found_behind (s ∷ rs) more n e = elim (one_or_two n s.name) [
  | inl same ↦ (let k : Some s ≡ None = sym (at_front rs s n same) ∙ e in absurd (cc))
  | inr apart ↦ behind_front (rs ++ more) s n apart ∙ found_behind rs more n (sym (behind_front rs s n apart) ∙ e)
]

-- a name that isn't found behind one more isn't found without it
pub free_before : (rs more : List Record) (n : Bytes) → record_named (rs ++ more) n ≡ None → record_named rs n ≡ None
free_before rs more n e = by (record_named rs n) refl
  where
    by : (o : Option Record) → record_named rs n ≡ o → record_named rs n ≡ None
    by None f = f
    by (Some r) f = let k : Some r ≡ None = sym (found_still rs more n r f) ∙ e in absurd (cc)

-- the last record, whose name is new
pub found_last : (rs : List Record) (r : Record) → record_named rs r.name ≡ None → record_named (rs ++ r ∷ []) r.name ≡ Some r
found_last rs r e = found_behind rs (r ∷ []) r.name e ∙ at_front [] r r.name refl

-- a name that is neither found nor that of the last record
pub free_still : (rs : List Record) (r : Record) (n : Bytes) → record_named rs n ≡ None → same_bytes n r.name ≡ false → record_named (rs ++ r ∷ []) n ≡ None
free_still rs r n e a = found_behind rs (r ∷ []) n e ∙ behind_front [] r n a

-- ---- records of other names

-- another name finds what it found
pub other_found : (a n : Bytes) (rs : List Record) → same_bytes a n ≡ false → record_named (others a rs) n ≡ record_named rs n
other_found a n [] e = refl
other_found a n (r ∷ rs) e =
    elim (one_or_two a r.name) [
      | inl same ↦
          ap (λ b. record_named (cond (not b) (r ∷ others a rs) (others a rs)) n) (subst (λ x. same_bytes a x ≡ true) same (same_itself a))
          ∙ other_found a n rs e
          ∙ sym (behind_front rs r n (apart_too r.name n (subst (λ x. same_bytes x n ≡ false) same e)))
      | inr apart ↦
          ap (λ b. record_named (cond (not b) (r ∷ others a rs) (others a rs)) n) apart
          ∙ (λ i. cond (same_bytes n r.name) (Some r) (other_found a n rs e i))
    ]

-- the name itself finds none
pub none_found : (a : Bytes) (rs : List Record) → record_named (others a rs) a ≡ None
none_found a [] = refl
none_found a (r ∷ rs) =
    elim (one_or_two a r.name) [
      | inl same ↦
          ap (λ b. record_named (cond (not b) (r ∷ others a rs) (others a rs)) a) (subst (λ x. same_bytes a x ≡ true) same (same_itself a))
          ∙ none_found a rs
      | inr apart ↦
          ap (λ b. record_named (cond (not b) (r ∷ others a rs) (others a rs)) a) apart
          ∙ behind_front (others a rs) r a apart
          ∙ none_found a rs
    ]

-- what is found among them is found among all
pub found_among_all : (a n : Bytes) (rs : List Record) (r : Record) → record_named (others a rs) n ≡ Some r → (same_bytes a n ≡ false) × (record_named rs n ≡ Some r)
found_among_all a n rs r e = elim (one_or_two a n) [
  | inl same ↦ (let k : None ≡ Some r = sym (subst (λ x. record_named (others a rs) x ≡ None) same (none_found a rs)) ∙ e in absurd (cc))
  | inr apart ↦ (apart, sym (other_found a n rs apart) ∙ e)
]

-- what isn't found isn't found among them
pub free_among : (a n : Bytes) (rs : List Record) → record_named rs n ≡ None → record_named (others a rs) n ≡ None
free_among a n rs e = elim (one_or_two a n) [
  | inl same ↦ subst (λ x. record_named (others a rs) x ≡ None) same (none_found a rs)
  | inr apart ↦ other_found a n rs apart ∙ e
]

-- ---- those that wait

-- what waits at the first place of a name
pub waits_at : (given : List Record) (slots : List (Option Record)) (n : Bytes) → option_and_then (slot_at slots) (place_in given n) ≡ waits given slots n
waits_at [] slots n = refl
waits_at (r ∷ given) [] n = by (place_in (r ∷ given) n)
  where
    by : (o : Option ℕ) → option_and_then (slot_at []) o ≡ None
    by None = refl
    by (Some p) = refl
waits_at (r ∷ given) (slot ∷ slots) n =
    elim (same_bytes n r.name) as (λ b. option_and_then (slot_at (slot ∷ slots)) (cond b (Some zero) (option_map suc (place_in given n))) ≡ cond b slot (waits given slots n)) [
      | true ↦ refl
      | false ↦ by (place_in given n) ∙ waits_at given slots n
    ]
  where
    by : (o : Option ℕ) → option_and_then (slot_at (slot ∷ slots)) (option_map suc o) ≡ option_and_then (slot_at slots) o
    by None = refl
    by (Some p) = refl

-- with a slot emptied at the first place of a name, none waits under it
pub none_waits : (given : List Record) (slots : List (Option Record)) (n : Bytes) (p : ℕ) → place_in given n ≡ Some p → waits given (set slots p None) n ≡ None
none_waits [] slots n p e = refl
none_waits (r ∷ given) [] n p e = refl
none_waits (r ∷ given) (slot ∷ slots) n p e =
    elim (same_bytes n r.name) as (λ b. same_bytes n r.name ≡ b → cond b (Some zero) (option_map suc (place_in given n)) ≡ Some p → waits (r ∷ given) (set (slot ∷ slots) p None) n ≡ None) [
      | true ↦ λ k f. let z : zero ≡ p = cc f in subst (λ q. waits (r ∷ given) (set (slot ∷ slots) q None) n ≡ None) z (ap (λ b. cond b None (waits given slots n)) k)
      | false ↦ λ k f. by (λ q. none_waits given slots n q) (place_in given n) refl k f
    ] refl e
  where
    by : ((q : ℕ) → place_in given n ≡ Some q → waits given (set slots q None) n ≡ None) → (o : Option ℕ) → place_in given n ≡ o → same_bytes n r.name ≡ false → option_map suc o ≡ Some p → waits (r ∷ given) (set (slot ∷ slots) p None) n ≡ None
    by it None f k g = absurd (cc)
    by it (Some q) f k g =
        let z : suc q ≡ p = cc g in
        subst (λ j. waits (r ∷ given) (set (slot ∷ slots) j None) n ≡ None) z
        (ap (λ b. cond b slot (waits given (set slots q None) n)) k ∙ it q f)

-- another name finds what waited under it
pub waits_still : (given : List Record) (slots : List (Option Record)) (r : Record) (n : Bytes) (p : ℕ) → slice_get given p ≡ Some r → same_bytes n r.name ≡ false → waits given (set slots p None) n ≡ waits given slots n
waits_still [] slots r n p e a = refl
waits_still (s ∷ given) [] r n p e a = refl
waits_still (s ∷ given) (slot ∷ slots) r n zero e a =
    let z : s ≡ r = cc e in
    let k : same_bytes n s.name ≡ false = subst (λ (x : Record). same_bytes n x.name ≡ false) (sym z) a in
    ap (λ b. cond b None (waits given slots n)) k ∙ sym (ap (λ b. cond b slot (waits given slots n)) k)
waits_still (s ∷ given) (slot ∷ slots) r n (suc p) e a = λ i. cond (same_bytes n s.name) slot (waits_still given slots r n p e a i)

-- where all wait, each is found that is given
pub all_wait : (given : List Record) (n : Bytes) → waits given (map Some given) n ≡ record_named given n
all_wait [] n = refl
all_wait (r ∷ given) n = λ i. cond (same_bytes n r.name) (Some r) (all_wait given n i)

-- the first object of a name, where none of those before it has it
pub first_there : (P : Record → Type 0) (given : List Record) (r : Record) (p : ℕ) → slice_get given p ≡ Some r → AllByRecursion P (take p given) → ((s : Record) → P s → same_bytes r.name s.name ≡ false)
    → (place_in given r.name ≡ Some p) × (record_named given r.name ≡ Some r)
first_there P [] r p e a f = absurd (cc)
first_there P (s ∷ given) r zero e a f =
    let z : s ≡ r = cc e in
    subst (λ (x : Record). (place_in (x ∷ given) r.name ≡ Some zero) × (record_named (x ∷ given) r.name ≡ Some r)) (sym z)
    (ap (λ b. cond b (Some zero) (option_map suc (place_in given r.name))) (same_itself r.name), at_front given r r.name refl)
first_there P (s ∷ given) r (suc p) e a f =
    let k = f s a.0 in
    let h = first_there P given r p e a.1 f in
    (ap (λ b. cond b (Some zero) (option_map suc (place_in given r.name))) k ∙ ap (λ o. option_map suc o) h.0, behind_front given s r.name k ∙ h.1)

-- the object at the first place of a name has that name
pub place_named_so : (given : List Record) (n : Bytes) (p : ℕ) → place_in given n ≡ Some p → (r : Record) × (slice_get given p ≡ Some r) × (r.name ≡ n)
place_named_so [] n p e = absurd (cc)
place_named_so (r ∷ given) n p e =
    elim (one_or_two n r.name) [
      | inl same ↦
          (let f : Some zero ≡ Some p = sym (ap (λ b. cond b (Some zero) (option_map suc (place_in given n))) (subst (λ x. same_bytes n x ≡ true) same (same_itself n))) ∙ e in
          let z : zero ≡ p = cc f in
          (r, subst (λ q. slice_get (r ∷ given) q ≡ Some r) z refl, sym same))
      | inr apart ↦ by (λ q. place_named_so given n q) (place_in given n) refl (sym (ap (λ b. cond b (Some zero) (option_map suc (place_in given n))) apart) ∙ e)
    ]
  where
    by : ((q : ℕ) → place_in given n ≡ Some q → (s : Record) × (slice_get given q ≡ Some s) × (s.name ≡ n)) → (o : Option ℕ) → place_in given n ≡ o → option_map suc o ≡ Some p
        → (s : Record) × (slice_get (r ∷ given) p ≡ Some s) × (s.name ≡ n)
    by it None f g = absurd (cc)
    by it (Some q) f g =
        let z : suc q ≡ p = cc g in
        let h = it q f in
        (h.0, subst (λ j. slice_get (r ∷ given) j ≡ Some h.0) z h.1, h.2)
