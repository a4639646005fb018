-- A commit is named by the digits of its name and `^0`, where its value is held.
use Rattle.std.proofs.Common.{◌≡◌, ℕ, ◌*◌, ◌-◌, Bool, true, false, None, Ok, List, [], ◌∷◌, ◌++◌, length, drop, map, codes, refl, sym, ap, ◌∙◌, arith, inl}
use Rattle.std.specs.Prelude.{◌&&◌, ◌||◌, ◌==◌, nat_eq}
use Rattle.std.specs.Bool.{passes}
use Rattle.std.specs.List.{filter, onto_first, list_all, ends_with, starts_with, slice_split}
use Rattle.std.specs.Cmp.Lexicographic.{pointwise}
use Rattle.std.proofs.lemmas.Bool.{and_from, and_parts, eq-eqb, eqb-true, false≢true, false_from_ne_true}
use Rattle.std.proofs.lemmas.Bool.Decides.{nat_tests}
use Rattle.std.proofs.lemmas.List.Elements.{filter-append}
use Rattle.std.proofs.lemmas.List.Splits.{slice_split-cons_no}
use Rattle.std.proofs.lemmas.Slice.Eq.{bytes_eq-Decides}
use Rattle.gx_model.specs.declared.objects.Kind.{Kind}
use Rattle.gx_model.specs.Texts.{Bytes, cut_at, has_pair, lacks, same_bytes}
use Rattle.gx_model.specs.Texts.RefNames.{is_ref_byte, is_ref_component, is_ref_name, ref_components}
use Rattle.gx_model.specs.Histories.Values.{Commit, Value, commit_value}
use Rattle.gx_model.specs.Texts.Digits.{is_any_digit, is_lower_digit, is_name_text, lower}
use Rattle.gx_model.specs.Histories.{IsIn, Target}
use Rattle.gx_model.specs.Objects.{IsNamer, hex, unhex}
use Rattle.gx_model.specs.Records.{body_of, kind_of, name_of}
use Rattle.gx_model.specs.Laws.RangeLaws.{AreToldByName}
use Rattle.gx_model.specs.Revisions.{base_and_suffixes, base_of, parent, revision_of}
use Rattle.gx_model.specs.Revisions.Denotation.{base_value, begins_with_digits, denoted, full_name, value_denoted}
use Rattle.gx_model.proofs.Revisions.Bases.{begins_own, filtered_in, in_filtered, own_begins}
use Rattle.gx_model.proofs.ObjectTexts.BodiesReadBack.{unhex_hex}
use Rattle.gx_model.proofs.Texts.Cuts.{lacks-cons}
use Rattle.gx_model.proofs.Texts.LineTexts.{all_ref_bytes}
use Rattle.gx_model.proofs.Texts.LowerDigits.{lower_again}
use Rattle.gx_model.proofs.ObjectTexts.NameDigits.{hex_long, hex_lower}
use Rattle.gx_model.proofs.Texts.PathTests.{all_drop, is_true}

-- ---- forty digits as a text

-- bytes that are no digits
abbrev AreDigits : Bytes → Type 0
AreDigits x = list_all is_lower_digit x ≡ true

no_cut : (c : ℕ) (xs : Bytes) → lacks c xs ≡ true → cut_at c xs ≡ None
unfolding cut_at
no_cut c [] h = refl
no_cut c (x ∷ xs) h = let p = lacks-cons c x xs h in rw (p.0, no_cut c xs p.1) refl

no_colon : (b : ℕ) → is_lower_digit b ≡ true → (b == 58) ≡ false
no_colon b e = grind (arith, nat_tests)

-- digits and `^0`
lacks_colon : (xs : Bytes) → AreDigits xs → lacks 58 (xs ++ codes "^0") ≡ true
lacks_colon [] h = refl
lacks_colon (x ∷ xs) h = let p = and_parts (is_lower_digit x) _ h in rw (no_colon x p.0) (lacks_colon xs p.1)

no_suffix_first : (b : ℕ) → is_lower_digit b ≡ true → (b == 94 || b == 126) ≡ false
no_suffix_first b e = grind (arith, nat_tests)

one_suffix : (xs : Bytes) → AreDigits xs → base_and_suffixes (xs ++ codes "^0") ≡ (xs, codes "^0" ∷ [])
one_suffix [] h = refl
one_suffix (x ∷ xs) h = let p = and_parts (is_lower_digit x) _ h in rw (no_suffix_first x p.0, one_suffix xs p.1) refl

-- ---- as a ref name

no_slash : (b : ℕ) → is_lower_digit b ≡ true → (b == 47) ≡ false
no_slash b e = grind (arith, nat_tests)

one_component : (xs : Bytes) → AreDigits xs → slice_split (λ b. b == 47) xs ≡ xs ∷ []
one_component [] h = refl
one_component (x ∷ xs) h =
    let p = and_parts (is_lower_digit x) _ h in
    slice_split-cons_no (λ b. b == 47) x xs (no_slash x p.0) ∙ ap (onto_first x) (one_component xs p.1)

ref_byte : (b : ℕ) → is_lower_digit b ≡ true → is_ref_byte b ≡ true
ref_byte b e = grind (arith, nat_tests)

ref_bytes : (xs : Bytes) → AreDigits xs → list_all is_ref_byte xs ≡ true
ref_bytes [] h = refl
ref_bytes (x ∷ xs) h = let p = and_parts (is_lower_digit x) _ h in and_from _ _ (ref_byte x p.0) (ref_bytes xs p.1)

no_dot : (b : ℕ) → is_lower_digit b ≡ true → (b == 46) ≡ false
no_dot b e = grind (arith, nat_tests)

no_at : (b : ℕ) → is_lower_digit b ≡ true → (b == 64) ≡ false
no_at b e = grind (arith, nat_tests)

no_pair : (k l : ℕ) → ((b : ℕ) → is_lower_digit b ≡ true → (b == k) ≡ false) → (xs : Bytes) → AreDigits xs → has_pair k l xs ≡ false
no_pair k l f [] h = refl
no_pair k l f (x ∷ []) h = refl
no_pair k l f (x ∷ y ∷ zs) h = let p = and_parts (is_lower_digit x) _ h in rw (f x p.0) (no_pair k l f (y ∷ zs) p.1)

dot_apart : (b : ℕ) → is_lower_digit b ≡ true → nat_eq 46 b ≡ false
dot_apart b e = grind (arith, nat_tests)

no_dot_first : (ks xs : Bytes) → AreDigits xs → pointwise nat_eq (46 ∷ ks) xs ≡ false
no_dot_first ks [] h = refl
no_dot_first ks (x ∷ xs) h = rw (dot_apart x (and_parts (is_lower_digit x) _ h).0) refl

not_at_end : (ks xs : Bytes) → AreDigits xs → ends_with nat_eq xs (46 ∷ ks) ≡ false
not_at_end ks xs h = no_dot_first ks (drop (length xs - length (46 ∷ ks)) xs) (is_true _ (all_drop is_lower_digit (length xs - length (46 ∷ ks)) xs (passes _ h)))

not_first : (ks xs : Bytes) → AreDigits xs → starts_with nat_eq xs (46 ∷ ks) ≡ false
not_first ks [] h = refl
not_first ks (x ∷ xs) h = rw (dot_apart x (and_parts (is_lower_digit x) _ h).0) refl

long_enough : (n : ℕ) → n ≡ 40 → (n == 0) ≡ false
long_enough n e = grind (arith, nat_tests)

not_long : (n : ℕ) → n ≡ 40 → n ≡ 1 → ⊥
not_long n e f = omega (arith, e, f)

parts_of_name : (x : Bytes) → is_name_text x ≡ true → (length x ≡ 40) × AreDigits x
parts_of_name x h = let p = and_parts (nat_eq (length x) 40) _ h in (eqb-true (length x) 40 p.0, p.1)

pub no_other_text : (x y : Bytes) → is_name_text x ≡ true → is_name_text y ≡ false → same_bytes x y ≡ false
no_other_text x y h n = false_from_ne_true _ (λ t. false≢true (sym n ∙ ap is_name_text (sym ((bytes_eq-Decides x y).0 t)) ∙ h))

component_of_digits : (x : Bytes) → is_name_text x ≡ true → is_ref_component x ≡ true
component_of_digits x h = let p = parts_of_name x h in rw (long_enough (length x) p.0, not_first [] x p.1, not_at_end (codes "lock") x p.1) refl

-- forty digits are a ref name
digits_are_ref : (x : Bytes) → is_name_text x ≡ true → is_ref_name x ≡ true
digits_are_ref x h =
    let p = parts_of_name x h in
    let one : ref_components x ≡ x ∷ [] = one_component x p.1 in
    rw (one, component_of_digits x h, ref_bytes x p.1, no_pair 46 46 no_dot x p.1, no_pair 64 123 no_at x p.1, not_at_end [] x p.1, no_other_text x (codes "@") h refl) refl

base_is : (x : Bytes) → is_name_text x ≡ true → base_of x ≡ Ok x
base_is x h = rw (digits_are_ref x h, no_other_text x (codes "@") h refl) refl

-- with `^0` behind them they are none
no_ref_bytes : (xs : Bytes) → list_all is_ref_byte (xs ++ codes "^0") ≡ false
no_ref_bytes [] = refl
no_ref_bytes (x ∷ xs) = elim (is_ref_byte x) as (λ t. (t && list_all is_ref_byte (xs ++ codes "^0")) ≡ false) [ true ↦ no_ref_bytes xs | false ↦ refl ]

pub no_ref_has_caret : (x : Bytes) → is_ref_name (x ++ codes "^0") ≡ false
no_ref_has_caret x = false_from_ne_true _ (λ t. false≢true (sym (no_ref_bytes x) ∙ all_ref_bytes (x ++ codes "^0") t))

-- but a revision
pub digits_are_revision : (x : Bytes) → is_name_text x ≡ true → revision_of (x ++ codes "^0") ≡ Ok (record { base = x; suffixes = parent 0 ∷ []; path = None })
unfolding revision_of
digits_are_revision x h =
    let p = parts_of_name x h in
    rw (no_cut 58 (x ++ codes "^0") (lacks_colon x p.1), one_suffix x p.1, base_is x h) refl

-- ---- what they name

any_digit : (b : ℕ) → is_lower_digit b ≡ true → is_any_digit b ≡ true
any_digit b e = grind (arith, nat_tests)

any_digits : (xs : Bytes) → AreDigits xs → list_all is_any_digit xs ≡ true
any_digits [] h = refl
any_digits (x ∷ xs) h = let p = and_parts (is_lower_digit x) _ h in and_from _ _ (any_digit x p.0) (any_digits xs p.1)

module _ (name : Kind → Bytes → Bytes) (namer : IsNamer name) where
  pub name_is_text : (v : Value) → is_name_text (hex (name_of name v)) ≡ true
  name_is_text v =
      let long : length (hex (name_of name v)) ≡ 40 = hex_long (name_of name v) ∙ ap (λ n. 2 * n) (namer.long (kind_of name v) (body_of name v)) in
      and_from _ _ (eq-eqb (length (hex (name_of name v))) 40 long) (hex_lower (name_of name v) (namer.bytes (kind_of name v) (body_of name v)))

  -- the digits of a value's name give it, where these values stand first
  pub digits_give : (held new : List Value) (refs : List (Bytes × Target)) (v : Value) → AreToldByName name held → IsIn held v → base_value name (record { values = held ++ new; refs = refs }) (hex (name_of name v)) ≡ Ok v
  digits_give held new refs v told i =
      let x = hex (name_of name v) in
      let p = parts_of_name x (name_is_text v) in
      let all = any_digits x p.1 in
      let forty = eq-eqb (length x) 40 p.0 in
      let t = λ (u : Value). begins_with_digits x (name_of name u) in
      let back : unhex (map lower x) ≡ name_of name v = ap unhex (lower_again x (passes _ p.1)) ∙ unhex_hex (name_of name v) (passes _ (namer.bytes (kind_of name v) (body_of name v))) in
      let own : t v ≡ true = own_begins name namer x (kind_of name v) (body_of name v) p.0 all (sym back) in
      rw (all, forty) (ap (full_name name) (filter-append t held new) ∙ by (filter t held) (λ w j. first_is x t p.0 all back w (in_filtered t held w j)) (filtered_in t held v i own))
    where
      first_is : (x : Bytes) (t : Value → Bool) → length x ≡ 40 → list_all is_any_digit x ≡ true → unhex (map lower x) ≡ name_of name v → (w : Value) → IsIn held w × (begins_with_digits x (name_of name w) ≡ true) → w ≡ v
      first_is x t l a back w f = told w v f.0 i (begins_own name namer x (kind_of name w) (body_of name w) l a f.1 ∙ back)

      by : (ws : List Value) → ((w : Value) → IsIn ws w → w ≡ v) → IsIn ws v → full_name name (ws ++ filter (λ u. begins_with_digits (hex (name_of name v)) (name_of name u)) new) ≡ Ok v
      by [] f j = absurd j
      by (w ∷ ws) f j = ap Ok (f w (inl refl))

  pub digits_denote : (held new : List Value) (refs : List (Bytes × Target)) (c : Commit) → AreToldByName name held → IsIn held (commit_value c)
      → value_denoted name (record { values = held ++ new; refs = refs }) (record { base = hex (name_of name (commit_value c)); suffixes = parent 0 ∷ []; path = None }) ≡ Ok (commit_value c)
  unfolding denoted
  digits_denote held new refs c told i = rw (digits_give held new refs (commit_value c) told i) refl
