-- What names in full, refs and digits find in the history.
use Rattle.std.proofs.Common.{◌≡◌, ℕ, Bool, true, false, cond, refl, sym, ap, subst, ◌∙◌, arith, List, [], ◌∷◌, map, length, take, ◌%◌, ◌*◌, Option, None, Some, Ok, Err, inl, inr}
use Rattle.std.specs.Prelude.{◌&&◌, is_some, nat_eq, nat_le, nat_lt, IsTrue}
use Rattle.std.specs.Bool.{passes}
use Rattle.std.specs.List.{AllByRecursion, filter, list_all}
use Rattle.std.specs.Option.{option_map, option_or}
use Rattle.std.specs.Map.{lookup}
use Rattle.std.proofs.lemmas.Bool.{and_from, and_parts, eqb-true}
use Rattle.std.proofs.lemmas.Bool.Decides.{nat_tests}
use Rattle.std.proofs.lemmas.List.{length-map, take_all}
use Rattle.gx_model.specs.declared.faults.Fault.TheVariants as fault
use Rattle.gx_model.specs.declared.objects.Kind.{Kind}
use Rattle.gx_model.specs.Texts.{Bytes, same_bytes}
use Rattle.gx_model.specs.Histories.Values.{Value}
use Rattle.gx_model.specs.Texts.Digits.{is_any_digit, is_lower_digit, lower}
use Rattle.gx_model.specs.Objects.{IsNamer, hex, unhex}
use Rattle.gx_model.specs.Objects.Naming.{name_in}
use Rattle.gx_model.proofs.ObjectTexts.BodiesReadBack.{unhex_hex}
use Rattle.gx_model.proofs.ObjectTexts.NameDigits.{hex_long, hex_unhex}
use Rattle.gx_model.specs.Records.{body_of, kind_of, name_of}
use Rattle.gx_model.specs.Histories.{IsIn, Record, Records, Target, object_of, value_at}
use Rattle.gx_model.specs.Records.HistoryOf.{history_of, target_in, value_of_name}
use Rattle.gx_model.specs.Records.Growth.{record_named}
use Rattle.gx_model.specs.Records.Sound.{IsSound}
use Rattle.gx_model.specs.Records.Lookups.{first_named}
use Rattle.gx_model.specs.Revisions.Denotation.{base_value, begins_with_digits, begun_by, find_ref, first_ref, full_name, ref_at, ref_names, the_one}
use Rattle.gx_model.proofs.Texts.PathTests.{is_same, is_true, same_is}
use Rattle.gx_model.proofs.Records.HistoriesExist.{stands}
use Rattle.gx_model.proofs.Records.FoundRecords.{first_found}
use Rattle.gx_model.proofs.Records.HeldValues.{held_is, kind_held, value_held}

-- what a filter leaves
pub in_filtered : (t : Value → Bool) (vs : List Value) (v : Value) → IsIn (filter t vs) v → IsIn vs v × (t v ≡ true)
in_filtered t [] v i = absurd i
in_filtered t (w ∷ vs) v i =
    elim (t w) as (λ b. t w ≡ b → IsIn (cond b (w ∷ filter t vs) (filter t vs)) v → IsIn (w ∷ vs) v × (t v ≡ true)) [
      | true ↦ λ k j. elim j [ inl e ↦ (inl e, subst (λ u. t u ≡ true) e k) | inr l ↦ (inr (in_filtered t vs v l).0, (in_filtered t vs v l).1) ]
      | false ↦ λ k j. (inr (in_filtered t vs v j).0, (in_filtered t vs v j).1)
    ] refl i

pub filtered_in : (t : Value → Bool) (vs : List Value) (v : Value) → IsIn vs v → t v ≡ true → IsIn (filter t vs) v
filtered_in t [] v i e = absurd i
filtered_in t (w ∷ vs) v i e =
    elim (t w) as (λ b. t w ≡ b → IsIn (cond b (w ∷ filter t vs) (filter t vs)) v) [
      | true ↦ λ k. elim i [ inl s ↦ inl s | inr j ↦ inr (filtered_in t vs v j e) ]
      | false ↦ λ k. elim i [ inl s ↦ absurd (let l = sym (ap t s ∙ e) ∙ k in cc l) | inr j ↦ filtered_in t vs v j e ]
    ] refl

-- ---- 40 digits

lower_digit : (d : ℕ) → is_any_digit d ≡ true → is_lower_digit (lower d) ≡ true
lower_digit d h = grind (arith, nat_tests)

lower_digits : (x : Bytes) → list_all is_any_digit x ≡ true → list_all is_lower_digit (map lower x) ≡ true
lower_digits [] h = refl
lower_digits (d ∷ x) h = let p = and_parts (is_any_digit d) _ h in and_from _ _ (lower_digit d p.0) (lower_digits x p.1)

hex_own : (x : Bytes) → length x ≡ 40 → list_all is_any_digit x ≡ true → hex (unhex (map lower x)) ≡ map lower x
hex_own x l h = let k : length (map lower x) ≡ 40 = length-map x lower ∙ l in hex_unhex (map lower x) (ap (λ n. n % 2) k) (lower_digits x h)

-- what they write as a name
pub name_written : (x : Bytes) → length x ≡ 40 → list_all is_any_digit x ≡ true → name_in x ≡ Some (unhex (map lower x))
unfolding name_in
name_written x l h = rw (l, h) refl

module _ (name : Kind → Bytes → Bytes) (namer : IsNamer name) where
  long : (x : Bytes) (k : Kind) (body : Bytes) → length x ≡ 40 → take (length (map lower x)) (hex (name k body)) ≡ hex (name k body)
  long x k body l =
      let a : length (map lower x) ≡ 40 = length-map x lower ∙ l in
      let b : length (hex (name k body)) ≡ 40 = hex_long (name k body) ∙ ap (λ n. 2 * n) (namer.long k body) in
      grind (arith, take_all)

  pub own_begins : (x : Bytes) (k : Kind) (body : Bytes) → length x ≡ 40 → list_all is_any_digit x ≡ true → name k body ≡ unhex (map lower x) → begins_with_digits x (name k body) ≡ true
  own_begins x k body l h e = rw (long x k body l, e, hex_own x l h) (is_true _ (is_same (map lower x) (map lower x) refl))

  pub begins_own : (x : Bytes) (k : Kind) (body : Bytes) → length x ≡ 40 → list_all is_any_digit x ≡ true → begins_with_digits x (name k body) ≡ true → name k body ≡ unhex (map lower x)
  begins_own x k body l h b =
      let same : map lower x ≡ hex (name k body) = same_is (map lower x) (hex (name k body)) (passes _ (rw (long x k body l) at b)) in
      sym (unhex_hex (name k body) (passes _ (namer.bytes k body))) ∙ ap unhex (sym same)

module _ (name : Kind → Bytes → Bytes) (namer : IsNamer name) (r : Records) (sound : IsSound name r) where
  abbrev Named : Bytes → Value
  Named n = value_of_name r.records n

  abbrev Stands : Value → Type 0
  Stands = IsIn (history_of r).values

  pub value_is_held : (v : Value) (n : Bytes) → Stands v → n ≡ name_of name v → IsTrue (is_some (record_named r.records n)) × (Named n ≡ v)
  value_is_held v n i s =
      let h = value_held name namer r sound (kind_of name v) v n i refl s in
      ((kind_held name namer r sound (kind_of name v) n h.0).0, h.1)

  -- ---- digits

  -- 40 digits begin the names of values with that name alone
  begun_names : (digits : Bytes) → length digits ≡ 40 → list_all is_any_digit digits ≡ true → (v : Value) → IsIn (begun_by name (history_of r) digits) v → Stands v × (name_of name v ≡ unhex (map lower digits))
  begun_names digits l h v i =
      let f = in_filtered (λ u. begins_with_digits digits (name_of name u)) (history_of r).values v i in
      (f.0, begins_own name namer digits (kind_of name v) (body_of name v) l h f.1)

  abbrev pub begun : Bytes → List Value
  begun digits = begun_by name (history_of r) digits

  pub begun_stands : (digits : Bytes) (v : Value) → IsIn (begun digits) v → Stands v
  begun_stands digits v i = (in_filtered (λ u. begins_with_digits digits (name_of name u)) (history_of r).values v i).0

  -- ---- refs

  ref_held : (ref n : Bytes) (refs : List (Bytes × Target)) → AllByRecursion (λ x. Stands (value_at x.1)) refs
      → lookup (same_bytes ref) (map (λ (x : Bytes × Target). let q : Bytes × Bytes = (x.0, name_of name (value_at x.1)) in q) refs) ≡ Some n → (t : Target) × Stands (value_at t) × (n ≡ name_of name (value_at t)) × (lookup (same_bytes ref) refs ≡ Some t)
  ref_held ref n [] k e = absurd cc
  ref_held ref n (x ∷ xs) k e =
      elim (same_bytes ref x.0) as (λ b. cond b (Some (name_of name (value_at x.1))) (lookup (same_bytes ref) (map (λ (x : Bytes × Target). let q : Bytes × Bytes = (x.0, name_of name (value_at x.1)) in q) xs)) ≡ Some n
      → (t : Target) × Stands (value_at t) × (n ≡ name_of name (value_at t)) × (cond b (Some x.1) (lookup (same_bytes ref) xs) ≡ Some t)) [
        | true ↦ λ l. (x.1, k.0, (let m : name_of name (value_at x.1) ≡ n = cc l in sym m), refl)
        | false ↦ λ l. ref_held ref n xs k.1 l
      ] e

  -- no ref of that name among the one kind, none among the other
  ref_lacks : (ref : Bytes) (refs : List (Bytes × Target)) → lookup (same_bytes ref) (map (λ (x : Bytes × Target). let q : Bytes × Bytes = (x.0, name_of name (value_at x.1)) in q) refs) ≡ None → lookup (same_bytes ref) refs ≡ None
  ref_lacks ref [] e = refl
  ref_lacks ref (x ∷ xs) e =
      elim (same_bytes ref x.0) as (λ b. cond b (Some (name_of name (value_at x.1))) (lookup (same_bytes ref) (map (λ (x : Bytes × Target). let q : Bytes × Bytes = (x.0, name_of name (value_at x.1)) in q) xs)) ≡ None → cond b (Some x.1) (lookup (same_bytes ref) xs) ≡ None) [
        | true ↦ λ l. absurd (cc l)
        | false ↦ λ l. ref_lacks ref xs l
      ] e

  first_held : (ns : List Bytes) (n : Bytes) → first_named r.refs ns ≡ Some n → (t : Target) × Stands (value_at t) × (n ≡ name_of name (value_at t)) × (first_ref (history_of r) ns ≡ Some t)
  first_held [] n e = absurd cc
  first_held (ref ∷ ns) n e = by (lookup (same_bytes ref) r.refs) refl e (first_held ns n)
    where
      meant : lookup (same_bytes ref) r.refs ≡ lookup (same_bytes ref) (map (λ (x : Bytes × Target). let q : Bytes × Bytes = (x.0, name_of name (value_at x.1)) in q) (history_of r).refs)
      meant = ap (lookup (same_bytes ref)) (stands name namer r sound).refs

      by : (o : Option Bytes) → lookup (same_bytes ref) r.refs ≡ o → option_or o (first_named r.refs ns) ≡ Some n
          → (first_named r.refs ns ≡ Some n → (t : Target) × Stands (value_at t) × (n ≡ name_of name (value_at t)) × (first_ref (history_of r) ns ≡ Some t))
          → (t : Target) × Stands (value_at t) × (n ≡ name_of name (value_at t)) × (option_or (ref_at (history_of r) ref) (first_ref (history_of r) ns) ≡ Some t)
      by (Some m) k l rest =
          let f = ref_held ref n (history_of r).refs (stands name namer r sound).history.held (sym meant ∙ k ∙ l) in
          (f.0, f.1, f.2, ap (λ o. option_or o (first_ref (history_of r) ns)) f.3)
      by None k l rest =
          let f = rest l in
          (f.0, f.1, f.2, ap (λ o. option_or o (first_ref (history_of r) ns)) (ref_lacks ref (history_of r).refs (sym meant ∙ k)) ∙ f.3)

  pub ref_found : (x n : Bytes) → Some n ≡ first_named r.refs (ref_names x) → ((t : Target) × (find_ref (history_of r) x ≡ Some t) × (Named n ≡ value_at t)) × IsTrue (is_some (record_named r.records n))
  ref_found x n e =
      let f = first_held (ref_names x) n (sym e) in
      let h = value_is_held (value_at f.0) n f.1 f.2 in
      ((f.0, f.3, h.1), h.0)

  pub ref_none : (x : Bytes) → None ≡ first_named r.refs (ref_names x) → find_ref (history_of r) x ≡ None
  ref_none x e = first_found r (ref_names x) ∙ ap (option_map (λ m. target_in (value_of_name r.records m))) (sym e)

  -- ---- names in full

  pub full_found : (digits n : Bytes) → length digits ≡ 40 → list_all is_any_digit digits ≡ true → n ≡ unhex (map lower digits) → IsTrue (is_some (record_named r.records n)) → full_name name (begun digits) ≡ Ok (Named n)
  full_found digits n l h s k =
      let v = held_is name namer r sound n k in
      let own = own_begins name namer digits (kind_of name (Named n)) (body_of name (Named n)) l h (v.named ∙ s) in
      by (begun digits) (begun_names digits l h) (filtered_in (λ u. begins_with_digits digits (name_of name u)) (history_of r).values (Named n) v.stands own)
    where
      by : (vs : List Value) → ((v : Value) → IsIn vs v → Stands v × (name_of name v ≡ unhex (map lower digits))) → IsIn vs (Named n) → full_name name vs ≡ Ok (Named n)
      by [] a i = absurd i
      by (w ∷ vs) a i = let f = a w (inl refl) in ap Ok (sym (value_is_held w n f.0 (s ∙ sym f.1)).1)

  pub full_none : (digits n : Bytes) → length digits ≡ 40 → list_all is_any_digit digits ≡ true → n ≡ unhex (map lower digits) → record_named r.records n ≡ None → full_name name (begun digits) ≡ Err fault.UnknownObject
  full_none digits n l h s k = by (begun digits) (begun_names digits l h)
    where
      by : (vs : List Value) → ((v : Value) → IsIn vs v → Stands v × (name_of name v ≡ unhex (map lower digits))) → full_name name vs ≡ Err fault.UnknownObject
      by [] a = refl
      by (w ∷ vs) a = absurd (let f = a w (inl refl) in let g = (value_is_held w n f.0 (s ∙ sym f.1)).0 in let e = sym (ap is_some k) ∙ g in cc e)

  -- ---- the base

  -- a base that isn't 40 digits, by its ref or its digits
  pub by_ref : (x n : Bytes) → false ≡ (list_all is_any_digit x && nat_eq (length x) 40) → Some n ≡ first_named r.refs (ref_names x) → base_value name (history_of r) x ≡ Ok (Named n)
  by_ref x n w e = let f = (ref_found x n e).0 in rw (← w, f.1) (ap Ok (sym f.2))

  pub by_digits : (x : Bytes) → false ≡ (list_all is_any_digit x && nat_eq (length x) 40) → None ≡ first_named r.refs (ref_names x) → true ≡ (list_all is_any_digit x && nat_le 4 (length x) && nat_lt (length x) 40)
      → base_value name (history_of r) x ≡ the_one name (begun x)
  by_digits x w e s = rw (← w, ref_none x e, ← s) refl

  pub by_none : (x : Bytes) → false ≡ (list_all is_any_digit x && nat_eq (length x) 40) → None ≡ first_named r.refs (ref_names x) → false ≡ (list_all is_any_digit x && nat_le 4 (length x) && nat_lt (length x) 40)
      → base_value name (history_of r) x ≡ Err fault.UnknownRef
  by_none x w e s = rw (← w, ref_none x e, ← s) refl

-- 40 digits
pub whole_digits : (x : Bytes) → (list_all is_any_digit x && nat_eq (length x) 40) ≡ true → (list_all is_any_digit x ≡ true) × (length x ≡ 40)
whole_digits x h = let p = and_parts (list_all is_any_digit x) _ h in (p.0, eqb-true _ _ p.1)

-- what a look-up says of the record
pub none_got : (rs : List Record) (n : Bytes) → None ≡ option_map object_of (record_named rs n) → record_named rs n ≡ None
none_got rs n e = by (record_named rs n) refl e
  where
    by : (o : Option Record) → record_named rs n ≡ o → None ≡ option_map object_of o → o ≡ None
    by None k l = refl
    by (Some s) k l = absurd cc

pub some_got : (rs : List Record) (n : Bytes) (o : Kind × Bytes) → Some o ≡ option_map object_of (record_named rs n) → IsTrue (is_some (record_named rs n))
some_got rs n o e = by (record_named rs n) e
  where
    by : (p : Option Record) → Some o ≡ option_map object_of p → IsTrue (is_some p)
    by None l = absurd cc
    by (Some s) l = refl
