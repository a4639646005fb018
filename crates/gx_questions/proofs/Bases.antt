-- What a base gives: by its 40 digits, by a ref, or by digits that begin a name.
use Rattle.std.proofs.Common.{◌≡◌, ℕ, suc, ◌+◌, Bool, true, false, cond, Option, None, Some, Ok, Err, List, [], ◌∷◌, map, length, refl, sym, ap, subst, ◌∙◌, inl, eq-eqb, arith}
use Rattle.std.specs.Prelude.{IfSome, IsTrue, ◌&&◌, is_some, not, nat_eq, nat_lt}
use Rattle.std.specs.List.{list_all, position_or_len}
use Rattle.std.specs.Option.{option_map}
use Rattle.std.proofs.lemmas.Bool.Decides.{nat_tests}
use Rattle.std.proofs.lemmas.Bool.{and_from, and_parts, eqb-true}
use Rattle.gx_model.specs.declared.faults.Fault.TheVariants as fault
use Rattle.gx_model.specs.declared.objects.Kind.{Kind}
use Rattle.gx_model.specs.Texts.{Bytes, same_bytes}
use Rattle.gx_model.specs.Texts.Digits.{is_any_digit, lower}
use Rattle.gx_model.specs.Faults.{Given}
use Rattle.gx_model.specs.Histories.{IsIn, Record, Records, record_of}
use Rattle.gx_model.specs.Histories.Values.{Value}
use Rattle.gx_model.specs.Objects.{IsNamer, unhex}
use Rattle.gx_model.specs.Objects.Naming.{name_in}
use Rattle.gx_model.specs.Records.{name_of}
use Rattle.gx_model.specs.Records.Growth.{record_named}
use Rattle.gx_model.specs.Records.HistoryOf.{history_of}
use Rattle.gx_model.specs.Records.Sound.{IsSound}
use Rattle.gx_model.specs.Revisions.Denotation.{base_value, begun_by, the_one}
use Rattle.gx_model.proofs.Records.FoundRecords.{digits_find}
use Rattle.gx_model.proofs.Records.HeldPlaces.{held_place}
use Rattle.gx_model.proofs.Revisions.Bases.{begun_stands, by_digits, by_none, by_ref, full_found, full_none, name_written, ref_found, value_is_held, whole_digits}
use Rattle.gx_object.specs.declared.name.Name.{Name}
use Rattle.gx_objects.specs.Answers.{FindsBegun, FindsRef, StandsThere}
use Rattle.gx_rev.specs.Bases.{is_abbreviation, is_full_name}
use Rattle.gx_rev.specs.Objects.{IsHeld, value_at}
use Rattle.gx_store.specs.Prefixes.{prefix_of}
use Rattle.gx_store.specs.Stores.{place_named}
use Rattle.gx_store.specs.declared.prefix.Prefix.{Prefix}
use Rattle.gx_store.specs.declared.prefix.Prefix.TheVariants as prefix
use Rattle.gx_questions.specs.Answers.{IfTold}
use Rattle.gx_questions.proofs.Found.{Sound}

-- ---- 40 digits

-- what writes a name is 40 digits
full_of : (x n : Bytes) → Some n ≡ name_in x → (list_all is_any_digit x ≡ true) × (length x ≡ 40)
unfolding name_in
full_of x n e = by (nat_eq (length x) 40 && list_all is_any_digit x) refl e
  where
    by : (b : Bool) → (nat_eq (length x) 40 && list_all is_any_digit x) ≡ b → Some n ≡ cond b (Some (unhex (map lower x))) None → (list_all is_any_digit x ≡ true) × (length x ≡ 40)
    by true f g = let p = and_parts (nat_eq (length x) 40) _ f in (p.1, eqb-true _ _ p.0)
    by false f g = absurd cc

full_is : (x n : Bytes) → Some n ≡ name_in x → n ≡ unhex (map lower x)
full_is x n e =
    let w = full_of x n e in
    let k : Some n ≡ Some (unhex (map lower x)) = e ∙ name_written x w.1 w.0 in
    cc k

-- and 40 digits write one
pub not_full : (x : Bytes) → None ≡ name_in x → false ≡ is_full_name x
not_full x e = by (is_full_name x) refl
  where
    by : (b : Bool) → is_full_name x ≡ b → false ≡ b
    by true f =
        let w = whole_digits x f in
        let k : None ≡ Some (unhex (map lower x)) = e ∙ name_written x w.1 w.0 in
        cc k
    by false f = refl

is_full : (x n : Bytes) → Some n ≡ name_in x → is_full_name x ≡ true
is_full x n e = let w = full_of x n e in and_from _ _ w.0 (passes_eq w.1)
  where
    passes_eq : length x ≡ 40 → nat_eq (length x) 40 ≡ true
    passes_eq = eq-eqb (length x) 40

less : (a b : ℕ) → nat_lt (1 + a) (suc b) ≡ true → nat_lt a b ≡ true
less a b h = grind (arith, nat_tests)

-- what has a place is there
there : (n : Bytes) (rs : List Record) → nat_lt (position_or_len (λ held. same_bytes n held.name) rs) (length rs) ≡ true → IsTrue (is_some (record_named rs n))
there n [] e = absurd (cc e)
there n (r ∷ rs) e = by (same_bytes n r.name) e (there n rs)
  where
    by : (b : Bool) → nat_lt (cond (not b) (1 + position_or_len (λ held. same_bytes n held.name) rs) 0) (suc (length rs)) ≡ true
        → (nat_lt (position_or_len (λ held. same_bytes n held.name) rs) (length rs) ≡ true → IsTrue (is_some (record_named rs n))) → IsTrue (is_some (cond b (Some r) (record_named rs n)))
    by true f rest = refl
    by false f rest = rest (less (position_or_len (λ held. same_bytes n held.name) rs) (length rs) f)

placed : (n : Bytes) (rs : List Record) (stands : ℕ → ℕ) (place : ℕ) → Some place ≡ option_map stands (place_named rs n) → IsTrue (is_some (record_named rs n))
placed n rs stands place e = there n rs (by _ _ e)
  where
    by : (c : Bool) (i : ℕ) → Some place ≡ option_map stands (cond c (Some i) None) → c ≡ true
    by true i f = refl
    by false i f = absurd cc

module _ (name : Kind → Bytes → Bytes) (namer : IsNamer name) where
  abbrev Base : Option Records → Bytes → Name → Type 0
  Base told x n = IfSome told (λ r. base_value name (history_of r) x ≡ Ok (value_at r n)) × IfTold told IsHeld n

  pub by_name : (told : Option Records) (x : Bytes) (n : Name) (stands : ℕ → ℕ) (place : ℕ) → Sound name namer told → Some n.bytes ≡ name_in x → IfSome told (λ r. StandsThere stands n.bytes r (Some place)) → Base told x n
  by_name None x n stands place s e f = (tt, tt)
  by_name (Some r) x n stands place s e f =
      let w = full_of x n.bytes e in
      let h = placed n.bytes r.records stands place f in
      (rw (is_full x n.bytes e) (full_found name namer r s x n.bytes w.1 w.0 (full_is x n.bytes e) h), h)

  -- what has none isn't
  unplaced : (r : Records) → IsSound name r → (n : Bytes) (stands : ℕ → ℕ) → None ≡ option_map stands (place_named r.records n) → record_named r.records n ≡ None
  unplaced r s n stands e = by (record_named r.records n) refl
    where
      by : (o : Option Record) → record_named r.records n ≡ o → o ≡ None
      by None f = refl
      by (Some held) f =
          let p = held_place name namer r s n (subst (λ o. IsTrue (is_some o)) (sym f) refl) in
          let q : None ≡ Some (stands p.0) = e ∙ ap (option_map stands) p.1 in
          absurd (cc q)

  pub by_no_name : (told : Option Records) (x : Bytes) (n : Name) (stands : ℕ → ℕ) → Sound name namer told → Some n.bytes ≡ name_in x → IfSome told (λ r. StandsThere stands n.bytes r None)
      → IfSome told (λ r. base_value name (history_of r) x ≡ Err fault.UnknownObject)
  by_no_name None x n stands s e f = tt
  by_no_name (Some r) x n stands s e f =
      let w = full_of x n.bytes e in
      rw (is_full x n.bytes e) (full_none name namer r s x n.bytes w.1 w.0 (full_is x n.bytes e) (unplaced r s n.bytes stands f))

  -- ---- refs

  pub by_its_ref : (told : Option Records) (x : Bytes) (n : Name) → Sound name namer told → None ≡ name_in x → IfSome told (λ r. FindsRef x r (Some n)) → Base told x n
  by_its_ref None x n s e f = (tt, tt)
  by_its_ref (Some r) x n s e f = (by_ref name namer r s x n.bytes (not_full x e) f, (ref_found name namer r s x n.bytes f).1)

  -- ---- digits

  pub by_its_digits : (told : Option Records) (x : Bytes) → Sound name namer told → None ≡ name_in x → IfSome told (λ r. FindsRef x r None) → true ≡ is_abbreviation x
      → IfSome told (λ r. base_value name (history_of r) x ≡ the_one name (begun_by name (history_of r) x))
  by_its_digits None x s e f a = tt
  by_its_digits (Some r) x s e f a = by_digits name namer r s x (not_full x e) f a

  pub by_nothing : (told : Option Records) (x : Bytes) → Sound name namer told → None ≡ name_in x → IfSome told (λ r. FindsRef x r None) → false ≡ is_abbreviation x
      → IfSome told (λ r. base_value name (history_of r) x ≡ Err fault.UnknownRef)
  by_nothing None x s e f a = tt
  by_nothing (Some r) x s e f a = by_none name namer r s x (not_full x e) f a

  -- what a prefix says of the values that it begins
  abbrev pub PrefixTells : Records → Prefix → List Value → Type 0
  PrefixTells r (prefix.Unique n) vs = (the_one name vs ≡ Ok (value_at r n)) × IsHeld r n
  PrefixTells r prefix.Absent vs = the_one name vs ≡ Err fault.UnknownRef
  PrefixTells r prefix.Ambiguous vs = the_one name vs ≡ Err fault.Ambiguous

  tells : (r : Records) → IsSound name r → (vs : List Value) → ((v : Value) → IsIn vs v → IsIn (history_of r).values v) → PrefixTells r (prefix_of (map (record_of name) vs)) vs
  tells r s [] k = refl
  tells r s (v ∷ []) k = let h = value_is_held name namer r s v (name_of name v) (k v (inl refl)) refl in (ap Ok (sym h.1), h.0)
  tells r s (v ∷ w ∷ vs) k = refl

  digits_tell : (r : Records) → IsSound name r → (x : Bytes) (p : Prefix) → FindsBegun x r p → PrefixTells r p (begun_by name (history_of r) x)
  digits_tell r s x p f =
      let vs = begun_by name (history_of r) x in
      subst (λ q. PrefixTells r q vs) (sym (f ∙ ap prefix_of (sym (digits_find name namer r s x)))) (tells r s vs (begun_stands name namer r s x))

  abbrev pub Digits : Option Records → Bytes → Given Value → Type 0
  Digits told x given = IfSome told (λ r. the_one name (begun_by name (history_of r) x) ≡ given)

  pub unique_is : (told : Option Records) (x : Bytes) (n : Name) → Sound name namer told → IfSome told (λ r. FindsBegun x r (prefix.Unique n))
      → IfSome told (λ r. the_one name (begun_by name (history_of r) x) ≡ Ok (value_at r n)) × IfTold told IsHeld n
  unique_is None x n s f = (tt, tt)
  unique_is (Some r) x n s f = digits_tell r s x (prefix.Unique n) f

  pub absent_is : (told : Option Records) (x : Bytes) → Sound name namer told → IfSome told (λ r. FindsBegun x r prefix.Absent) → Digits told x (Err fault.UnknownRef)
  absent_is None x s f = tt
  absent_is (Some r) x s f = digits_tell r s x prefix.Absent f

  pub ambiguous_is : (told : Option Records) (x : Bytes) → Sound name namer told → IfSome told (λ r. FindsBegun x r prefix.Ambiguous) → Digits told x (Err fault.Ambiguous)
  ambiguous_is None x s f = tt
  ambiguous_is (Some r) x s f = digits_tell r s x prefix.Ambiguous f
