-- What digits and refs give in the small history, they give in the whole one.
use Rattle.std.proofs.Common.{◌≡◌, Bool, true, false, cond, List, [], ◌∷◌, ◌++◌, map, Option, None, Some, Result, Ok, Err, refl, sym, ap, subst, ◌∙◌}
use Rattle.std.specs.Prelude.{IfSome, ◌&&◌, ◌||◌, length, nat_eq, nat_le, nat_lt}
use Rattle.std.specs.Bool.{passes}
use Rattle.std.specs.List.{AllByRecursion, filter, fold}
use Rattle.std.specs.Map.{lookup}
use Rattle.std.specs.Option.{option_map, option_or}
use Rattle.std.specs.FinMap.Entries.{by_order, find-put, put}
use Rattle.std.specs.declared.cmp.Ordering.TheVariants.{Less, Equal, Greater}
use Rattle.std.proofs.lemmas.List.Elements.{filter-append}
use Rattle.std.proofs.lemmas.Map.Text.{is_eq-slice_cmp}
use Rattle.gx_model.specs.declared.faults.Fault.{Fault}
use Rattle.gx_model.specs.declared.faults.Fault.TheVariants as fault
use Rattle.gx_model.specs.declared.objects.Kind.{Kind}
use Rattle.gx_model.specs.Texts.{Bytes, byte_cmp, same_bytes}
use Rattle.gx_model.specs.Faults.{◌>>=◌}
use Rattle.gx_model.specs.Histories.Values.{Value, same_value}
use Rattle.gx_model.specs.Histories.{History, Target, at_commit, at_tag, is_in, value_at, with_one}
use Rattle.gx_model.specs.Records.{name_of}
use Rattle.gx_model.specs.Revisions.Denotation.{are_digits, base_value, begins_with_digits, begun_by, find_ref, first_ref, full_name, ref_at, ref_names, the_one}
use Rattle.gx_model.proofs.Histories.SameValues.{value_is}
use Rattle.gx_model.proofs.Replay.NullGitlinks.{all_pass, found}
use Rattle.gx_model.proofs.Texts.TextMaps.{lookup_is, order}
use Rattle.gx_stand_ins.specs.Asked.{IsAlikeBase, IsAlikeRef}
use Rattle.gx_stand_ins.specs.StandIns.{AreNamers, StandIns, ValueKeepsName, whole_target, whole_value}
use Rattle.gx_stand_ins.specs.StandInLaws.{whole_refs, with_refs_set}
use Rattle.gx_stand_ins.proofs.GrownTogether.{AreGrown}
use Rattle.gx_stand_ins.proofs.Leading.{Leads}
use Rattle.gx_stand_ins.proofs.LedRevisions.{IsWholeValue}
use Rattle.gx_stand_ins.proofs.WholeNames.{value_alike}

-- what is found where another is put
pub found_put : {Y : Type 0} (n : Bytes) (y : Y) (ys : List (Bytes × Y)) (q : Bytes) → lookup (same_bytes q) (put byte_cmp n y ys) ≡ cond (same_bytes q n) (Some y) (lookup (same_bytes q) ys)
found_put n y ys q = lookup_is q (put byte_cmp n y ys) ∙ find-put byte_cmp order q n y ys ∙ (λ i. cond (is_eq-slice_cmp q n i) (Some y) (sym (lookup_is q ys) i))

-- ---- values that pass a test

module _ (p : Value → Bool) where
  in_passing : (vs : List Value) (w : Value) → p w ≡ true → is_in (filter p vs) w ≡ is_in vs w
  in_passing [] w e = refl
  in_passing (v ∷ vs) w e =
      elim (p v) as (λ b. p v ≡ b → is_in (cond b (v ∷ filter p vs) (filter p vs)) w ≡ is_in (v ∷ vs) w) [
        | true ↦ λ k. ap (λ b. same_value w v || b) (in_passing vs w e)
        | false ↦ λ k. in_passing vs w e ∙ other (same_value w v) refl k
      ] refl
    where
      other : (b : Bool) → same_value w v ≡ b → p v ≡ false → is_in vs w ≡ (same_value w v || is_in vs w)
      other true k l = let same = value_is w v (passes _ k) in let both : true ≡ false = sym e ∙ ap p same ∙ l in absurd (cc)
      other false k l = ap (λ b. b || is_in vs w) (sym k)

  one_passing : (vs : List Value) (w : Value) → filter p (with_one vs w) ≡ cond (p w) (with_one (filter p vs) w) (filter p vs)
  one_passing vs w = by (p w) refl
    where
      last : (b : Bool) → filter p (cond b vs (vs ++ w ∷ [])) ≡ cond b (filter p vs) (filter p vs ++ filter p (w ∷ []))
      last true = refl
      last false = filter-append p vs (w ∷ [])

      by : (b : Bool) → p w ≡ b → filter p (with_one vs w) ≡ cond b (with_one (filter p vs) w) (filter p vs)
      by true e =
          last (is_in vs w) ∙ ap (λ c. cond (is_in vs w) (filter p vs) (filter p vs ++ cond c (w ∷ []) [])) e
          ∙ ap (λ c. cond c (filter p vs) (filter p vs ++ w ∷ [])) (sym (in_passing vs w e))
      by false e = last (is_in vs w) ∙ ap (λ c. cond (is_in vs w) (filter p vs) (filter p vs ++ cond c (w ∷ []) [])) e ∙ same (is_in vs w)
        where
          none_more : (us : List Value) → us ++ [] ≡ us
          none_more [] = refl
          none_more (u ∷ us) = ap (λ z. u ∷ z) (none_more us)

          same : (c : Bool) → cond c (filter p vs) (filter p vs ++ []) ≡ filter p vs
          same true = refl
          same false = none_more (filter p vs)

  -- what passes among values that are added
  fold_passing : (ws vs : List Value) → filter p (fold with_one vs ws) ≡ fold with_one (filter p vs) (filter p ws)
  fold_passing [] vs = refl
  fold_passing (w ∷ ws) vs =
      fold_passing ws (with_one vs w) ∙ ap (λ us. fold with_one us (filter p ws)) (one_passing vs w)
      ∙ (elim (p w) as (λ b. fold with_one (cond b (with_one (filter p vs) w) (filter p vs)) (filter p ws) ≡ fold with_one (filter p vs) (cond b (w ∷ filter p ws) (filter p ws))) [ true ↦ refl | false ↦ refl ])

module _ (name : Kind → Bytes → Bytes) where
  -- the first stays the first
  first_stays : (ws : List Value) (v : Value) (vs : List Value) → full_name name (fold with_one (v ∷ vs) ws) ≡ Ok v
  first_stays [] v vs = refl
  first_stays (w ∷ ws) v vs =
      elim (is_in (v ∷ vs) w) as (λ b. full_name name (fold with_one (cond b (v ∷ vs) (v ∷ (vs ++ w ∷ []))) ws) ≡ Ok v) [ true ↦ first_stays ws v vs | false ↦ first_stays ws v (vs ++ w ∷ []) ]

module _ (stand name : Kind → Bytes → Bytes) (ins : StandIns) where
  abbrev IsLed : Result Value Fault → Result Value Fault → Type 0
  IsLed = Leads (IsWholeValue stand name ins)

  abbrev Kept : List Value → Type 0
  Kept = AllByRecursion (ValueKeepsName stand name ins)

  abbrev shown : Result Value Fault → Result Value Fault
  shown r = r >>= λ v. Ok (whole_value ins v)

  led_to : (v : Value) (r : Result Value Fault) → ValueKeepsName stand name ins v → r ≡ Ok (whole_value ins v) → IsLed (Ok v) r
  led_to v r h e = subst (IsLed (Ok v)) (sym e) (refl, h)

  -- ---- digits

  full_leads : (a b n : List Value) → Kept (a ++ n) → full_name name b ≡ shown (full_name stand a) → IsLed (full_name stand (a ++ n)) (full_name name (fold with_one b (map (whole_value ins) n)))
  full_leads [] [] [] k e = tt
  full_leads [] [] (v ∷ vs) k e = led_to v _ k.0 (first_stays name (map (whole_value ins) vs) (whole_value ins v) [])
  full_leads [] (b ∷ bs) n k e = absurd (cc)
  full_leads (a ∷ as_) [] n k e = absurd (cc)
  full_leads (a ∷ as_) (b ∷ bs) n k e = led_to a _ k.0 (first_stays name (map (whole_value ins) n) b bs ∙ e)

  one_leads : (a b n : List Value) → Kept (a ++ n) → the_one name b ≡ shown (the_one stand a) → IsLed (the_one stand (a ++ n)) (the_one name (fold with_one b (map (whole_value ins) n)))
  one_leads [] [] [] k e = tt
  one_leads [] [] (v ∷ []) k e = (refl, k.0)
  one_leads [] [] (v ∷ w ∷ vs) k e = tt
  one_leads [] (b ∷ []) n k e = absurd (cc)
  one_leads [] (b ∷ c ∷ bs) n k e = absurd (cc)
  one_leads (a ∷ []) [] n k e = absurd (cc)
  one_leads (a ∷ []) (b ∷ []) [] k e = led_to a _ k.0 e
  one_leads (a ∷ []) (b ∷ []) (v ∷ vs) k e = tt
  one_leads (a ∷ []) (b ∷ c ∷ bs) n k e = absurd (cc)
  one_leads (a ∷ c ∷ as_) b n k e = tt

  module _ (namers : AreNamers stand name) where
    begun_mapped : (x : Bytes) (vs : List Value) → Kept vs
        → filter (λ v. begins_with_digits x (name_of name v)) (map (whole_value ins) vs) ≡ map (whole_value ins) (filter (λ v. begins_with_digits x (name_of stand v)) vs)
    begun_mapped x [] h = refl
    begun_mapped x (v ∷ vs) h =
        ap (λ n. cond (begins_with_digits x n) (whole_value ins v ∷ begun vs) (begun vs)) (sym (value_alike stand name namers ins v h.0))
        ∙ (elim (begins_with_digits x (name_of stand v)) as (λ b. cond b (whole_value ins v ∷ begun vs) (begun vs) ≡ map (whole_value ins) (cond b (v ∷ begun_small vs) (begun_small vs))) [
          | true ↦ ap (λ z. whole_value ins v ∷ z) (begun_mapped x vs h.1)
          | false ↦ begun_mapped x vs h.1
        ])
      where
        begun : List Value → List Value
        begun us = filter (λ u. begins_with_digits x (name_of name u)) (map (whole_value ins) us)

        begun_small : List Value → List Value
        begun_small us = filter (λ u. begins_with_digits x (name_of stand u)) us

    -- the values with these digits, in both
    pub record AreBegun (small whole now after : History) (x : Bytes) : Type 0 where
      pub more : List Value
      pub small_now : begun_by stand now x ≡ begun_by stand small x ++ more
      pub whole_now : begun_by name after x ≡ fold with_one (begun_by name whole x) (map (whole_value ins) more)
      pub kept : Kept (begun_by stand small x ++ more)

    all_right : (us vs : List Value) → Kept (us ++ vs) → Kept vs
    all_right [] vs h = h
    all_right (u ∷ us) vs h = all_right us vs h.1

    pub begun_alike : (small whole now after : History) (x : Bytes) → AreGrown stand name ins small.values whole.values now.values after.values → AreBegun small whole now after x
    begun_alike small whole now after x h =
        let front = ap (filter (λ v. begins_with_digits x (name_of stand v))) h.front ∙ filter-append (λ v. begins_with_digits x (name_of stand v)) small.values h.new in
        record {
          more = filter (λ v. begins_with_digits x (name_of stand v)) h.new;
          small_now = front;
          whole_now = ap (filter (λ v. begins_with_digits x (name_of name v))) h.grown ∙ fold_passing (λ v. begins_with_digits x (name_of name v)) (map (whole_value ins) h.new) whole.values
              ∙ ap (fold with_one (begun_by name whole x)) (begun_mapped x h.new (all_right small.values h.new (subst Kept h.front h.kept)));
          kept = subst Kept front (all_pass (ValueKeepsName stand name ins) _ now.values h.kept);
        }

  -- ---- refs

  abbrev Refs : Type 0
  Refs = List (Bytes × Target)

  abbrev AreAlikeAt : Bytes → Refs → Refs → Type 0
  AreAlikeAt q rs ss = lookup (same_bytes q) ss ≡ option_map (whole_target ins) (lookup (same_bytes q) rs)

  alike_put : (q n : Bytes) (t : Target) (rs ss : Refs) → AreAlikeAt q rs ss → AreAlikeAt q (put byte_cmp n t rs) (put byte_cmp n (whole_target ins t) ss)
  alike_put q n t rs ss e =
      found_put n (whole_target ins t) ss q ∙ ap (cond (same_bytes q n) (Some (whole_target ins t))) e
      ∙ by (same_bytes q n) ∙ ap (option_map (whole_target ins)) (sym (found_put n t rs q))
    where
      by : (b : Bool) → cond b (Some (whole_target ins t)) (option_map (whole_target ins) (lookup (same_bytes q) rs)) ≡ option_map (whole_target ins) (cond b (Some t) (lookup (same_bytes q) rs))
      by true = refl
      by false = refl

  -- a ref that was told alike still is, where the same refs were set
  pub alike_set : (sets rs ss : Refs) (q : Bytes) → AreAlikeAt q rs ss → AreAlikeAt q (with_refs_set rs sets) (with_refs_set ss (whole_refs ins sets))
  alike_set [] rs ss q e = e
  alike_set (r ∷ sets) rs ss q e = alike_set sets (put byte_cmp r.0 r.1 rs) (put byte_cmp r.0 (whole_target ins r.1) ss) q (alike_put q r.0 r.1 rs ss e)

  none_put : (q n : Bytes) (t : Target) (rs : Refs) → lookup (same_bytes q) (put byte_cmp n t rs) ≡ None → lookup (same_bytes q) rs ≡ None
  none_put q n t rs e = by (same_bytes q n) (sym (found_put n t rs q) ∙ e)
    where
      by : (b : Bool) → cond b (Some t) (lookup (same_bytes q) rs) ≡ None → lookup (same_bytes q) rs ≡ None
      by true k = absurd (cc)
      by false k = k

  -- no ref is lost
  none_set : (sets rs : Refs) (q : Bytes) → lookup (same_bytes q) (with_refs_set rs sets) ≡ None → lookup (same_bytes q) rs ≡ None
  none_set [] rs q e = e
  none_set (r ∷ sets) rs q e = none_put q r.0 r.1 rs (none_set sets (put byte_cmp r.0 r.1 rs) q e)

  abbrev RefsKept : Refs → Type 0
  RefsKept rs = AllByRecursion (λ r. ValueKeepsName stand name ins (value_at r.1)) rs

  put_kept : (n : Bytes) (t : Target) (rs : Refs) → ValueKeepsName stand name ins (value_at t) → RefsKept rs → RefsKept (put byte_cmp n t rs)
  put_kept n t [] h k = (h, tt)
  put_kept n t (r ∷ rs) h k =
      elim (byte_cmp n r.0) as (λ o. RefsKept (by_order o ((n, t) ∷ r ∷ rs) ((r.0, t) ∷ rs) (r ∷ put byte_cmp n t rs))) [
        | Less ↦ (h, k)
        | Equal ↦ (h, k.1)
        | Greater ↦ (k.0, put_kept n t rs h k.1)
      ]

  pub set_kept : (sets rs : Refs) → RefsKept sets → RefsKept rs → RefsKept (with_refs_set rs sets)
  set_kept [] rs h k = k
  set_kept (r ∷ sets) rs h k = set_kept sets (put byte_cmp r.0 r.1 rs) h.1 (put_kept r.0 r.1 rs h.0 k)

  -- both histories have refs to which the same were added
  pub record AreSet (small whole now after : History) : Type 0 where
    pub sets : Refs
    pub front : now.refs ≡ with_refs_set small.refs sets
    pub grown : after.refs ≡ with_refs_set whole.refs (whole_refs ins sets)
    pub kept : RefsKept sets

  module _ (small whole now after : History) (h : AreSet small whole now after) where
    pub ref_alike : (q : Bytes) → IsAlikeRef stand name ins small whole q → IsAlikeRef stand name ins now after q
    ref_alike q e =
        subst (λ ss. AreAlikeAt q now.refs ss) (sym h.grown) (subst (λ rs. AreAlikeAt q rs (with_refs_set whole.refs (whole_refs ins h.sets))) (sym h.front) (alike_set h.sets small.refs whole.refs q e))

    pub refs_kept : RefsKept small.refs → RefsKept now.refs
    refs_kept k = subst RefsKept (sym h.front) (set_kept h.sets small.refs h.kept k)

    ref_none : (q : Bytes) → ref_at now q ≡ None → ref_at small q ≡ None
    ref_none q e = none_set h.sets small.refs q (ap (lookup (same_bytes q)) (sym h.front) ∙ e)

    found_alike : (ns : List Bytes) → AllByRecursion (IsAlikeRef stand name ins small whole) ns → first_ref after ns ≡ option_map (whole_target ins) (first_ref now ns)
    found_alike [] k = refl
    found_alike (n ∷ ns) k = (λ i. option_or (ref_alike n k.0 i) (found_alike ns k.1 i)) ∙ either (ref_at now n) (first_ref now ns)
      where
        either : (o p : Option Target) → option_or (option_map (whole_target ins) o) (option_map (whole_target ins) p) ≡ option_map (whole_target ins) (option_or o p)
        either (Some t) p = refl
        either None p = refl

    found_none : (ns : List Bytes) → first_ref now ns ≡ None → first_ref small ns ≡ None
    found_none [] e = refl
    found_none (n ∷ ns) e = by (found_none ns) (ref_at now n) refl e
      where
        by : (first_ref now ns ≡ None → first_ref small ns ≡ None) → (o : Option Target) → ref_at now n ≡ o → option_or o (first_ref now ns) ≡ None → first_ref small (n ∷ ns) ≡ None
        by rest (Some t) k l = absurd (cc)
        by rest None k l = (λ i. option_or (ref_none n k i) (rest l i))

    found_kept : RefsKept now.refs → (ns : List Bytes) → IfSome (first_ref now ns) (λ t. ValueKeepsName stand name ins (value_at t))
    found_kept k [] = tt
    found_kept k (n ∷ ns) = by (ref_at now n) (found (λ t. ValueKeepsName stand name ins (value_at t)) (same_bytes n) now.refs k) (found_kept k ns)
      where
        by : (o : Option Target) → IfSome o (λ t. ValueKeepsName stand name ins (value_at t)) → IfSome (first_ref now ns) (λ t. ValueKeepsName stand name ins (value_at t)) → IfSome (option_or o (first_ref now ns)) (λ t. ValueKeepsName stand name ins (value_at t))
        by (Some t) l m = l
        by None l m = m

    target_value : (t : Target) → value_at (whole_target ins t) ≡ whole_value ins (value_at t)
    target_value (at_commit c) = refl
    target_value (at_tag t) = refl

    -- the base of a revision
    module _ (namers : AreNamers stand name) (grown : AreGrown stand name ins small.values whole.values now.values after.values) (kept : RefsKept small.refs) (x : Bytes) (asked : IsAlikeBase stand name ins small whole x) where
      begun : AreBegun namers small whole now after x
      begun = begun_alike namers small whole now after x grown

      abbrev by_ref : Option Target → Result Value Fault → Result Value Fault
      by_ref o rest = elim o [ Some t ↦ Ok (value_at t) | None ↦ rest ]

      whole_digits : full_name name (begun_by name whole x) ≡ shown (full_name stand (begun_by stand small x)) → IsLed (full_name stand (begun_by stand now x)) (full_name name (begun_by name after x))
      whole_digits e =
          subst (λ vs. IsLed (full_name stand vs) (full_name name (begun_by name after x))) (sym begun.small_now)
          (subst (λ vs. IsLed (full_name stand (begun_by stand small x ++ begun.more)) (full_name name vs)) (sym begun.whole_now)
          (full_leads (begun_by stand small x) (begun_by name whole x) begun.more begun.kept e))

      some_digits : (b : Bool) → cond b (the_one name (begun_by name whole x)) (Err fault.UnknownRef) ≡ shown (cond b (the_one stand (begun_by stand small x)) (Err fault.UnknownRef))
          → IsLed (cond b (the_one stand (begun_by stand now x)) (Err fault.UnknownRef)) (cond b (the_one name (begun_by name after x)) (Err fault.UnknownRef))
      some_digits false e = tt
      some_digits true e =
          subst (λ vs. IsLed (the_one stand vs) (the_one name (begun_by name after x))) (sym begun.small_now)
          (subst (λ vs. IsLed (the_one stand (begun_by stand small x ++ begun.more)) (the_one name vs)) (sym begun.whole_now)
          (one_leads (begun_by stand small x) (begun_by name whole x) begun.more begun.kept e))

      abbrev is_short : Bool
      is_short = are_digits name x && nat_le 4 (length x) && nat_lt (length x) 40

      abbrev short_small : History → Result Value Fault
      short_small h = cond is_short (the_one stand (begun_by stand h x)) (Err fault.UnknownRef)

      abbrev short_whole : History → Result Value Fault
      short_whole h = cond is_short (the_one name (begun_by name h x)) (Err fault.UnknownRef)

      no_digits : by_ref (find_ref whole x) (short_whole whole) ≡ shown (by_ref (find_ref small x) (short_small small)) → (o : Option Target) → find_ref now x ≡ o → IfSome o (λ t. ValueKeepsName stand name ins (value_at t))
          → IsLed (by_ref o (short_small now)) (by_ref (option_map (whole_target ins) o) (short_whole after))
      no_digits e (Some t) k l = (target_value t, l)
      no_digits e None k l =
          let small_none : find_ref small x ≡ None = found_none (ref_names x) k in
          let whole_none : find_ref whole x ≡ None = first_alike (ref_names x) asked.refs ∙ ap (option_map (whole_target ins)) small_none in
          some_digits is_short (ap (λ o. by_ref o (short_whole whole)) (sym whole_none) ∙ e ∙ ap (λ o. shown (by_ref o (short_small small))) small_none)
        where
          first_alike : (ns : List Bytes) → AllByRecursion (IsAlikeRef stand name ins small whole) ns → first_ref whole ns ≡ option_map (whole_target ins) (first_ref small ns)
          first_alike [] h = refl
          first_alike (n ∷ ns) h = (λ i. option_or (h.0 i) (first_alike ns h.1 i)) ∙ either (ref_at small n) (first_ref small ns)
            where
              either : (o p : Option Target) → option_or (option_map (whole_target ins) o) (option_map (whole_target ins) p) ≡ option_map (whole_target ins) (option_or o p)
              either (Some t) p = refl
              either None p = refl

      by_digits : (b : Bool) → cond b (full_name name (begun_by name whole x)) (by_ref (find_ref whole x) (short_whole whole)) ≡ shown (cond b (full_name stand (begun_by stand small x)) (by_ref (find_ref small x) (short_small small)))
          → IsLed (cond b (full_name stand (begun_by stand now x)) (by_ref (find_ref now x) (short_small now))) (cond b (full_name name (begun_by name after x)) (by_ref (find_ref after x) (short_whole after)))
      by_digits true e = whole_digits e
      by_digits false e =
          subst (λ o. IsLed (by_ref (find_ref now x) (short_small now)) (by_ref o (short_whole after))) (sym (found_alike (ref_names x) asked.refs))
          (no_digits e (find_ref now x) refl (found_kept (refs_kept kept) (ref_names x)))

      pub base_leads : IsLed (base_value stand now x) (base_value name after x)
      base_leads = by_digits (are_digits name x && nat_eq (length x) 40) asked.value
