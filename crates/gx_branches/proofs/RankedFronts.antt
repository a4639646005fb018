-- Commits with numbers: what they reach, and how numbers are handed down.
use Rattle.std.proofs.Common.{◌≡◌, ℕ, suc, ◌-◌, ◌<◌, ◌≤◌, min, Bool, true, false, cond, refl, sym, ap, subst, ◌∙◌, arith, List, [], ◌∷◌, ◌++◌, length, Option, Some, None, inl, inr, ◌⊎◌}
use Rattle.std.specs.Prelude.{IsTrue, IsSome, IfSome, ◌↔◌, nat_lt, ◌&&◌, ◌||◌}
use Rattle.std.specs.List.{All, AllByRecursion, filter, slice_get}
use Rattle.std.specs.List.Sorted.{IsStrictlySortedBy}
use Rattle.std.specs.Ordering.{is_lt, nat_cmp, match_ordering}
use Rattle.std.specs.declared.cmp.Ordering.TheVariants.{Less, Equal, Greater}
use Rattle.std.specs.BTreeMap.{insert_entry, is_at}
use Rattle.std.specs.BTreeMap.Range.{IsLtBy}
use Rattle.std.specs.Map.{keys_of, lookup}
use Rattle.std.proofs.lemmas.Bool.{and_from, le-ltb, lt-ltb, ltb-false, ltb-true}
use Rattle.std.proofs.lemmas.Bool.Decides.{nat_tests}
use Rattle.std.proofs.lemmas.List.{map-append}
use Rattle.std.proofs.lemmas.List.Elements.{recursion_from_All}
use Rattle.gx_model.specs.declared.objects.Kind.{Kind}
use Rattle.gx_model.specs.Histories.{Records}
use Rattle.gx_model.specs.Histories.Marks.{IsAt}
use Rattle.gx_model.specs.Histories.Values.{Commit, commit_value}
use Rattle.gx_model.specs.Objects.{IsNamer}
use Rattle.gx_model.specs.Records.Sound.{IsSound}
use Rattle.gx_model.specs.Revisions.Ranges.{reaches, some_reaches}
use Rattle.gx_model.specs.Texts.{Bytes}
use Rattle.gx_model.proofs.Histories.ReachedCommits.{itself}
use Rattle.gx_model.proofs.Records.Standing.{same_place}
use Rattle.gx_model.proofs.Texts.PathTests.{is_true}
use Rattle.gx_object.specs.declared.name.Name.{Name}
use Rattle.gx_objects.specs.Answers.{GoesUp}
use Rattle.gx_ranges.specs.Fronts.{Adds, AreBelow, AreTips, IsTip, lead_to}
use Rattle.gx_ranges.proofs.Reached.{by_parents, one_commit, or_either, or_first, or_joined, or_none, or_second, reached_before, reaches_by, same_tests, true_or_false}
use Rattle.gx_ranges.proofs.Tips.{all_last, below_inserted, last_leads, not_behind, number_of, one_number, one_tip, tips_inserted}
use Rattle.gx_rev.specs.Objects.{commit_at, parents_at}
use Rattle.gx_branches.specs.Ranks.{AreRanked, HandsDown, IsRank, Lowers, Ranked, TakesBehind, all_unranked, lead_below, rank_or, rank_there, unranked}

-- ---- numbers

both : (a b : Bool) → IsTrue (a && b) → IsTrue a × IsTrue b
both true b h = (refl, h)
both false b h = absurd cc

of_least : (a b n : ℕ) → IsTrue (nat_lt (min a b) n) → IsTrue (nat_lt a n) ⊎ IsTrue (nat_lt b n)
of_least a b n h = elim (true_or_false (nat_lt a n)) [
  | inl t ↦ inl t
  | inr f ↦ inr (let l = ltb-true (min a b) n h in let k = ltb-false a n f in lt-ltb b n (omega (arith, l, k)))
]

least_first : (a b n : ℕ) → IsTrue (nat_lt a n) → IsTrue (nat_lt (min a b) n)
least_first a b n h = let l = ltb-true a n h in lt-ltb (min a b) n (omega (arith, l))

least_second : (a b n : ℕ) → IsTrue (nat_lt b n) → IsTrue (nat_lt (min a b) n)
least_second a b n h = let l = ltb-true b n h in lt-ltb (min a b) n (omega (arith, l))

-- ---- places

at_place : (k x : ℕ) → is_at (nat_cmp k) x ≡ true → k ≡ x
at_place k x e = grind (arith, nat_tests)

equal_there : (k x : ℕ) → nat_cmp k x ≡ Equal → is_at (nat_cmp k) x ≡ true
equal_there k x e = grind (arith, nat_tests)

greater_elsewhere : (k x : ℕ) → nat_cmp k x ≡ Greater → is_at (nat_cmp k) x ≡ false
greater_elsewhere k x e = grind (arith, nat_tests)

not_after : (k y : ℕ) → nat_cmp k y ≡ Less → y < suc k → ⊥
not_after k y e l = grind (arith, nat_tests)

before_other : (k x : ℕ) → is_at (nat_cmp k) x ≡ false → x < suc k → x < k
before_other k x e l = grind (arith, nat_tests)

-- nothing stands behind the last one
nothing_after : (k x : ℕ) (xs : List Ranked) → k ≡ x → AllByRecursion (λ y. nat_cmp x y ≡ Less) (keys_of xs) → AreBelow (suc k) (all_unranked xs) → xs ≡ []
nothing_after k x [] e h b = refl
nothing_after k x (y ∷ ys) e h b = absurd (not_after x y.0 h.0 (let l = b.0 in omega (arith, e, l)))

-- keys below one are places below it
pub below_keys : (k : ℕ) (xs : List Ranked) → AllByRecursion (λ q. IsLtBy nat_cmp q k) (keys_of xs) → AreBelow k (all_unranked xs)
below_keys k [] h = tt
below_keys k (x ∷ xs) h = ((let l = h.0 in grind (arith, nat_tests)), below_keys k xs h.1)

-- no key is above one
pub below_last : (k : ℕ) (last : ℕ) (xs : List Ranked) → last ≤ k → AllByRecursion (λ q. is_lt (nat_cmp last q) ≡ false) (keys_of xs) → AreBelow (suc k) (all_unranked xs)
below_last k last [] l h = tt
below_last k last (x ∷ xs) l h = ((let e = h.0 in grind (arith, nat_tests)), below_last k last xs l h.1)

last_there : (xs : List Ranked) (p : Ranked) → slice_get (xs ++ p ∷ []) (length (xs ++ p ∷ []) - 1) ≡ Some p
last_there [] p = refl
last_there (x ∷ []) p = refl
last_there (x ∷ y ∷ ys) p =
    let e : length (x ∷ y ∷ ys ++ p ∷ []) - 1 ≡ suc (length (y ∷ ys ++ p ∷ []) - 1) = omega arith in
    ap (slice_get (x ∷ y ∷ ys ++ p ∷ [])) e ∙ last_there (y ∷ ys) p

-- the last one is taken out
pub last_popped : (place : ℕ) (old new : List Ranked) (last : Ranked) (popped : Option Ranked) → slice_get old (length old - 1) ≡ Some last → place < last.0
    → IsSome popped ↔ (0 < length old) → IfSome popped (λ p. old ≡ new ++ p ∷ []) → IfSome popped (λ p. All (λ q. IsLtBy nat_cmp q p.0) (keys_of new)) → TakesBehind place old new popped
last_popped place [] new last popped e l v was low = absurd cc
last_popped place (x ∷ xs) new last None e l v was low = absurd (let f : false ≡ true = v.1 (omega arith) in cc f)
last_popped place (x ∷ xs) new last (Some p) e l v was low =
    let there : Some p ≡ Some last = sym (last_there new p) ∙ ap (λ ys. slice_get ys (length ys - 1)) (sym was) ∙ e in
    let same : p ≡ last = cc there in
    (subst (λ q. place < q.0) (sym same) l, was, below_keys p.0 new (recursion_from_All (λ q. IsLtBy nat_cmp q p.0) (keys_of new) low))

all_front : (P : ℕ → Type 0) (xs : List Ranked) (k : Ranked) → AllByRecursion P (keys_of (xs ++ k ∷ [])) → AllByRecursion P (keys_of xs)
all_front P [] k h = tt
all_front P (x ∷ xs) k h = (h.0, all_front P xs k h.1)

sorted_front : (xs : List Ranked) (k : Ranked) → IsStrictlySortedBy nat_cmp (keys_of (xs ++ k ∷ [])) → IsStrictlySortedBy nat_cmp (keys_of xs)
unfolding IsStrictlySortedBy
sorted_front [] k h = tt
sorted_front (x ∷ xs) k h = (all_front (λ y. nat_cmp x.0 y ≡ Less) xs k h.0, sorted_front xs k h.1)

-- without numbers it is the insertion of a commit
unranked_inserted : (p : ℕ) (n : Name) (v : ℕ) (xs : List Ranked) → all_unranked (insert_entry nat_cmp xs p (n, v)) ≡ insert_entry nat_cmp (all_unranked xs) p n
unranked_inserted p n v [] = refl
unranked_inserted p n v (x ∷ xs) =
    elim (nat_cmp p x.0) as (λ o. all_unranked (match_ordering o ((p, (n, v)) ∷ x ∷ xs) ((x.0, (n, v)) ∷ xs) (x ∷ insert_entry nat_cmp xs p (n, v)))
    ≡ match_ordering o ((p, n) ∷ unranked x ∷ all_unranked xs) ((x.0, n) ∷ all_unranked xs) (unranked x ∷ insert_entry nat_cmp (all_unranked xs) p n)) [
      | Less ↦ refl
      | Equal ↦ refl
      | Greater ↦ ap (λ ys. unranked x ∷ ys) (unranked_inserted p n v xs)
    ]

pub below_lowered : (limit p v : ℕ) (n : Name) (xs new : List Ranked) → new ≡ insert_entry nat_cmp xs p (n, v) → p < limit → AreBelow limit (all_unranked xs) → AreBelow limit (all_unranked new)
below_lowered limit p v n xs new e l h = subst (AreBelow limit) (sym (ap all_unranked e ∙ unranked_inserted p n v xs)) (below_inserted limit p n (all_unranked xs) l h)

pub unranked_last : (xs : List Ranked) (k : Ranked) → all_unranked (xs ++ k ∷ []) ≡ all_unranked xs ++ unranked k ∷ []
unranked_last xs k = map-append unranked xs (k ∷ [])

-- ---- what they reach

module _ (r : Records) where
  -- whether one of these with a number below a limit reaches a commit
  abbrev leads_by : Ranked → ℕ → Commit → Bool
  leads_by x limit d = nat_lt x.1.1 limit && reaches (commit_at r x.1.0) d

  leads_on : (x : Ranked) (xs : List Ranked) (limit : ℕ) (d : Commit) → lead_below r (x ∷ xs) limit d ≡ (leads_by x limit d || lead_below r xs limit d)
  leads_on x xs limit d =
      elim (nat_lt x.1.1 limit) as (λ b. lead_to r (all_unranked (cond b (x ∷ filter (λ y. nat_lt y.1.1 limit) xs) (filter (λ y. nat_lt y.1.1 limit) xs))) d
      ≡ ((b && reaches (commit_at r x.1.0) d) || lead_below r xs limit d)) [
        | true ↦ refl
        | false ↦ refl
      ]

  pub leads_last : (xs : List Ranked) (k : Ranked) (limit : ℕ) (d : Commit) → lead_below r (xs ++ k ∷ []) limit d ≡ (lead_below r xs limit d || leads_by k limit d)
  leads_last [] k limit d = leads_on k [] limit d ∙ or_none (leads_by k limit d)
  leads_last (x ∷ xs) k limit d =
      leads_on x (xs ++ k ∷ []) limit d ∙ ap (λ b. leads_by x limit d || b) (leads_last xs k limit d)
      ∙ sym (or_joined (leads_by x limit d) (lead_below r xs limit d) (leads_by k limit d)) ∙ ap (λ b. b || leads_by k limit d) (sym (leads_on x xs limit d))

-- what those that are left reach is still to be handed a number
pub record AreHanded (stands : ℕ → ℕ) (test : Commit → Bool) (rank : ℕ) (left : List (ℕ × Name)) (old new : List Ranked) (r : Records) : Type 0 where
  pub ranked : AreRanked stands new r
  pub tips : AreTips stands left r
  pub leads : (limit : ℕ) (d : Commit) → (lead_below r new limit d || (nat_lt rank limit && lead_to r left d)) ≡ (lead_below r old limit d || (nat_lt rank limit && test d))

module _ (name : Kind → Bytes → Bytes) (namer : IsNamer name) (r : Records) (sound : IsSound name r) (stands : ℕ → ℕ) (order : GoesUp stands (length r.records)) where
  -- ---- one commit more

  -- both are the commit at a place
  same_reach : (p x : ℕ) (n m : Name) (d : Commit) → p ≡ x → IsTip stands r (p, n) → IsTip stands r (x, m) → reaches (commit_at r n) d ≡ reaches (commit_at r m) d
  same_reach p x n m d e t s = ap (λ c. reaches c d) (one_tip name namer r sound stands order p n m t (subst (λ q. IsTip stands r (q, m)) (sym e) s))

  -- the number that stands at a place was handed to the commit there
  was_handed : (p rank : ℕ) (n : Name) (xs : List Ranked) (limit : ℕ) (d : Commit) → IsTip stands r (p, n) → AreTips stands (all_unranked xs) r
      → IsTrue (nat_lt (rank_there xs p rank) limit) → IsTrue (reaches (commit_at r n) d) → IsTrue (lead_below r xs limit d) ⊎ IsTrue (nat_lt rank limit)
  was_handed p rank n [] limit d t ts h k = inr h
  was_handed p rank n (x ∷ xs) limit d t ts h k = by (λ g. was_handed p rank n xs limit d t ts.1 g k) (is_at (nat_cmp p) x.0) refl h
    where
      by : (IsTrue (nat_lt (rank_there xs p rank) limit) → IsTrue (lead_below r xs limit d) ⊎ IsTrue (nat_lt rank limit))
          → (b : Bool) → is_at (nat_cmp p) x.0 ≡ b → IsTrue (nat_lt (rank_or rank (cond b (Some x.1) (lookup (is_at (nat_cmp p)) xs))) limit)
          → IsTrue (lead_below r (x ∷ xs) limit d) ⊎ IsTrue (nat_lt rank limit)
      by rest true e g =
          let here = sym (same_reach p x.0 n x.1.0 d (at_place p x.0 e) t ts.0) ∙ k in
          inl (leads_on r x xs limit d ∙ or_first (leads_by r x limit d) (lead_below r xs limit d) (and_from _ _ g here))
      by rest false e g = elim (rest g) [
        | inl a ↦ inl (leads_on r x xs limit d ∙ or_second (leads_by r x limit d) (lead_below r xs limit d) a)
        | inr a ↦ inr a
      ]

  -- what a commit in front of others reaches with the lower number
  module _ (p rank : ℕ) (n : Name) (x : Ranked) (xs : List Ranked) (limit : ℕ) (d : Commit) (t : IsTip stands r (p, n)) (ts : AreTips stands (all_unranked (x ∷ xs)) r) where
    abbrev least : ℕ
    least = min (rank_there (x ∷ xs) p rank) rank

    abbrev handed : Bool
    handed = nat_lt least limit && reaches (commit_at r n) d

    abbrev whole : Bool
    whole = lead_below r (x ∷ xs) limit d

    abbrev added : Bool
    added = nat_lt rank limit && reaches (commit_at r n) d

    handed_up : IsTrue handed → IsTrue (whole || added)
    handed_up h =
        let two = both _ _ h in
        let again : IsTrue (nat_lt rank limit) → IsTrue (whole || added) = λ a. or_second whole added (and_from _ _ a two.1) in
        elim (of_least (rank_there (x ∷ xs) p rank) rank limit two.0) [
          | inl a ↦ elim (was_handed p rank n (x ∷ xs) limit d t ts a two.1) [ inl b ↦ or_first whole added b | inr b ↦ again b ]
          | inr a ↦ again a
        ]

    handed_back : IsTrue added → IsTrue handed
    handed_back h = let two = both _ _ h in and_from _ _ (least_second (rank_there (x ∷ xs) p rank) rank limit two.0) two.1

    put_before : (handed || whole) ≡ (whole || added)
    put_before = same_tests _ _
        (λ h. elim (or_either handed whole h) [ inl a ↦ handed_up a | inr a ↦ or_first whole added a ])
        (λ h. elim (or_either whole added h) [ inl a ↦ or_second handed whole a | inr a ↦ or_first handed whole (handed_back a) ])

    put_there : nat_cmp p x.0 ≡ Equal → (handed || lead_below r xs limit d) ≡ (whole || added)
    put_there e = same_tests _ _
        (λ h. elim (or_either handed rest h) [ inl a ↦ handed_up a | inr a ↦ or_first whole added (leads_on r x xs limit d ∙ or_second (leads_by r x limit d) rest a) ])
        (λ h. elim (or_either whole added h) [
          | inl a ↦ elim (or_either (leads_by r x limit d) rest (sym (leads_on r x xs limit d) ∙ a)) [ inl b ↦ or_first handed rest (of_it (both _ _ b)) | inr b ↦ or_second handed rest b ]
          | inr a ↦ or_first handed rest (handed_back a)
        ])
      where
        rest : Bool
        rest = lead_below r xs limit d

        there : is_at (nat_cmp p) x.0 ≡ true
        there = equal_there p x.0 e

        is_its : rank_there (x ∷ xs) p rank ≡ x.1.1
        is_its = ap (λ b. rank_or rank (cond b (Some x.1) (lookup (is_at (nat_cmp p)) xs))) there

        of_it : IsTrue (nat_lt x.1.1 limit) × IsTrue (reaches (commit_at r x.1.0) d) → IsTrue handed
        of_it h = and_from _ _ (least_first (rank_there (x ∷ xs) p rank) rank limit (ap (λ m. nat_lt m limit) is_its ∙ h.0)) (same_reach p x.0 n x.1.0 d (at_place p x.0 there) t ts.0 ∙ h.1)

  leads_lowered : (p rank : ℕ) (n : Name) (xs : List Ranked) (limit : ℕ) (d : Commit) → IsTip stands r (p, n) → AreTips stands (all_unranked xs) r
      → lead_below r (insert_entry nat_cmp xs p (n, min (rank_there xs p rank) rank)) limit d ≡ (lead_below r xs limit d || (nat_lt rank limit && reaches (commit_at r n) d))
  leads_lowered p rank n [] limit d t ts =
      let e : min rank rank ≡ rank = omega arith in
      leads_on r (p, (n, min rank rank)) [] limit d ∙ or_none _ ∙ ap (λ m. nat_lt m limit && reaches (commit_at r n) d) e
  leads_lowered p rank n (x ∷ xs) limit d t ts =
      elim (nat_cmp p x.0) as (λ o. nat_cmp p x.0 ≡ o → lead_below r (match_ordering o ((p, (n, low)) ∷ x ∷ xs) ((x.0, (n, low)) ∷ xs) (x ∷ insert_entry nat_cmp xs p (n, low))) limit d ≡ (lead_below r (x ∷ xs) limit d || more)) [
        | Less ↦ λ e. leads_on r (p, (n, low)) (x ∷ xs) limit d ∙ put_before p rank n x xs limit d t ts
        | Equal ↦ λ e. leads_on r (x.0, (n, low)) xs limit d ∙ put_there p rank n x xs limit d t ts e
        | Greater ↦ λ e.
            let past : rank_there (x ∷ xs) p rank ≡ rank_there xs p rank = ap (λ b. rank_or rank (cond b (Some x.1) (lookup (is_at (nat_cmp p)) xs))) (greater_elsewhere p x.0 e) in
            leads_on r x (insert_entry nat_cmp xs p (n, low)) limit d
            ∙ ap (λ m. leads_by r x limit d || lead_below r (insert_entry nat_cmp xs p (n, min m rank)) limit d) past
            ∙ ap (λ b. leads_by r x limit d || b) (leads_lowered p rank n xs limit d t ts.1)
            ∙ sym (or_joined (leads_by r x limit d) (lead_below r xs limit d) more) ∙ ap (λ b. b || more) (sym (leads_on r x xs limit d))
      ] refl
    where
      low : ℕ
      low = min (rank_there (x ∷ xs) p rank) rank

      more : Bool
      more = nat_lt rank limit && reaches (commit_at r n) d

  -- a number is handed to a commit
  pub lowered : (p rank v : ℕ) (n : Name) (xs new : List Ranked) → v ≡ min (rank_there xs p rank) rank → new ≡ insert_entry nat_cmp xs p (n, v) → IsStrictlySortedBy nat_cmp (keys_of new)
      → IsTip stands r (p, n) → AreRanked stands xs r → Lowers stands (reaches (commit_at r n)) rank xs new r
  lowered p rank v n xs new m e o t a = record {
    ranked = record {
      tips = subst (λ ys. AreTips stands ys r) (sym (ap all_unranked e ∙ unranked_inserted p n v xs)) (tips_inserted name namer r sound stands order p n (all_unranked xs) t a.tips);
      order = o;
    };
    leads = λ limit d. ap (λ ys. lead_below r ys limit d) (e ∙ ap (λ w. insert_entry nat_cmp xs p (n, w)) m) ∙ leads_lowered p rank n xs limit d t a.tips;
  }

  -- ---- parents, one after the other

  pub none_handed : (test : Commit → Bool) (rank : ℕ) (left : List (ℕ × Name)) (old : List Ranked) → AreRanked stands old r → Adds stands test [] left r → AreHanded stands test rank left old old r
  none_handed test rank left old a adds = record { ranked = a; tips = adds.tips; leads = λ limit d. ap (λ b. lead_below r old limit d || (nat_lt rank limit && b)) (adds.reach d) }

  pub one_handed : (test : Commit → Bool) (rank : ℕ) (left rest : List (ℕ × Name)) (last : ℕ × Name) (old now new : List Ranked) → left ≡ rest ++ last ∷ [] → AreHanded stands test rank left old now r
      → Lowers stands (reaches (commit_at r last.1)) rank now new r → AreHanded stands test rank rest old new r
  one_handed test rank left rest last old now new e h l = record {
    ranked = l.ranked;
    tips = (all_last (IsTip stands r) rest last (subst (λ ys. AreTips stands ys r) e h.tips)).0;
    leads = λ limit d.
        ap (λ b. b || (nat_lt rank limit && lead_to r rest d)) (l.leads limit d)
        ∙ turned (lead_below r now limit d) (nat_lt rank limit) (reaches (commit_at r last.1) d) (lead_to r rest d)
        ∙ ap (λ b. lead_below r now limit d || (nat_lt rank limit && b)) (sym (ap (λ ys. lead_to r ys d) e ∙ last_leads r rest last d))
        ∙ h.leads limit d;
  }
    where
      turned : (a l b c : Bool) → ((a || (l && b)) || (l && c)) ≡ (a || (l && (c || b)))
      turned true l b c = refl
      turned false false b c = refl
      turned false true true true = refl
      turned false true true false = refl
      turned false true false true = refl
      turned false true false false = refl

  pub all_handed : (test : Commit → Bool) (rank : ℕ) (left : List (ℕ × Name)) (old new : List Ranked) → left ≡ [] → AreHanded stands test rank left old new r → Lowers stands test rank old new r
  all_handed test rank left old new e h = record {
    ranked = h.ranked;
    leads = λ limit d. nothing (lead_below r new limit d) (nat_lt rank limit) ∙ ap (λ ys. lead_below r new limit d || (nat_lt rank limit && lead_to r ys d)) (sym e) ∙ h.leads limit d;
  }
    where
      nothing : (a l : Bool) → a ≡ (a || (l && false))
      nothing true l = refl
      nothing false true = refl
      nothing false false = refl

  -- ---- going down

  -- what stands before a commit is reached by its parents, if by it
  only_parents : (p : ℕ) (n : Name) → IsTip stands r (p, n) → (i : ℕ) (d : Commit) → IsAt r i d → stands i < p → reaches (commit_at r n) d ≡ some_reaches (parents_at r n) d
  only_parents p n t i d e l = same_tests _ _ (λ h. elim (reaches_by (commit_at r n) d h) [
    | inl s ↦ absurd (
        let k = number_of name namer r sound stands order (p, n) t in
        let o = same_place name namer r sound (commit_value d) k.0 i (subst (IsAt r k.0) s k.1) e in
        let q = ap stands o in
        let m = k.2 in omega (arith, l, q, m))
    | inr b ↦ b
  ]) (by_parents (commit_at r n) d)

  -- the last one was taken out
  pub rest_and_last : (now rest : List Ranked) (last : Ranked) → now ≡ rest ++ last ∷ [] → AreRanked stands now r → AreRanked stands rest r × IsTip stands r (unranked last)
  rest_and_last now rest last e a =
      let two = all_last (IsTip stands r) (all_unranked rest) (unranked last) (subst (λ ys. AreTips stands ys r) (ap all_unranked e ∙ unranked_last rest last) a.tips) in
      (record { tips = two.0; order = sorted_front rest last (subst (λ ys. IsStrictlySortedBy nat_cmp (keys_of ys)) e a.order) }, two.1)

  -- and its number was handed to its parents
  pub hands_further : (place : ℕ) (first now rest new : List Ranked) (last : Ranked) → place < last.0 → now ≡ rest ++ last ∷ [] → HandsDown stands place first now r
      → Lowers stands (some_reaches (parents_at r last.1.0)) last.1.1 rest new r → HandsDown stands place first new r
  hands_further place first now rest new last l was down low = record {
    ranked = low.ranked;
    same = λ limit i d e m.
        low.leads limit d
        ∙ ap (λ b. lead_below r rest limit d || (nat_lt last.1.1 limit && b)) (sym (only_parents last.0 last.1.0 (rest_and_last now rest last was down.ranked).1 i d e (omega (arith, l, m))))
        ∙ sym (ap (λ ys. lead_below r ys limit d) was ∙ leads_last r rest last limit d)
        ∙ down.same limit i d e m;
  }

  -- ---- the number at a place

  reached_there : (x : ℕ × Name) (i : ℕ) (d : Commit) → IsTip stands r x → IsAt r i d → stands i ≡ x.0 → IsTrue (reaches (commit_at r x.1) d)
  reached_there x i d t e s =
      let k = number_of name namer r sound stands order x t in
      let same = one_number name namer r sound stands order i k.0 d (commit_at r x.1) e k.1 (s ∙ sym k.2) in
      let one = one_commit r k.0 d (commit_at r x.1) (subst (λ j. IsAt r j d) same e) k.1 in
      subst (λ c. IsTrue (reaches c d)) one (is_true _ (itself d))

  not_from_before : (x : ℕ × Name) (i : ℕ) (d : Commit) → IsTip stands r x → IsAt r i d → x.0 < stands i → reaches (commit_at r x.1) d ≡ false
  not_from_before x i d t e l = elim (true_or_false (reaches (commit_at r x.1) d)) [
    | inl h ↦ absurd (
        let k = number_of name namer r sound stands order x t in
        let m = reached_before name namer r sound (commit_at r x.1) d k.0 i k.1 e h in
        let q = not_behind name namer r sound stands order i k.0 d (commit_at r x.1) e k.1 m in
        let s = k.2 in omega (arith, l, q, s))
    | inr f ↦ f
  ]

  -- once none stands behind a place, the number there tells what reaches the commit there
  pub rank_is : (place count : ℕ) (front : List Ranked) → AreRanked stands front r → AreBelow (suc place) (all_unranked front) → (i : ℕ) (d : Commit) → IsAt r i d → stands i ≡ place
      → IsRank front count r d (rank_there front place count)
  unfolding IsStrictlySortedBy
  rank_is place count [] a b i d e s limit l = le-ltb count limit l
  rank_is place count (x ∷ xs) a b i d e s limit l = by (is_at (nat_cmp place) x.0) refl (rank_is place count xs (record { tips = a.tips.1; order = a.order.1 }) b.1 i d e s limit l)
    where
      by : (t : Bool) → is_at (nat_cmp place) x.0 ≡ t → nat_lt (rank_there xs place count) limit ≡ lead_below r xs limit d
          → nat_lt (rank_or count (cond t (Some x.1) (lookup (is_at (nat_cmp place)) xs))) limit ≡ lead_below r (x ∷ xs) limit d
      by true f later =
          let here = at_place place x.0 f in
          let none = nothing_after place x.0 xs here a.order.0 b.1 in
          let reached = reached_there (unranked x) i d a.tips.0 e (s ∙ here) in
          sym (leads_on r x xs limit d ∙ ap (λ t. (nat_lt x.1.1 limit && t) || lead_below r xs limit d) reached ∙ ap (λ ys. (nat_lt x.1.1 limit && true) || lead_below r ys limit d) none ∙ alone (nat_lt x.1.1 limit))
        where
          alone : (t : Bool) → ((t && true) || false) ≡ t
          alone true = refl
          alone false = refl
      by false f later =
          let far = not_from_before (unranked x) i d a.tips.0 e (let m = b.0 in let k = before_other place x.0 f m in omega (arith, k, s)) in
          later ∙ sym (leads_on r x xs limit d ∙ ap (λ t. (nat_lt x.1.1 limit && t) || lead_below r xs limit d) far ∙ nothing (nat_lt x.1.1 limit) (lead_below r xs limit d))
        where
          nothing : (t u : Bool) → ((t && false) || u) ≡ u
          nothing true u = refl
          nothing false u = refl
