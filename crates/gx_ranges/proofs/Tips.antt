-- Fronts: what they reach with one commit more or less, and where that stands.
use Rattle.std.proofs.Common.{◌≡◌, ℕ, zero, suc, ◌-◌, ◌<◌, ◌≤◌, Bool, true, false, cond, refl, sym, ap, subst, ◌∙◌, arith, List, [], ◌∷◌, ◌++◌, length, length-append, Option, Some, None, inl, inr, ◌⊎◌}
use Rattle.std.specs.Prelude.{IsTrue, IsSome, IfSome, ◌↔◌, is_some, ◌||◌}
use Rattle.std.specs.List.{All, AllByRecursion, slice_get}
use Rattle.std.specs.Option.{option_map}
use Rattle.std.specs.Ordering.{is_lt, nat_cmp, match_ordering}
use Rattle.std.specs.declared.cmp.Ordering.TheVariants.{Less, Equal, Greater}
use Rattle.std.specs.BTreeMap.{insert_entry, is_at}
use Rattle.std.specs.BTreeMap.Range.{IsLtBy}
use Rattle.std.specs.Map.{keys_of, lookup, remove_entry}
use Rattle.std.proofs.lemmas.Bool.Decides.{nat_tests}
use Rattle.std.proofs.lemmas.List.Elements.{recursion_from_All}
use Rattle.std.proofs.lemmas.List.Folds.{list_any-append}
use Rattle.gx_model.specs.declared.objects.Kind.{Kind}
use Rattle.gx_model.specs.declared.objects.Kind.TheVariants as kinds
use Rattle.gx_model.specs.Histories.{Records}
use Rattle.gx_model.specs.Histories.Marks.{IsAt}
use Rattle.gx_model.specs.Histories.Values.{Commit, Commits, commit_value, list_of, more, none, parents_of}
use Rattle.gx_model.specs.Laws.HistoryLaws.{IsParent}
use Rattle.gx_model.specs.Laws.RepositoryLaws.{values_of}
use Rattle.gx_model.specs.Objects.{IsNamer}
use Rattle.gx_model.specs.Records.Sound.{IsSound}
use Rattle.gx_model.specs.Revisions.Ranges.{reaches, some_reaches}
use Rattle.gx_model.specs.Texts.{Bytes}
use Rattle.gx_model.proofs.Histories.ReachedCommits.{itself}
use Rattle.gx_model.proofs.Texts.PathTests.{is_true}
use Rattle.gx_model.proofs.Records.HeldPlaces.{held_place}
use Rattle.gx_model.proofs.Records.HeldValues.{commit_held}
use Rattle.gx_model.proofs.Records.Standing.{as_many, at_within, commit_at_place, parent_before, same_place}
use Rattle.gx_object.specs.declared.name.Name.{Name}
use Rattle.gx_objects.specs.Answers.{GoesUp}
use Rattle.gx_rev.specs.Objects.{IsHeldAs, commit_at}
use Rattle.gx_store.specs.Stores.{place_named}
use Rattle.gx_ranges.specs.Fronts.{Adds, AreBelow, AreTips, GoesDown, IsLast, IsLastBehind, IsTip, LeadsToPlace, StandsBefore, behind_last, lead_to}
use Rattle.gx_ranges.proofs.Reached.{by_parents, one_commit, or_either, or_first, or_joined, or_none, or_second, or_turned, reached_at, reached_before, reaches_by, reaches_further, same_tests, true_or_false}

abbrev Tip : Type 0
Tip = ℕ × Name

same_number : (k x : ℕ) → nat_cmp k x ≡ Equal → k ≡ x
same_number k x e = grind (arith, nat_tests)

less_told : (q k : ℕ) → nat_cmp q k ≡ Less → q < k
less_told q k h = grind (arith, nat_tests)

at_place : (k x : ℕ) → is_at (nat_cmp k) x ≡ true → k ≡ x
at_place k x e = grind (arith, nat_tests)

before_other : (k x : ℕ) → is_at (nat_cmp k) x ≡ false → x < suc k → x < k
before_other k x e l = grind (arith, nat_tests)

order_of : (i j : ℕ) → (i < j) ⊎ ((i ≡ j) ⊎ (j < i))
order_of zero zero = inr (inl refl)
order_of zero (suc j) = inl (omega arith)
order_of (suc i) zero = inr (inr (omega arith))
order_of (suc i) (suc j) = elim (order_of i j) [
  | inl l ↦ inl (omega arith)
  | inr k ↦ elim k [ inl e ↦ inr (inl (ap suc e)) | inr l ↦ inr (inr (omega arith)) ]
]

-- no place is this one
pub not_there : (k : ℕ) (xs : List Tip) → is_some (lookup (is_at (nat_cmp k)) xs) ≡ false → AreBelow (suc k) xs → AreBelow k xs
not_there k [] f h = tt
not_there k (x ∷ xs) f h = by (λ g. not_there k xs g h.1) (is_at (nat_cmp k) x.0) refl f
  where
    other : is_at (nat_cmp k) x.0 ≡ false → x.0 < k
    other e = let l = h.0 in before_other k x.0 e l

    by : (is_some (lookup (is_at (nat_cmp k)) xs) ≡ false → AreBelow k xs) → (b : Bool) → is_at (nat_cmp k) x.0 ≡ b → is_some (cond b (Some x.1) (lookup (is_at (nat_cmp k)) xs)) ≡ false → AreBelow k (x ∷ xs)
    by rest true e g = absurd cc
    by rest false e g = (other e, rest g)

pub nothing_left : (xs : List Tip) → (0 < length xs → ⊥) → xs ≡ []
nothing_left [] h = refl
nothing_left (x ∷ xs) h = absurd (h (omega arith))

-- ---- the last one

pub all_last : (P : Tip → Type 0) (xs : List Tip) (k : Tip) → AllByRecursion P (xs ++ k ∷ []) → AllByRecursion P xs × P k
all_last P [] k h = (tt, h.0)
all_last P (x ∷ xs) k h = let rest = all_last P xs k h.1 in ((h.0, rest.0), rest.1)

pub with_last : (P : Tip → Type 0) (xs : List Tip) (k : Tip) → AllByRecursion P xs → P k → AllByRecursion P (xs ++ k ∷ [])
with_last P [] k h p = (p, tt)
with_last P (x ∷ xs) k h p = (h.0, with_last P xs k h.1 p)

-- keys below one are places below it
pub below_keys : (k : ℕ) (xs : List Tip) → AllByRecursion (λ q. IsLtBy nat_cmp q k) (keys_of xs) → AreBelow k xs
below_keys k [] h = tt
below_keys k (x ∷ xs) h = (less_told x.0 k h.0, below_keys k xs h.1)

-- no key is above one
pub below_last : (k : ℕ) (last : ℕ) (xs : List Tip) → last ≤ k → AllByRecursion (λ q. is_lt (nat_cmp last q) ≡ false) (keys_of xs) → AreBelow (suc k) xs
below_last k last [] l h = tt
below_last k last (x ∷ xs) l h = ((let e = h.0 in grind (arith, nat_tests)), below_last k last xs l h.1)

last_there : (xs : List Tip) (p : Tip) → slice_get (xs ++ p ∷ []) (length (xs ++ p ∷ []) - 1) ≡ Some p
last_there [] p = refl
last_there (x ∷ []) p = refl
last_there (x ∷ y ∷ ys) p =
    let l = length-append ys (p ∷ []) in
    let e : length (x ∷ y ∷ ys ++ p ∷ []) - 1 ≡ suc (length (y ∷ ys ++ p ∷ []) - 1) = omega arith in
    ap (slice_get (x ∷ y ∷ ys ++ p ∷ [])) e ∙ last_there (y ∷ ys) p

-- the last one is taken out
pub last_popped : (place : ℕ) (old new : List Tip) (last : Tip) (popped : Option Tip) → slice_get old (length old - 1) ≡ Some last → place < last.0
    → IsSome popped ↔ (0 < length old) → IfSome popped (λ p. old ≡ new ++ p ∷ []) → IfSome popped (λ p. All (λ q. IsLtBy nat_cmp q p.0) (keys_of new)) → IsLastBehind place old new popped
last_popped place [] new last popped e l v was low = absurd cc
last_popped place (x ∷ xs) new last None e l v was low = absurd (let f : false ≡ true = v.1 (omega arith) in cc f)
last_popped place (x ∷ xs) new last (Some p) e l v was low =
    let there : Some p ≡ Some last = sym (last_there new p) ∙ ap (λ ys. slice_get ys (length ys - 1)) (sym was) ∙ e in
    let same : p ≡ last = cc there in
    (subst (λ q. place < q.0) (sym same) l, (was, below_keys p.0 new (recursion_from_All (λ q. IsLtBy nat_cmp q p.0) (keys_of new) low)))

pub behind_end : (xs : List Tip) (k : Tip) → behind_last (xs ++ k ∷ []) ≡ suc k.0
behind_end [] k = refl
behind_end (x ∷ []) k = refl
behind_end (x ∷ y ∷ ys) k = behind_end (y ∷ ys) k

pub behind_below : (n : ℕ) (xs : List Tip) → AreBelow n xs → behind_last xs ≤ n
behind_below n [] h = omega arith
behind_below n (x ∷ []) h = let l = h.0 in omega arith
behind_below n (x ∷ y ∷ ys) h = behind_below n (y ∷ ys) h.1

pub below_further : (n m : ℕ) (xs : List Tip) → n ≤ m → AreBelow n xs → AreBelow m xs
below_further n m [] l h = tt
below_further n m (x ∷ xs) l h = ((let k = h.0 in omega arith), below_further n m xs l h.1)

pub below_inserted : (n p : ℕ) (called : Name) (xs : List Tip) → p < n → AreBelow n xs → AreBelow n (insert_entry nat_cmp xs p called)
below_inserted n p called [] l h = (l, tt)
below_inserted n p called (x ∷ xs) l h =
    elim (nat_cmp p x.0) as (λ o. AreBelow n (match_ordering o ((p, called) ∷ x ∷ xs) ((x.0, called) ∷ xs) (x ∷ insert_entry nat_cmp xs p called))) [
      | Less ↦ (l, h)
      | Equal ↦ h
      | Greater ↦ (h.0, below_inserted n p called xs l h.1)
    ]

is_parent : (cs : Commits) (i : ℕ) (p : Commit) → slice_get (list_of cs) i ≡ Some p → IsParent p cs
is_parent none i p e = absurd cc
is_parent (more c cs) zero p e = inl (let same : c ≡ p = cc in same)
is_parent (more c cs) (suc i) p e = inr (is_parent cs i p e)

module _ (r : Records) where
  pub last_leads : (xs : List Tip) (k : Tip) (d : Commit) → lead_to r (xs ++ k ∷ []) d ≡ (lead_to r xs d || reaches (commit_at r k.1) d)
  last_leads xs k d = list_any-append (λ tip. reaches (commit_at r tip.1) d) xs (k ∷ []) ∙ ap (λ b. lead_to r xs d || b) (or_none (reaches (commit_at r k.1) d))

  -- what is reached by what is reached
  pub leads_further : (xs : List Tip) (c d : Commit) → IsTrue (lead_to r xs c) → IsTrue (reaches c d) → IsTrue (lead_to r xs d)
  leads_further [] c d h k = absurd cc
  leads_further (x ∷ xs) c d h k = elim (or_either (reaches (commit_at r x.1) c) (lead_to r xs c) h) [
    | inl a ↦ or_first (reaches (commit_at r x.1) d) (lead_to r xs d) (reaches_further (commit_at r x.1) c d a k)
    | inr a ↦ or_second (reaches (commit_at r x.1) d) (lead_to r xs d) (leads_further xs c d a k)
  ]

module _ (name : Kind → Bytes → Bytes) (namer : IsNamer name) (r : Records) (sound : IsSound name r) (stands : ℕ → ℕ) (order : GoesUp stands (length r.records)) where
  within : (i : ℕ) (c : Commit) → IsAt r i c → i < length r.records
  within i c e = let l = at_within (values_of r) i (commit_value c) e in let m = as_many name namer r sound in omega arith

  -- one number stands at a place
  pub one_number : (i j : ℕ) (c d : Commit) → IsAt r i c → IsAt r j d → stands i ≡ stands j → i ≡ j
  one_number i j c d e f s = elim (order_of i j) [
    | inl a ↦ absurd (let l = order i j a (within j d f) in omega (arith, l, s))
    | inr k ↦ elim k [ inl a ↦ a | inr a ↦ absurd (let l = order j i a (within i c e) in omega (arith, l, s)) ]
  ]

  pub not_behind : (i j : ℕ) (c d : Commit) → IsAt r i c → IsAt r j d → i ≤ j → stands i ≤ stands j
  not_behind i j c d e f l = elim (order_of i j) [
    | inl a ↦ (let m = order i j a (within j d f) in omega (arith, m))
    | inr k ↦ elim k [ inl a ↦ (let m = ap stands a in omega (arith, m)) | inr a ↦ absurd (omega (arith, a, l)) ]
  ]

  pub before : (i j : ℕ) (c d : Commit) → IsAt r i c → IsAt r j d → stands i < stands j → i < j
  before i j c d e f l = elim (order_of i j) [
    | inl a ↦ a
    | inr k ↦ elim k [ inl a ↦ absurd (let m = ap stands a in omega (arith, m, l)) | inr a ↦ absurd (let m = order j i a (within i c e) in omega (arith, m, l)) ]
  ]

  -- the number of the commit at a place
  pub number_of : (tip : Tip) → IsTip stands r tip → (i : ℕ) × IsAt r i (commit_at r tip.1) × (stands i ≡ tip.0)
  number_of tip h =
      let p = held_place name namer r sound tip.1.bytes (commit_held name namer r sound tip.1.bytes h.0) in
      let e : Some tip.0 ≡ Some (stands p.0) = h.1 ∙ ap (option_map stands) p.1 in
      let same : tip.0 ≡ stands p.0 = cc e in
      (p.0, commit_at_place name namer r sound tip.1.bytes p.0 h.0 p.2, sym same)

  -- a held commit stands somewhere
  pub not_nowhere : (called : Name) → IsHeldAs kinds.Commit r called → None ≡ option_map stands (place_named r.records called.bytes) → ⊥
  not_nowhere called h e =
      let p = held_place name namer r sound called.bytes (commit_held name namer r sound called.bytes h) in
      let o : None ≡ Some (stands p.0) = e ∙ ap (option_map stands) p.1 in cc o

  -- a commit that stands before a place isn't told behind it
  pub not_behind_limit : (called : Name) (place limit : ℕ) → IsTip stands r (place, called) → StandsBefore stands limit called r → place < limit
  not_behind_limit called place limit t b =
      let p = held_place name namer r sound called.bytes (commit_held name namer r sound called.bytes t.0) in
      let o : Some place ≡ Some (stands p.0) = t.1 ∙ ap (option_map stands) p.1 in
      let same : place ≡ stands p.0 = cc o in
      let l = b p.0 p.1 in omega (arith, same, l)

  pub one_tip : (p : ℕ) (n m : Name) → IsTip stands r (p, n) → IsTip stands r (p, m) → commit_at r n ≡ commit_at r m
  one_tip p n m h k =
      let a = number_of (p, n) h in
      let b = number_of (p, m) k in
      let s = one_number a.0 b.0 (commit_at r n) (commit_at r m) a.1 b.1 (a.2 ∙ sym b.2) in
      one_commit r b.0 (commit_at r n) (commit_at r m) (subst (λ i. IsAt r i (commit_at r n)) s a.1) b.1

  -- ---- one more

  moved : (p x : ℕ) (n : Name) → p ≡ x → IsTip stands r (p, n) → IsTip stands r (x, n)
  moved p x n e h = subst (λ q. IsTip stands r (q, n)) e h

  pub tips_inserted : (p : ℕ) (n : Name) (xs : List Tip) → IsTip stands r (p, n) → AreTips stands xs r → AreTips stands (insert_entry nat_cmp xs p n) r
  tips_inserted p n [] t h = (t, tt)
  tips_inserted p n (x ∷ xs) t h =
      elim (nat_cmp p x.0) as (λ o. nat_cmp p x.0 ≡ o → AreTips stands (match_ordering o ((p, n) ∷ x ∷ xs) ((x.0, n) ∷ xs) (x ∷ insert_entry nat_cmp xs p n)) r) [
        | Less ↦ λ e. (t, h)
        | Equal ↦ λ e. (moved p x.0 n (same_number p x.0 e) t, h.1)
        | Greater ↦ λ e. (h.0, tips_inserted p n xs t h.1)
      ] refl

  leads_inserted : (p : ℕ) (n : Name) (xs : List Tip) (d : Commit) → IsTip stands r (p, n) → AreTips stands xs r
      → lead_to r (insert_entry nat_cmp xs p n) d ≡ (lead_to r xs d || reaches (commit_at r n) d)
  leads_inserted p n [] d t h = or_none (reaches (commit_at r n) d)
  leads_inserted p n (x ∷ xs) d t h =
      elim (nat_cmp p x.0) as (λ o. nat_cmp p x.0 ≡ o
      → lead_to r (match_ordering o ((p, n) ∷ x ∷ xs) ((x.0, n) ∷ xs) (x ∷ insert_entry nat_cmp xs p n)) d ≡ ((reaches (commit_at r x.1) d || lead_to r xs d) || reaches (commit_at r n) d)) [
        | Less ↦ λ e. or_turned (reaches (commit_at r n) d) (reaches (commit_at r x.1) d || lead_to r xs d)
        | Equal ↦ λ e.
            let same = one_tip x.0 n x.1 (moved p x.0 n (same_number p x.0 e) t) h.0 in
            twice (reaches (commit_at r n) d) (lead_to r xs d) ∙ ap (λ c. (reaches c d || lead_to r xs d) || reaches (commit_at r n) d) same
        | Greater ↦ λ e. ap (λ b. reaches (commit_at r x.1) d || b) (leads_inserted p n xs d t h.1) ∙ sym (or_joined (reaches (commit_at r x.1) d) (lead_to r xs d) (reaches (commit_at r n) d))
      ] refl
    where
      twice : (a b : Bool) → (a || b) ≡ ((a || b) || a)
      twice true b = refl
      twice false b = sym (or_none b)

  -- a commit more
  pub inserted : (p : ℕ) (n : Name) (xs : List Tip) → IsTip stands r (p, n) → AreTips stands xs r → Adds stands (reaches (commit_at r n)) xs (insert_entry nat_cmp xs p n) r
  inserted p n xs t h = record { tips = tips_inserted p n xs t h; reach = λ d. leads_inserted p n xs d t h }

  -- ---- where it stands

  -- what is reached from before a place stands before it
  pub reached_below : (k : ℕ) (xs : List Tip) (i : ℕ) (d : Commit) → AreTips stands xs r → AreBelow k xs → IsAt r i d → IsTrue (lead_to r xs d) → stands i < k
  reached_below k [] i d t b e h = absurd cc
  reached_below k (x ∷ xs) i d t b e h = elim (or_either (reaches (commit_at r x.1) d) (lead_to r xs d) h) [
    | inl a ↦
        let n = number_of x t.0 in
        let l = reached_before name namer r sound (commit_at r x.1) d n.0 i n.1 e a in
        let m = not_behind i n.0 d (commit_at r x.1) e n.1 l in
        let s = n.2 in
        let o = b.0 in omega (arith, m, s, o)
    | inr a ↦ reached_below k xs i d t.1 b.1 e a
  ]

  -- what is reached stands somewhere
  pub leads_at : (k : ℕ) (xs : List Tip) (d : Commit) → AreTips stands xs r → AreBelow k xs → IsTrue (lead_to r xs d) → (i : ℕ) × IsAt r i d × (stands i < k)
  leads_at k [] d t b h = absurd cc
  leads_at k (x ∷ xs) d t b h = elim (or_either (reaches (commit_at r x.1) d) (lead_to r xs d) h) [
    | inl a ↦
        let n = number_of x t.0 in
        let w = reached_at name namer r sound (commit_at r x.1) d n.0 n.1 a in
        (w.0, w.2, reached_below k (x ∷ xs) w.0 d t b w.2 h)
    | inr a ↦ leads_at k xs d t.1 b.1 a
  ]

  -- the parent of a commit stands before it
  pub parent_below : (place : ℕ) (c p : Name) (n : ℕ) → IsTip stands r (place, c) → IsHeldAs kinds.Commit r p → slice_get (list_of (parents_of (commit_at r c))) n ≡ Some (commit_at r p) → StandsBefore stands place p r
  parent_below place c p n t h e = λ i f.
      let here = number_of (place, c) t in
      let w = parent_before name namer r sound (commit_at r c) (commit_at r p) here.0 here.1 (is_parent (parents_of (commit_at r c)) n (commit_at r p) e) in
      let there = held_place name namer r sound p.bytes (commit_held name namer r sound p.bytes h) in
      let at = commit_at_place name namer r sound p.bytes there.0 h there.2 in
      let s = same_place name namer r sound (commit_value (commit_at r p)) w.0 there.0 w.2 at in
      let o : Some i ≡ Some there.0 = sym f ∙ there.1 in
      let same : i ≡ there.0 = cc o in
      let l = order w.0 here.0 w.1 (within here.0 (commit_at r c) here.1) in
      let q : stands i ≡ stands w.0 = ap stands (same ∙ sym s) in
      let m = here.2 in omega (arith, l, q, m)

  -- ---- going down

  -- to go nowhere
  pub stays_down : (k : ℕ) (xs : List Tip) → AreTips stands xs r → GoesDown stands k xs xs r
  stays_down k xs t = record { tips = t; same = λ i d e l. refl; only = λ d h. h }

  -- the last one goes on to its parents
  pub parents_down : (k : ℕ) (xs rest new : List Tip) (last : Tip) → k < last.0 → IsLast xs rest last → AreTips stands xs r → Adds stands (some_reaches (parents_of (commit_at r last.1))) rest new r → GoesDown stands k xs new r
  parents_down k xs rest new last l was t adds = record {
    tips = adds.tips;
    same = λ i d e m. adds.reach d ∙ same_tests _ _ (up d) (down i d e m);
    only = λ d h. up d (sym (adds.reach d) ∙ h);
  }
    where
      here : Commit
      here = commit_at r last.1

      whole : (d : Commit) → lead_to r xs d ≡ (lead_to r rest d || reaches here d)
      whole d = ap (λ ys. lead_to r ys d) was.0 ∙ last_leads r rest last d

      up : (d : Commit) → IsTrue (lead_to r rest d || some_reaches (parents_of here) d) → IsTrue (lead_to r xs d)
      up d h = whole d ∙ elim (or_either (lead_to r rest d) (some_reaches (parents_of here) d) h) [
        | inl a ↦ or_first (lead_to r rest d) (reaches here d) a
        | inr a ↦ or_second (lead_to r rest d) (reaches here d) (by_parents here d a)
      ]

      tip : IsTip stands r last
      tip = (all_last (IsTip stands r) rest last (subst (λ ys. AreTips stands ys r) was.0 t)).1

      down : (i : ℕ) (d : Commit) → IsAt r i d → stands i ≤ k → IsTrue (lead_to r xs d) → IsTrue (lead_to r rest d || some_reaches (parents_of here) d)
      down i d e m h = elim (or_either (lead_to r rest d) (reaches here d) (sym (whole d) ∙ h)) [
        | inl a ↦ or_first (lead_to r rest d) (some_reaches (parents_of here) d) a
        | inr a ↦ elim (reaches_by here d a) [
          | inl s ↦ absurd (
              let n = number_of last tip in
              let o = same_place name namer r sound (commit_value d) n.0 i (subst (IsAt r n.0) s n.1) e in
              let q = ap stands o in
              let p = n.2 in omega (arith, l, m, p, q))
          | inr b ↦ or_second (lead_to r rest d) (some_reaches (parents_of here) d) b
        ]
      ]

  pub down_further : (k : ℕ) (xs ys zs : List Tip) → GoesDown stands k xs ys r → GoesDown stands k ys zs r → GoesDown stands k xs zs r
  down_further k xs ys zs a b = record {
    tips = b.tips;
    same = λ i d e l. b.same i d e l ∙ a.same i d e l;
    only = λ d h. a.only d (b.only d h);
  }

  -- ---- whether a place is reached

  -- the commit at a place is one's own
  here_leads : (tip : Tip) (d : Commit) (i : ℕ) → IsTip stands r tip → IsAt r i d → stands i ≡ tip.0 → IsTrue (reaches (commit_at r tip.1) d)
  here_leads tip d i t e s =
      let n = number_of tip t in
      let same = one_number i n.0 d (commit_at r tip.1) e n.1 (s ∙ sym n.2) in
      let one = one_commit r n.0 d (commit_at r tip.1) (subst (λ j. IsAt r j d) same e) n.1 in
      subst (λ c. IsTrue (reaches c d)) one (is_true _ (itself d))

  found_leads : (k : ℕ) (xs : List Tip) (n : Name) (d : Commit) (i : ℕ) → lookup (is_at (nat_cmp k)) xs ≡ Some n → AreTips stands xs r → IsAt r i d → stands i ≡ k → IsTrue (lead_to r xs d)
  found_leads k [] n d i f t e s = absurd cc
  found_leads k (x ∷ xs) n d i f t e s = by (λ h. found_leads k xs n d i h t.1 e s) (is_at (nat_cmp k) x.0) refl f
    where
      by : (lookup (is_at (nat_cmp k)) xs ≡ Some n → IsTrue (lead_to r xs d)) → (b : Bool) → is_at (nat_cmp k) x.0 ≡ b → cond b (Some x.1) (lookup (is_at (nat_cmp k)) xs) ≡ Some n → IsTrue (lead_to r (x ∷ xs) d)
      by rest false g h = or_second (reaches (commit_at r x.1) d) (lead_to r xs d) (rest h)
      by rest true g h = or_first (reaches (commit_at r x.1) d) (lead_to r xs d) (here_leads x d i t.0 e (s ∙ at_place k x.0 g))

  -- it is, where a commit stands there
  pub found_there : (k : ℕ) (xs : List Tip) → is_some (lookup (is_at (nat_cmp k)) xs) ≡ true → AreTips stands xs r → LeadsToPlace stands k xs r true
  found_there k xs f t i d e s = by (lookup (is_at (nat_cmp k)) xs) refl f
    where
      by : (o : Option Name) → lookup (is_at (nat_cmp k)) xs ≡ o → is_some o ≡ true → true ≡ lead_to r xs d
      by None g h = absurd cc
      by (Some n) g h = sym (found_leads k xs n d i g t e s)

  -- once the front has come down to the place, it is exactly there
  pub told_there : (k : ℕ) (xs ys : List Tip) (found : Bool) → found ≡ is_some (lookup (is_at (nat_cmp k)) ys) → AreBelow (suc k) ys → GoesDown stands k xs ys r → LeadsToPlace stands k xs r found
  told_there k xs ys found f b g i d e s = by found f ∙ g.same i d e (let o = s in omega arith)
    where
      by : (b : Bool) → b ≡ is_some (lookup (is_at (nat_cmp k)) ys) → b ≡ lead_to r ys d
      by true h = found_there k ys (sym h) g.tips i d e s
      by false h = elim (true_or_false (lead_to r ys d)) [
        | inl a ↦ absurd (let l = reached_below k ys i d g.tips (not_there k ys (sym h) b) e a in let o = s in omega arith)
        | inr a ↦ sym a
      ]

  -- ---- one less

  pub tips_removed : (test : ℕ → Bool) (xs : List Tip) → AreTips stands xs r → AreTips stands (remove_entry test xs) r
  tips_removed test [] t = tt
  tips_removed test (x ∷ xs) t = elim (test x.0) as (λ b. AreTips stands (cond b xs (x ∷ remove_entry test xs)) r) [
    | true ↦ t.1
    | false ↦ (t.0, tips_removed test xs t.1)
  ]

  pub fewer_lead : (test : ℕ → Bool) (xs : List Tip) (d : Commit) → IsTrue (lead_to r (remove_entry test xs) d) → IsTrue (lead_to r xs d)
  fewer_lead test [] d h = h
  fewer_lead test (x ∷ xs) d h = elim (test x.0) as (λ b. IsTrue (lead_to r (cond b xs (x ∷ remove_entry test xs)) d) → IsTrue (reaches (commit_at r x.1) d || lead_to r xs d)) [
    | true ↦ λ k. or_second (reaches (commit_at r x.1) d) (lead_to r xs d) k
    | false ↦ λ k. elim (or_either (reaches (commit_at r x.1) d) (lead_to r (remove_entry test xs) d) k) [
      | inl a ↦ or_first (reaches (commit_at r x.1) d) (lead_to r xs d) a
      | inr a ↦ or_second (reaches (commit_at r x.1) d) (lead_to r xs d) (fewer_lead test xs d a)
    ]
  ] h

  -- what is reached no more is reached by the commit at that place
  pub removed_leads : (tip : Tip) (xs : List Tip) (d : Commit) → IsTip stands r tip → AreTips stands xs r → IsTrue (lead_to r xs d)
      → IsTrue (lead_to r (remove_entry (is_at (nat_cmp tip.0)) xs) d) ⊎ IsTrue (reaches (commit_at r tip.1) d)
  removed_leads tip [] d p t h = absurd cc
  removed_leads tip (x ∷ xs) d p t h = by (λ a. removed_leads tip xs d p t.1 a) (is_at (nat_cmp tip.0) x.0) refl
    where
      by : (IsTrue (lead_to r xs d) → IsTrue (lead_to r (remove_entry (is_at (nat_cmp tip.0)) xs) d) ⊎ IsTrue (reaches (commit_at r tip.1) d))
          → (b : Bool) → is_at (nat_cmp tip.0) x.0 ≡ b → IsTrue (lead_to r (cond b xs (x ∷ remove_entry (is_at (nat_cmp tip.0)) xs)) d) ⊎ IsTrue (reaches (commit_at r tip.1) d)
      by rest true e = elim (or_either (reaches (commit_at r x.1) d) (lead_to r xs d) h) [
        | inl a ↦ inr (subst (λ c. IsTrue (reaches c d)) (sym (one_tip tip.0 tip.1 x.1 p (moved x.0 tip.0 x.1 (sym (at_place tip.0 x.0 e)) t.0))) a)
        | inr a ↦ inl a
      ]
      by rest false e = elim (or_either (reaches (commit_at r x.1) d) (lead_to r xs d) h) [
        | inl a ↦ inl (or_first (reaches (commit_at r x.1) d) (lead_to r (remove_entry (is_at (nat_cmp tip.0)) xs) d) a)
        | inr a ↦ elim (rest a) [
          | inl k ↦ inl (or_second (reaches (commit_at r x.1) d) (lead_to r (remove_entry (is_at (nat_cmp tip.0)) xs) d) k)
          | inr k ↦ inr k
        ]
      ]
