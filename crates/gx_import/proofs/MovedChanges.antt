-- Changes of branches and tags that their refs hold already are left out: the others give the same refs, and are refused no sooner.
use Rattle.std.proofs.Common.{◌≡◌, Bool, true, false, cond, List, [], ◌∷◌, ◌++◌, append-nil, append_assoc, Option, Some, None, refl, sym, ap, ◌∙◌}
use Rattle.std.specs.Prelude.{IsTrue, T, is_some, not, ◌||◌}
use Rattle.std.specs.Bool.{passes}
use Rattle.std.specs.List.{AllByRecursion, filter, fold}
use Rattle.std.specs.Map.{lookup}
use Rattle.std.specs.Ordering.{is_eq, is_lt, ordering_reverse}
use Rattle.std.specs.FinMap.Entries.{below_all, find, find-put, is_sorted, is_sorted-put, put}
use Rattle.std.proofs.lemmas.Bool.{true≢false}
use Rattle.std.proofs.lemmas.List.Sums.{fold-append}
use Rattle.std.proofs.lemmas.Map.Text.{is_eq-slice_cmp}
use Rattle.gx_model.specs.declared.faults.Fault.{Fault}
use Rattle.gx_model.specs.Texts.{Bytes, byte_cmp, same_bytes}
use Rattle.gx_model.specs.Histories.{Record}
use Rattle.gx_model.specs.Records.Publishing.{Change, Ref, change_fault, changes_fault, with_change, with_changes}
use Rattle.std.specs.Option.{option_or}
use Rattle.gx_model.proofs.Histories.PathRuns.{less_is}
use Rattle.gx_model.proofs.Texts.PathTests.{both, first, second, same_is}
use Rattle.gx_object.specs.declared.name.Name.{Name}
use Rattle.gx_import.specs.declared.branches.Tip.{Tip}
use Rattle.gx_import.specs.declared.tables.Tables.{Tables}
use Rattle.gx_import.specs.RefChanges.{branch_changes, branch_then, changes_of, is_at, is_due, is_moved, moved_of, tag_changes}
use Rattle.gx_import.proofs.PublishedNames.{found, put_there}
use Rattle.gx_model.proofs.Records.SortedRefs.{order}

-- a name behind another is not the same
name_apart : (n m : Bytes) → T (is_lt (byte_cmp n m)) → is_eq (byte_cmp m n) ≡ false
name_apart n m h = ap is_eq (order.antisymm m n ∙ ap ordering_reverse (less_is (byte_cmp n m) h))

-- ---- one branch after the other

-- what passes a test is appended of one branch, and then of more
pub one_appended : (test : Change → Bool) (was now : List Change) (n : Bytes) (commit : Option Name) (more : List Change)
    → now ≡ was ++ filter test (branch_then n commit []) → now ++ filter test more ≡ was ++ filter test (branch_then n commit more)
one_appended test was now n None more e = ap (λ cs. cs ++ filter test more) (e ∙ append-nil was)
one_appended test was now n (Some called) more e =
    ap (λ cs. cs ++ filter test more) e
    ∙ elim (test (n, called.bytes)) as (λ b. (was ++ cond b ((n, called.bytes) ∷ []) []) ++ filter test more ≡ was ++ cond b ((n, called.bytes) ∷ filter test more) (filter test more)) [
      | true ↦ append_assoc was ((n, called.bytes) ∷ []) (filter test more)
      | false ↦ ap (λ cs. cs ++ filter test more) (append-nil was)
    ]

-- ---- branches in order give changes in order

below_changes : {A : Type 0} (n : Bytes) (rows : List (Bytes × Tip A)) → T (below_all byte_cmp n rows) → T (below_all byte_cmp n (branch_changes rows))
below_changes n [] h = tt
below_changes n (row ∷ rows) h =
    let rest = below_changes n rows (second (is_lt (byte_cmp n row.0)) _ h) in
    elim row.1.commit as (λ o. T (below_all byte_cmp n (branch_then row.0 o (branch_changes rows)))) [
      | None ↦ rest
      | Some called ↦ both _ _ (first _ _ h) rest
    ]

sorted_changes : {A : Type 0} (rows : List (Bytes × Tip A)) → T (is_sorted byte_cmp rows) → T (is_sorted byte_cmp (branch_changes rows))
sorted_changes [] h = tt
sorted_changes (row ∷ rows) h =
    let rest = sorted_changes rows (second (below_all byte_cmp row.0 rows) _ h) in
    elim row.1.commit as (λ o. T (is_sorted byte_cmp (branch_then row.0 o (branch_changes rows)))) [
      | None ↦ rest
      | Some called ↦ both _ _ (below_changes row.0 rows (first _ _ h)) rest
    ]

-- ---- the refs that changes in order give

-- refs hold the same as others at the names of these changes
abbrev HoldSame : List Ref → List Ref → List Change → Type 0
HoldSame now refs changes = AllByRecursion (λ c. lookup (same_bytes c.0) now ≡ lookup (same_bytes c.0) refs) changes

hold_same : (refs : List Ref) (changes : List Change) → HoldSame refs refs changes
hold_same refs [] = tt
hold_same refs (c ∷ cs) = (refl, hold_same refs cs)

-- so they do where a smaller name is set
same_after : (n object : Bytes) (now refs : List Ref) (changes : List Change) → T (below_all byte_cmp n changes) → HoldSame now refs changes → HoldSame (put byte_cmp n object now) refs changes
same_after n object now refs [] b h = tt
same_after n object now refs (c ∷ cs) b h = (
  sym (found c.0 (put byte_cmp n object now)) ∙ find-put byte_cmp order c.0 n object now
      ∙ ap (λ t. cond t (Some object) (find byte_cmp c.0 now)) (name_apart n c.0 (first _ _ b))
      ∙ found c.0 now ∙ h.0,
  same_after n object now refs cs (second (is_lt (byte_cmp n c.0)) _ b) h.1,
)

not_true : (b : Bool) → not b ≡ false → b ≡ true
not_true true e = refl
not_true false e = absurd (true≢false e)

-- a change that is left out is one that stands
stands_so : (object : Bytes) (held : Option Bytes) → not (is_at held object) ≡ false → held ≡ Some object
stands_so object None e = absurd (true≢false e)
stands_so object (Some held) e = ap (λ x. Some x) (same_is held object (passes _ (not_true _ e)))

others_set : (refs now : List Ref) (changes : List Change) → T (is_sorted byte_cmp now) → T (is_sorted byte_cmp changes) → HoldSame now refs changes
    → with_changes now changes ≡ with_changes now (filter (is_moved refs) changes)
others_set refs now [] s t h = refl
others_set refs now (c ∷ cs) s t h =
    let rising = second (below_all byte_cmp c.0 cs) _ t in
    elim (is_moved refs c) as (λ b. is_moved refs c ≡ b → with_changes now (c ∷ cs) ≡ with_changes now (cond b (c ∷ filter (is_moved refs) cs) (filter (is_moved refs) cs))) [
      | true ↦ λ e. others_set refs (put byte_cmp c.0 c.1 now) cs (is_sorted-put byte_cmp order c.0 c.1 now s) rising (same_after c.0 c.1 now refs cs (first _ _ t) h.1)
      | false ↦ λ e. ap (λ rs. with_changes rs cs) (put_there c.0 c.1 now s (h.0 ∙ stands_so c.1 (lookup (same_bytes c.0) refs) e)) ∙ others_set refs now cs s rising h.1
    ] refl

-- ---- the refs that the tags give behind the branches

-- what is left out of these changes stands
abbrev LeftStand : (Change → Bool) → List Ref → List Change → Type 0
LeftStand test now changes = AllByRecursion (λ c. test c ≡ false → lookup (same_bytes c.0) now ≡ Some c.1) changes

-- so it does where a smaller name is set
stand_after : (test : Change → Bool) (n object : Bytes) (now : List Ref) (changes : List Change) → T (below_all byte_cmp n changes) → LeftStand test now changes → LeftStand test (put byte_cmp n object now) changes
stand_after test n object now [] b h = tt
stand_after test n object now (c ∷ cs) b h = (
  λ e. sym (found c.0 (put byte_cmp n object now)) ∙ find-put byte_cmp order c.0 n object now
      ∙ ap (λ t. cond t (Some object) (find byte_cmp c.0 now)) (name_apart n c.0 (first _ _ b))
      ∙ found c.0 now ∙ h.0 e,
  stand_after test n object now cs (second (is_lt (byte_cmp n c.0)) _ b) h.1,
)

left_set : (test : Change → Bool) (now : List Ref) (changes : List Change) → T (is_sorted byte_cmp now) → T (is_sorted byte_cmp changes) → LeftStand test now changes
    → with_changes now changes ≡ with_changes now (filter test changes)
left_set test now [] s t h = refl
left_set test now (c ∷ cs) s t h =
    let rising = second (below_all byte_cmp c.0 cs) _ t in
    elim (test c) as (λ b. test c ≡ b → with_changes now (c ∷ cs) ≡ with_changes now (cond b (c ∷ filter test cs) (filter test cs))) [
      | true ↦ λ e. left_set test (put byte_cmp c.0 c.1 now) cs (is_sorted-put byte_cmp order c.0 c.1 now s) rising (stand_after test c.0 c.1 now cs (first _ _ t) h.1)
      | false ↦ λ e. ap (λ rs. with_changes rs cs) (put_there c.0 c.1 now s (h.0 e)) ∙ left_set test now cs s rising h.1
    ] refl

-- changes that are set leave refs sorted
sorted_with : (refs : List Ref) (changes : List Change) → T (is_sorted byte_cmp refs) → T (is_sorted byte_cmp (with_changes refs changes))
sorted_with refs [] s = s
sorted_with refs (c ∷ cs) s = sorted_with (put byte_cmp c.0 c.1 refs) cs (is_sorted-put byte_cmp order c.0 c.1 refs s)

not_some : {X : Type 0} (o : Option X) → is_some o ≡ false → o ≡ None
not_some None e = refl
not_some (Some x) e = absurd (true≢false e)

neither : (a b : Bool) → (not a || b) ≡ false → (not a ≡ false) × (b ≡ false)
neither true b e = (refl, e)
neither false b e = absurd (true≢false e)

-- a row more at the front is none of this name, nor are those behind it
apart : {X : Type 0} (t : Bool) (x : X) (rest : Option X) → cond t (Some x) rest ≡ None → (t ≡ false) × (rest ≡ None)
apart true x rest e = absurd (cc)
apart false x rest e = (refl, e)

-- branches leave a ref as it is where none of them has its name
past_branches : {A : Type 0} (n : Bytes) (rows : List (Bytes × Tip A)) (refs : List Ref) → lookup (same_bytes n) rows ≡ None
    → lookup (same_bytes n) (with_changes refs (branch_changes rows)) ≡ lookup (same_bytes n) refs
past_branches n [] refs e = refl
past_branches n (row ∷ rows) refs e =
    let none = apart (same_bytes n row.0) row.1 (lookup (same_bytes n) rows) e in
    elim row.1.commit as (λ o. lookup (same_bytes n) (with_changes refs (branch_then row.0 o (branch_changes rows))) ≡ lookup (same_bytes n) refs) [
      | None ↦ past_branches n rows refs none.1
      | Some called ↦
          past_branches n rows (put byte_cmp row.0 called.bytes refs) none.1
          ∙ sym (found n (put byte_cmp row.0 called.bytes refs)) ∙ find-put byte_cmp order n row.0 called.bytes refs
          ∙ ap (λ t. cond t (Some called.bytes) (find byte_cmp n refs)) (is_eq-slice_cmp n row.0 ∙ none.0)
          ∙ found n refs
    ]

-- what is left out of the tags stands behind the branches
tags_stand : {A : Type 0} (branches : List (Bytes × Tip A)) (refs : List Ref) (tags : List Change) → LeftStand (is_due branches refs) (with_changes refs (branch_changes branches)) tags
tags_stand branches refs [] = tt
tags_stand branches refs (c ∷ cs) = (
  λ e.
      let neither = neither (is_at (lookup (same_bytes c.0) refs) c.1) (is_some (lookup (same_bytes c.0) branches)) e in
      past_branches c.0 branches refs (not_some _ neither.1) ∙ stands_so c.1 (lookup (same_bytes c.0) refs) neither.0,
  tags_stand branches refs cs,
)

below_tags : (n : Bytes) (rows : List (Bytes × Name)) → T (below_all byte_cmp n rows) → T (below_all byte_cmp n (tag_changes rows))
below_tags n [] h = tt
below_tags n (row ∷ rows) h = both _ _ (first (is_lt (byte_cmp n row.0)) _ h) (below_tags n rows (second (is_lt (byte_cmp n row.0)) _ h))

sorted_tags : (rows : List (Bytes × Name)) → T (is_sorted byte_cmp rows) → T (is_sorted byte_cmp (tag_changes rows))
sorted_tags [] h = tt
sorted_tags (row ∷ rows) h = both _ _ (below_tags row.0 rows (first (below_all byte_cmp row.0 rows) _ h)) (sorted_tags rows (second (below_all byte_cmp row.0 rows) _ h))

-- the moved branches and the tags that are to be set give what all branches and tags give
pub moved_set : {A : Type 0} (refs : List Ref) (tables : Tables A) → IsTrue (is_sorted byte_cmp refs) → IsTrue (is_sorted byte_cmp tables.branches) → IsTrue (is_sorted byte_cmp tables.tags) → with_changes refs (moved_of refs tables) ≡ with_changes refs (changes_of tables)
moved_set refs tables s t u =
    let branches = branch_changes tables.branches in
    let tags = tag_changes tables.tags in
    let due = is_due tables.branches refs in
    let set = sym (others_set refs refs branches (passes _ s) (sorted_changes tables.branches (passes _ t)) (hold_same refs branches)) in
    let rest = left_set due (with_changes refs branches) tags (sorted_with refs branches (passes _ s)) (sorted_tags tables.tags (passes _ u)) (tags_stand tables.branches refs tags) in
    fold-append with_change refs (filter (is_moved refs) branches) (filter due tags) ∙ ap (λ rs. fold with_change rs (filter due tags)) set ∙ sym rest ∙ sym (fold-append with_change refs branches tags)

-- ---- changes that are refused

none_of : (why later : Option Fault) → option_or why later ≡ None → (why ≡ None) × (later ≡ None)
none_of None later e = (refl, e)
none_of (Some why) later e = absurd (cc)

-- where none of more changes is refused, none of these is
pub fewer_free : (test : Change → Bool) (records : List Record) (changes others : List Change) → changes_fault records (changes ++ others) ≡ None → changes_fault records (filter test changes ++ others) ≡ None
fewer_free test records [] others e = e
fewer_free test records (c ∷ cs) others e =
    let free = none_of (change_fault records c) (changes_fault records (cs ++ others)) e in
    let rest = fewer_free test records cs others free.1 in
    elim (test c) as (λ b. changes_fault records (cond b (c ∷ filter test cs) (filter test cs) ++ others) ≡ None) [
      | true ↦ ap (λ why. option_or why (changes_fault records (filter test cs ++ others))) free.0 ∙ rest
      | false ↦ rest
    ]

-- nor behind others
pub fewer_behind : (test : Change → Bool) (records : List Record) (front changes : List Change) → changes_fault records (front ++ changes) ≡ None → changes_fault records (front ++ filter test changes) ≡ None
fewer_behind test records [] changes e = ap (changes_fault records) (sym (append-nil (filter test changes))) ∙ fewer_free test records changes [] (ap (changes_fault records) (append-nil changes) ∙ e)
fewer_behind test records (c ∷ cs) changes e =
    let free = none_of (change_fault records c) (changes_fault records (cs ++ changes)) e in
    ap (λ why. option_or why (changes_fault records (cs ++ filter test changes))) free.0 ∙ fewer_behind test records cs changes free.1
