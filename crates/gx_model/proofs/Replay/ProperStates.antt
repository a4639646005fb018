-- States of a replay whose history is proper: what is added to them, their files, and what a checkpoint makes of them.
use Rattle.std.proofs.Common.{◌≡◌, ℕ, suc, Bool, true, false, cond, List, [], ◌∷◌, map, Option, None, Some, Result, Ok, Err, refl, sym, ap, subst, arith}
use Rattle.std.specs.Prelude.{IfOk, IfSome, T, ◌==◌, length}
use Rattle.std.specs.Bool.{passes}
use Rattle.std.proofs.lemmas.Grind.{common_steps}
use Rattle.std.proofs.lemmas.Bool.Decides.{nat_tests}
use Rattle.std.specs.List.{AllByRecursion, cons_option, fold, list_all}
use Rattle.std.specs.FinMap.Entries.{by_order, is_sorted, is_sorted-put, put}
use Rattle.std.specs.declared.cmp.Ordering.TheVariants.{Less, Equal, Greater}
use Rattle.gx_model.specs.declared.faults.Fault.TheVariants as fault
use Rattle.gx_model.specs.Texts.{Bytes, byte_cmp}
use Rattle.gx_model.specs.Texts.RefNames.{is_ref_name, tag_ref}
use Rattle.gx_model.specs.Histories.Files.{FileMap, Leaf, is_file_map}
use Rattle.gx_model.specs.Histories.Values.{Commit, Tag, Value, blob_of, blob_value, blobs_of, commit_value, files_of, is_content, is_leaf, is_proper, list_of, parents_of, sub_maps, tag_value, tree_value}
use Rattle.gx_model.specs.Texts.Digits.{is_any_digit, is_any_name_text, is_lower_digit, is_name_text, lower}
use Rattle.gx_model.specs.Histories.{History, IsHistory, IsIn, IsRefOf, IsWhole, Target, at_commit, at_tag, value_at, with_value}
use Rattle.gx_model.specs.Laws.HistoryLaws.{needs}
use Rattle.gx_model.specs.Replay.{State, added, checkpointed, final, final_refs, is_fast_forward, marked, on_branch, start, step_checkpoint, with_branch}
use Rattle.gx_model.proofs.Texts.PathTests.{both, first, is_true, second}
use Rattle.gx_model.proofs.Histories.FileMapEdits.{Parts, of_parts, parts_of}
use Rattle.gx_model.proofs.ObjectTexts.OneTree.{all_left, all_unmap}
use Rattle.gx_model.proofs.Histories.AddedValues.{keeps, value_added}
use Rattle.gx_model.proofs.Records.LinkedValues.{parts_in, proper_in}
use Rattle.gx_model.proofs.Export.KeptCommits.{each_in}
use Rattle.gx_model.proofs.Records.SortedRefs.{order, same_text}
use Rattle.gx_model.proofs.Replay.GivenCommits.{IsStateOf, OfCommit, all_each}

-- ---- lists

-- an entry put among others under its name
pub put_each : {X : Type 0} (P : Bytes × X → Type 0) (n : Bytes) (x : X) (es : List (Bytes × X)) → P (n, x) → AllByRecursion P es → AllByRecursion P (put byte_cmp n x es)
put_each P n x [] is h = (is, tt)
put_each P n x (e ∷ es) is h =
    elim (byte_cmp n e.0) as (λ o. byte_cmp n e.0 ≡ o → AllByRecursion P (by_order o ((n, x) ∷ e ∷ es) ((e.0, x) ∷ es) (e ∷ put byte_cmp n x es))) [
      | Less ↦ λ q. (is, h)
      | Equal ↦ λ q. (subst (λ m. P (m, x)) (same_text n e.0 q) is, h.1)
      | Greater ↦ λ q. (h.0, put_each P n x es is h.1)
    ] refl

-- what holds of both
pub both_ok : {A E : Type 0} (P Q : A → Type 0) (r : Result A E) → IfOk r P → IfOk r Q → IfOk r (λ x. P x × Q x)
both_ok P Q (Ok x) h k = (h, k)
both_ok P Q (Err e) h k = tt

-- ---- values

-- what stands among these stands among those
abbrev pub Grows : List Value → List Value → Type 0
Grows vs ws = (u : Value) → IsIn vs u → IsIn ws u

abbrev pub IsHeld : List Value → Commit → Type 0
IsHeld vs c = IsIn vs (commit_value c)

-- a commit's parents are held with it
pub elders : (vs : List Value) → IsWhole vs → (c : Commit) → IsHeld vs c → AllByRecursion (IsHeld vs) (list_of (parents_of c))
elders vs whole c i = all_unmap (IsIn vs) commit_value (list_of (parents_of c)) (parts_in vs (commit_value c) whole i).1

-- the commit of a held value is held
of_held : (vs : List Value) → IsWhole vs → (v : Value) → IsIn vs v → OfCommit (IsHeld vs) v
of_held vs whole (blob_value x) i = tt
of_held vs whole (tree_value f) i = tt
of_held vs whole (commit_value c) i = i
of_held vs whole (tag_value t) i = (parts_in vs (tag_value t) whole i).0

pub whole_of : (h : History) → IsHistory h → IsWhole h.values
whole_of h is = record { closed = is.closed; proper = is.proper }

-- ---- files

-- a file whose bytes are held, or a gitlink with the digits of a name
abbrev pub IsKept : List Value → Leaf Bytes → Type 0
IsKept vs leaf = T (is_leaf leaf.0 leaf.1) × IfSome (blob_of leaf.0 leaf.1) (IsIn vs)

-- a file map of such files
pub record AreFiles (vs : List Value) (f : FileMap Bytes) : Type 0 where
  pub parts : Parts f
  pub leaves : AllByRecursion (λ file. IsKept vs file.1) f

pub grown : (vs ws : List Value) → Grows vs ws → (f : FileMap Bytes) → AreFiles vs f → AreFiles ws f
grown vs ws g f h = record { parts = h.parts; leaves = all_each (λ file. IsKept vs file.1) (λ file. IsKept ws file.1) (λ file k. (k.0, by (blob_of file.1.0 file.1.1) k.1)) f h.leaves }
  where
    by : (o : Option Value) → IfSome o (IsIn vs) → IfSome o (IsIn ws)
    by None k = tt
    by (Some v) k = g v k

-- the leaves of a held file map
leaves_kept : (vs : List Value) (f : FileMap Bytes) → T (list_all (λ entry. is_leaf entry.1.0 entry.1.1) f) → AllByRecursion (IsIn vs) (blobs_of f) → AllByRecursion (λ file. IsKept vs file.1) f
leaves_kept vs [] t h = tt
leaves_kept vs (e ∷ es) t h =
    let both = by (blob_of e.1.0 e.1.1) h in
    ((first (is_leaf e.1.0 e.1.1) _ t, both.0), leaves_kept vs es (second (is_leaf e.1.0 e.1.1) _ t) both.1)
  where
    by : (o : Option Value) → AllByRecursion (IsIn vs) (cons_option o (blobs_of es)) → IfSome o (IsIn vs) × AllByRecursion (IsIn vs) (blobs_of es)
    by None k = (tt, k)
    by (Some v) k = k

pub blobs_kept : (vs : List Value) (f : FileMap Bytes) → AllByRecursion (λ file. IsKept vs file.1) f → AllByRecursion (IsIn vs) (blobs_of f)
blobs_kept vs [] h = tt
blobs_kept vs (e ∷ es) h = by (blob_of e.1.0 e.1.1) h.0.1 (blobs_kept vs es h.1)
  where
    by : (o : Option Value) → IfSome o (IsIn vs) → AllByRecursion (IsIn vs) (blobs_of es) → AllByRecursion (IsIn vs) (cons_option o (blobs_of es))
    by None k l = l
    by (Some v) k l = (k, l)

all_leaves : (vs : List Value) (f : FileMap Bytes) → AllByRecursion (λ file. IsKept vs file.1) f → T (list_all (λ entry. is_leaf entry.1.0 entry.1.1) f)
all_leaves vs [] h = tt
all_leaves vs (e ∷ es) h = both (is_leaf e.1.0 e.1.1) _ h.0.0 (all_leaves vs es h.1)

pub content_of : (vs : List Value) (f : FileMap Bytes) → AreFiles vs f → T (is_content f)
content_of vs f h = both (is_file_map f) _ (passes _ (of_parts f h.parts)) (all_leaves vs f h.leaves)

pub files_held : (vs : List Value) → IsWhole vs → (c : Commit) → IsHeld vs c → AreFiles vs (files_of c)
files_held vs whole c i =
    let f = files_of c in
    let t : T (is_content f) = first (is_content f) _ (proper_in vs (commit_value c) (passes _ whole.proper) i) in
    let tree = (parts_in vs (commit_value c) whole i).0 in
    record {
      parts = parts_of f (is_true _ (first (is_file_map f) _ t));
      leaves = leaves_kept vs f (second (is_file_map f) _ t) (all_left (IsIn vs) (blobs_of f) (map tree_value (sub_maps f)) (parts_in vs (tree_value f) whole tree));
    }

-- a name's digits, in lower case
digit_lowered : (d : ℕ) → is_any_digit d ≡ true → is_lower_digit (lower d) ≡ true
digit_lowered d h = grind (arith, common_steps, nat_tests, h)

digits_lowered : (x : Bytes) → T (list_all is_any_digit x) → T (list_all is_lower_digit (map lower x))
digits_lowered [] h = tt
digits_lowered (d ∷ x) h = both _ _ (passes _ (digit_lowered d (is_true _ (first (is_any_digit d) _ h)))) (digits_lowered x (second (is_any_digit d) _ h))

length_lowered : (x : Bytes) → length (map lower x) ≡ length x
length_lowered [] = refl
length_lowered (d ∷ x) = ap suc (length_lowered x)

pub name_lowered : (x : Bytes) → T (is_any_name_text x) → T (is_name_text (map lower x))
name_lowered x h = both _ _ (subst (λ n. T (n == 40)) (sym (length_lowered x)) (second (list_all is_any_digit x) _ h)) (digits_lowered x (first (list_all is_any_digit x) _ h))

-- ---- states

-- a branch has a ref name, and stands at a commit that is held, or at none
abbrev IsBranch : List Value → Bytes × Option Commit → Type 0
IsBranch vs branch = T (is_ref_name branch.0) × IfSome branch.1 (IsHeld vs)

-- a tag is held, and its own name makes its ref
pub record IsMadeTag (vs : List Value) (made : Bytes × Tag) : Type 0 where
  pub ref : T (is_ref_name made.0)
  pub own : made.0 ≡ tag_ref made.1.name
  pub held : IsIn vs (tag_value made.1)

-- a state whose history is proper, and holds what its marks, branches and tags stand for
pub record IsProperState (s : State) : Type 0 where
  pub history : IsHistory s.history
  pub kept : IsHistory s.kept.history
  pub marks : AllByRecursion (λ mark. IsIn s.history.values mark.1) s.marks
  pub branches : AllByRecursion (IsBranch s.history.values) s.branches
  pub tags : AllByRecursion (IsMadeTag s.history.values) s.tags

-- the commits that such a state stands for are held
pub commits_held : (s : State) → IsProperState s → IsStateOf (IsHeld s.history.values) s
commits_held s h =
    let vs = s.history.values in
    let whole = whole_of s.history h.history in
    record {
      values = each_in (OfCommit (IsHeld vs)) vs (of_held vs whole);
      refs = all_each (λ ref. IsIn vs (value_at ref.1)) (λ ref. OfCommit (IsHeld vs) (value_at ref.1)) (λ ref i. of_held vs whole (value_at ref.1) i) s.history.refs h.history.held;
      marks = all_each (λ mark. IsIn vs mark.1) (λ mark. OfCommit (IsHeld vs) mark.1) (λ mark i. of_held vs whole mark.1 i) s.marks h.marks;
      branches = all_each (IsBranch vs) (λ branch. IfSome branch.1 (IsHeld vs)) (λ branch k. k.1) s.branches h.branches;
    }

pub start_proper : (h : History) → IsHistory h → IsProperState (start h)
start_proper h is = record { history = is; kept = is; marks = tt; branches = tt; tags = tt }

-- a value that is added to such a state
pub record IsAddedTo (s : State) (v : Value) : Type 0 where
  pub state : IsProperState (added v s)
  pub grows : Grows s.history.values (with_value s.history.values v)
  pub has : IsIn (with_value s.history.values v) v

pub added_proper : (v : Value) (s : State) → IsProperState s → T (is_proper v) → AllByRecursion (IsIn s.history.values) (needs v) → IsAddedTo s v
added_proper v s h t n =
    let vs = s.history.values in
    let ws = with_value vs v in
    let a = value_added vs v (whole_of s.history h.history) t n in
    let g : Grows vs ws = keeps vs v ws a in
    record {
      state = record {
        history = record {
          proper = a.whole.proper;
          closed = a.whole.closed;
          sorted = h.history.sorted;
          ref_names = h.history.ref_names;
          held = all_each (λ ref. IsIn vs (value_at ref.1)) (λ ref. IsIn ws (value_at ref.1)) (λ ref i. g (value_at ref.1) i) s.history.refs h.history.held;
          own = h.history.own;
        };
        kept = h.kept;
        marks = all_each (λ mark. IsIn vs mark.1) (λ mark. IsIn ws mark.1) (λ mark i. g mark.1 i) s.marks h.marks;
        branches = all_each (IsBranch vs) (IsBranch ws) (λ branch k. (k.0, still vs ws g branch.1 k.1)) s.branches h.branches;
        tags = all_each (IsMadeTag vs) (IsMadeTag ws) (λ made k. record { ref = k.ref; own = k.own; held = g (tag_value made.1) k.held }) s.tags h.tags;
      };
      grows = g;
      has = a.has;
    }
  where
    still : (vs ws : List Value) → Grows vs ws → (o : Option Commit) → IfSome o (IsHeld vs) → IfSome o (IsHeld ws)
    still vs ws g None k = tt
    still vs ws g (Some c) k = g (commit_value c) k

pub marked_proper : (m : Option ℕ) (v : Value) (s : State) → IsProperState s → IsIn s.history.values v → IsProperState (marked m v s)
marked_proper None v s h i = h
marked_proper (Some n) v s h i = record { history = h.history; kept = h.kept; marks = (i, h.marks); branches = h.branches; tags = h.tags }

-- to set a mark leaves the values
pub marked_values : (m : Option ℕ) (v : Value) (s : State) → (marked m v s).history.values ≡ s.history.values
marked_values None v s = refl
marked_values (Some n) v s = refl

pub on_branch_proper : (n : Bytes) (o : Option Commit) (s : State) → IsProperState s → T (is_ref_name n) → IfSome o (IsHeld s.history.values) → IsProperState (on_branch n o s)
on_branch_proper n o s h is k = record { history = h.history; kept = h.kept; marks = h.marks; branches = put_each (IsBranch s.history.values) n o s.branches (is, k) h.branches; tags = h.tags }

-- ---- checkpoints, and the end

-- a ref has a ref name, and stands at a held commit or a held tag of its own
record IsRef (vs : List Value) (ref : Bytes × Target) : Type 0 where
  pub named : T (is_ref_name ref.0)
  pub held : IsIn vs (value_at ref.1)
  pub own : IsRefOf ref.0 ref.1

record AreRefs (vs : List Value) (refs : List (Bytes × Target)) : Type 0 where
  pub sorted : T (is_sorted byte_cmp refs)
  pub each : AllByRecursion (IsRef vs) refs

put_ref : (vs : List Value) (n : Bytes) (t : Target) (refs : List (Bytes × Target)) → AreRefs vs refs → IsRef vs (n, t) → AreRefs vs (put byte_cmp n t refs)
put_ref vs n t refs h is = record { sorted = is_sorted-put byte_cmp order n t refs h.sorted; each = put_each (IsRef vs) n t refs is h.each }

branches_put : (vs : List Value) (bs : List (Bytes × Option Commit)) (refs : List (Bytes × Target)) → AllByRecursion (IsBranch vs) bs → AreRefs vs refs → AreRefs vs (fold with_branch refs bs)
branches_put vs [] refs k h = h
branches_put vs (b ∷ bs) refs k h = branches_put vs bs (with_branch refs b) k.1 (by b.1 k.0.1)
  where
    by : (o : Option Commit) → IfSome o (IsHeld vs) → AreRefs vs (elim o [ None ↦ refs | Some c ↦ put byte_cmp b.0 (at_commit c) refs ])
    by None i = h
    by (Some c) i = put_ref vs b.0 (at_commit c) refs h (record { named = k.0.0; held = i; own = tt })

abbrev with_tag : List (Bytes × Target) → Bytes × Tag → List (Bytes × Target)
with_tag refs made = put byte_cmp made.0 (at_tag made.1) refs

tags_put : (vs : List Value) (ts : List (Bytes × Tag)) (refs : List (Bytes × Target)) → AllByRecursion (IsMadeTag vs) ts → AreRefs vs refs → AreRefs vs (fold with_tag refs ts)
tags_put vs [] refs k h = h
tags_put vs (t ∷ ts) refs k h = tags_put vs ts (with_tag refs t) k.1 (put_ref vs t.0 (at_tag t.1) refs h (record { named = k.0.ref; held = k.0.held; own = k.0.own }))

refs_of : (vs : List Value) (refs : List (Bytes × Target)) → T (list_all (λ ref. is_ref_name ref.0) refs) → AllByRecursion (λ ref. IsIn vs (value_at ref.1)) refs → AllByRecursion (λ ref. IsRefOf ref.0 ref.1) refs → AllByRecursion (IsRef vs) refs
refs_of vs [] n h o = tt
refs_of vs (r ∷ rs) n h o = (record { named = first (is_ref_name r.0) _ n; held = h.0; own = o.0 }, refs_of vs rs (second (is_ref_name r.0) _ n) h.1 o.1)

names_of : (vs : List Value) (refs : List (Bytes × Target)) → AllByRecursion (IsRef vs) refs → T (list_all (λ ref. is_ref_name ref.0) refs)
names_of vs [] h = tt
names_of vs (r ∷ rs) h = both (is_ref_name r.0) _ h.0.named (names_of vs rs h.1)

pub final_proper : (s : State) → IsProperState s → IsHistory (final s)
final_proper s h =
    let vs = s.history.values in
    let is = h.history in
    let old : AreRefs vs s.history.refs = record { sorted = passes _ is.sorted; each = refs_of vs s.history.refs (passes _ is.ref_names) is.held is.own } in
    let new : AreRefs vs (final_refs s) = tags_put vs s.tags (fold with_branch s.history.refs s.branches) h.tags (branches_put vs s.branches s.history.refs h.branches old) in
    record {
      proper = is.proper;
      closed = is.closed;
      sorted = is_true _ new.sorted;
      ref_names = is_true _ (names_of vs (final_refs s) new.each);
      held = all_each (IsRef vs) (λ ref. IsIn vs (value_at ref.1)) (λ ref k. k.held) (final_refs s) new.each;
      own = all_each (IsRef vs) (λ ref. IsRefOf ref.0 ref.1) (λ ref k. k.own) (final_refs s) new.each;
    }

-- what a checkpoint makes of such a state
checkpointed_proper : (s : State) → IsProperState s → IsProperState (checkpointed s)
checkpointed_proper s h = let is = final_proper s h in record { history = is; kept = is; marks = h.marks; branches = h.branches; tags = h.tags }

pub checkpoint_step : (s : State) → IsProperState s → IfOk (step_checkpoint s) IsProperState
checkpoint_step s h = by (is_fast_forward s)
  where
    by : (b : Bool) → IfOk (cond b (Ok (checkpointed s)) (Err fault.NotFastForward)) IsProperState
    by true = checkpointed_proper s h
    by false = tt
