-- The commands of one commit are replayed without a fault, and what the state is then.
use Rattle.std.proofs.Common.{◌≡◌, suc, ◌≤◌, Bool, true, false, cond, not, ◌||◌, Option, Some, None, Result, Ok, Err, List, [], ◌∷◌, ◌++◌, length, map, nat_eq, refl, sym, ap, subst, ◌∙◌, arith, append-nil, append_assoc, inl, inr}
use Rattle.std.proofs.lemmas.Bool.Decides.{nat_tests}
use Rattle.std.specs.Bool.{passes}
use Rattle.std.specs.FinMap.Entries.{put, is_sorted, below_all}
use Rattle.std.specs.List.{list_all, filter, AllByRecursion, cons_option}
use Rattle.std.specs.Map.{lookup}
use Rattle.std.specs.Ordering.{ordering_reverse, is_lt}
use Rattle.std.specs.Prelude.{IsTrue, T}
use Rattle.std.specs.declared.cmp.Ordering.TheVariants.{Greater}
use Rattle.gx_model.specs.Streams.Commands.{Change, Clear, Command, CommitIsh}
use Rattle.gx_model.specs.Histories.Edits.{modified}
use Rattle.gx_model.specs.Changes.{base_files}
use Rattle.gx_model.specs.Export.{blob_commands, carrier, commit_on, contents, dataref_in, file_change, marked_in, number_in, one_commit, reset_before, with_blobs, with_commit}
use Rattle.gx_model.specs.Laws.ExportLaws.{carried, numbered, state_at, steps, values_with_blobs, values_with_commit}
use Rattle.gx_model.specs.Faults.{◌>>=◌}
use Rattle.gx_model.specs.Histories.Files.{FileMap, are_apart, is_file_map}
use Rattle.gx_model.specs.Histories.{History, IsIn, is_in, no_history, with_one, with_value}
use Rattle.gx_model.specs.Texts.Paths.{Path, are_in_line, begins, is_file_path, path_cmp}
use Rattle.gx_model.specs.Replay.{State, all_changed, all_committed, at, committed_for, content, own_commit, step}
use Rattle.std.specs.Option.{ok_or}
use Rattle.gx_model.specs.Texts.{Bytes, byte_cmp, same_bytes}
use Rattle.gx_model.specs.Histories.Values.{Commit, Commits, Tag, Value, blob_value, commit, commit_value, commits_of, files_of, is_content, is_leaf, list_of, more, none, parents_of, same_value, unless_gitlink}
use Rattle.gx_model.specs.Texts.Digits.{is_lower_digit}
use Rattle.gx_model.specs.declared.faults.Fault.{Fault}
use Rattle.gx_model.specs.declared.faults.Fault.TheVariants.{UnknownMark}
use Rattle.gx_model.specs.declared.objects.Kind.{Kind}
use Rattle.gx_model.specs.declared.objects.Mode.{Mode}
use Rattle.gx_model.specs.declared.objects.Mode.TheVariants.{Dir, Exec, File, Gitlink, Link}
use Rattle.gx_model.proofs.Histories.AddedValues.{is_in_is}
use Rattle.gx_model.proofs.Histories.FileMapEdits.{parts_of, path_order}
use Rattle.gx_model.proofs.Texts.LowerDigits.{lower_again}
use Rattle.gx_model.proofs.Histories.PathRuns.{less_is}
use Rattle.gx_model.proofs.Texts.PathTests.{first, is_true, second}
use Rattle.gx_model.proofs.Histories.SameValues.{value_is, value_same}
use Rattle.gx_model.proofs.Texts.TextMaps.{lookup_put}
use Rattle.gx_model.specs.Streams.Commands as command

-- ---- numbers

pub number_small : (ws : List Value) (v : Value) → number_in ws v ≤ length ws
number_small [] v = omega arith
number_small (w ∷ ws) v =
    let small = number_small ws v in
    elim (same_value w v) as (λ t. cond t (suc (length ws)) (number_in ws v) ≤ suc (length ws)) [ true ↦ omega arith | false ↦ omega (arith, small) ]

pub number_found : (ws : List Value) (v : Value) → IsIn ws v → lookup (nat_eq (number_in ws v)) (numbered ws) ≡ Some v
number_found [] v h = absurd h
number_found (w ∷ ws) v h = by (λ k. number_found ws v k) (same_value w v) refl where
  by : (IsIn ws v → lookup (nat_eq (number_in ws v)) (numbered ws) ≡ Some v) → (t : Bool) → same_value w v ≡ t → lookup (nat_eq (cond t (suc (length ws)) (number_in ws v))) ((suc (length ws), w) ∷ numbered ws) ≡ Some v
  by again true e =
      let same : nat_eq (suc (length ws)) (suc (length ws)) ≡ true = grind (arith, nat_tests) in
      rw same (ap Some (value_is w v (subst T (sym e) tt)))
  by again false e =
      let small = number_small ws v in
      let other : nat_eq (number_in ws v) (suc (length ws)) ≡ false = grind (arith, nat_tests) in
      rw other (elim h [ inl is ↦ absurd (subst T (ap (same_value w) is ∙ e) (value_same w)) | inr k ↦ again k ])

-- ---- blobs

in_with : (ws : List Value) (x : Bytes) (v : Value) → IsIn ws v → IsIn (cond (is_in ws (blob_value x)) ws (blob_value x ∷ ws)) v
in_with ws x v h = elim (is_in ws (blob_value x)) as (λ t. IsIn (cond t ws (blob_value x ∷ ws)) v) [ true ↦ h | false ↦ inr h ]

pub blobs_keep : (ws : List Value) (xs : List Bytes) (v : Value) → IsIn ws v → IsIn (with_blobs ws xs) v
blobs_keep ws [] v h = h
blobs_keep ws (x ∷ xs) v h = blobs_keep (cond (is_in ws (blob_value x)) ws (blob_value x ∷ ws)) xs v (in_with ws x v h)

now_in : (ws : List Value) (x : Bytes) → IsIn (cond (is_in ws (blob_value x)) ws (blob_value x ∷ ws)) (blob_value x)
now_in ws x = elim (is_in ws (blob_value x)) as (λ t. is_in ws (blob_value x) ≡ t → IsIn (cond t ws (blob_value x ∷ ws)) (blob_value x)) [ true ↦ λ e. is_in_is ws (blob_value x) (subst T (sym e) tt) | false ↦ λ e. inl refl ] refl

pub blobs_have : (ws : List Value) (xs : List Bytes) → AllByRecursion (λ x. IsIn (with_blobs ws xs) (blob_value x)) xs
blobs_have ws [] = tt
blobs_have ws (x ∷ xs) = let now = cond (is_in ws (blob_value x)) ws (blob_value x ∷ ws) in (blobs_keep now xs (blob_value x) (now_in ws x), blobs_have now xs)

-- ---- files

-- no directory, and each gitlink with its digits
abbrev pub are_leaves : FileMap Bytes → Bool
are_leaves f = list_all (λ e. is_leaf e.1.0 e.1.1) f

pub map_of : (f : FileMap Bytes) → T (is_content f) → is_file_map f ≡ true
map_of f h = is_true _ (first (is_file_map f) (are_leaves f) h)

pub leaves_of : (f : FileMap Bytes) → T (is_content f) → T (are_leaves f)
leaves_of f h = second (is_file_map f) (are_leaves f) h

pub front_of : (P : Bytes → Type 0) (o : Option Bytes) (xs : List Bytes) → AllByRecursion P (cons_option o xs) → AllByRecursion P (cons_option o [])
front_of P None xs h = tt
front_of P (Some x) xs h = (h.0, tt)

pub rest_of : (P : Bytes → Type 0) (o : Option Bytes) (xs : List Bytes) → AllByRecursion P (cons_option o xs) → AllByRecursion P xs
rest_of P None xs h = h
rest_of P (Some x) xs h = h.1

commits_again : (ps : Commits) → commits_of (list_of ps) ≡ ps
commits_again none = refl
commits_again (more p ps) = ap (more p) (commits_again ps)

module _ {X : Type 0} where
  pub all_at : (t : Path × X → Bool) (before : List (Path × X)) (e : Path × X) (es : List (Path × X)) → T (list_all t (before ++ e ∷ es)) → T (t e)
  all_at t [] e es h = first (t e) _ h
  all_at t (f ∷ before) e es h = all_at t before e es (second (t f) _ h)

  below_at : (p : Path) (before : List (Path × X)) (e : Path × X) (es : List (Path × X)) → T (below_all path_cmp p (before ++ e ∷ es)) → T (is_lt (path_cmp p e.0))
  below_at p [] e es h = first _ _ h
  below_at p (f ∷ before) e es h = below_at p before e es (second _ _ h)

  apart_from : (before : List (Path × X)) (e : Path × X) (es : List (Path × X)) → T (are_apart (before ++ e ∷ es)) → filter (λ f. not (are_in_line e.0 f.0)) before ≡ before
  apart_from [] e es h = refl
  apart_from (f ∷ before) e es h =
      let rest = apart_from before e es (second _ _ h) in
      let out = is_true _ (swap f.0 e.0 (all_at (λ g. not (are_in_line f.0 g.0)) before e es (first _ _ h))) in
      rw (out, rest) refl
    where
      swap : (p q : Path) → T (not (are_in_line p q)) → T (not (are_in_line q p))
      swap p q k = by (begins p q) (begins q p) k where
        by : (a b : Bool) → T (not (a || b)) → T (not (b || a))
        by true b k = absurd k
        by false true k = absurd k
        by false false k = tt

  put_last : (before : List (Path × X)) (e : Path × X) (es : List (Path × X)) → T (is_sorted path_cmp (before ++ e ∷ es)) → put path_cmp e.0 e.1 before ≡ before ++ e ∷ []
  put_last [] e es h = refl
  put_last (f ∷ before) e es h =
      let less = less_is _ (below_at f.0 before e es (first _ _ h)) in
      let greater : path_cmp e.0 f.0 ≡ Greater = path_order.antisymm e.0 f.0 ∙ ap ordering_reverse less in
      rw greater (ap (λ t. f ∷ t) (put_last before e es (second _ _ h)))

  pub placed : (before : List (Path × X)) (e : Path × X) (es : List (Path × X)) → is_file_map (before ++ e ∷ es) ≡ true → modified before e.0 e.1 ≡ Ok (before ++ e ∷ [])
  placed before ([], x) es h = absurd (all_at (λ f. is_file_path f.0) before ([], x) es (parts_of (before ++ ([], x) ∷ es) h).paths)
  placed before ((c ∷ p), x) es h =
      let k = parts_of (before ++ ((c ∷ p), x) ∷ es) h in
      ap Ok (ap (put path_cmp (c ∷ p) x) (apart_from before ((c ∷ p), x) es k.apart) ∙ put_last before ((c ∷ p), x) es k.sorted)

-- a branch's commit, or none
abbrev pub Branches : Type 0
Branches = List (Bytes × Option Commit)

-- tags by their refs
abbrev pub Tags : Type 0
Tags = List (Bytes × Tag)

-- A replay that began with a history: these were written, and these are its values, its branches and its tags.
abbrev pub state_with : History → List Value → List Value → Branches → Tags → State
state_with h ws vs bs ts = record {
  history = record { values = vs; refs = h.refs };
  kept = record { history = h; checkpoints = 0 };
  published = [];
  marks = numbered ws;
  branches = bs;
  tags = ts;
  is_forced = false;
  progress = [];
  held = length h.values;
}

-- the branches after the reset before a commit with these parents
abbrev pub begun_on : Bytes → List Commit → Branches → Branches
begun_on r [] bs = put byte_cmp r None bs
begun_on r (p ∷ ps) bs = bs

-- and after the commit
abbrev pub committed_on : Bytes → Commit → Branches → Branches
committed_on r c bs = put byte_cmp r (Some c) (begun_on r (list_of (parents_of c)) bs)

module _ (name : Kind → Bytes → Bytes) where
  pub steps-append : (s : State) (xs ys : List Command) → steps name s (xs ++ ys) ≡ (steps name s xs >>= λ t. steps name t ys)
  steps-append s [] ys = refl
  steps-append s (x ∷ xs) ys = by (λ t. steps-append t xs ys) (step name s x) where
    by : ((t : State) → steps name t (xs ++ ys) ≡ (steps name t xs >>= λ t. steps name t ys)) → (r : Result State Fault) → (r >>= λ t. steps name t (xs ++ ys)) ≡ ((r >>= λ t. steps name t xs) >>= λ t. steps name t ys)
    by again (Ok t) = again t
    by again (Err e) = refl

  pub steps_after : (s t : State) (xs ys : List Command) → steps name s xs ≡ Ok t → steps name s (xs ++ ys) ≡ steps name t ys
  steps_after s t xs ys e = steps-append s xs ys ∙ ap (λ r. r >>= λ u. steps name u ys) e

module _ (name : Kind → Bytes → Bytes) (h : History) (ts : Tags) where
  -- the state of such a replay
  abbrev at_now : List Value → List Value → Branches → State
  at_now ws vs bs = state_with h ws vs bs ts

  pub blobs_replayed : (ws vs : List Value) (bs : Branches) (xs : List Bytes) → steps name (at_now ws vs bs) (blob_commands ws xs) ≡ Ok (at_now (with_blobs ws xs) (values_with_blobs ws vs xs) bs)
  blobs_replayed ws vs bs [] = refl
  blobs_replayed ws vs bs (x ∷ xs) =
      let held = blobs_replayed ws vs bs xs in
      let new = blobs_replayed (blob_value x ∷ ws) (with_one vs (blob_value x)) bs xs in
      elim (is_in ws (blob_value x)) as (λ t. steps name (at_now ws vs bs) (cond t (blob_commands ws xs) (command.Blob (record { mark = Some (suc (length ws)); bytes = x }) ∷ blob_commands (blob_value x ∷ ws) xs))
      ≡ Ok (at_now (with_blobs (cond t ws (blob_value x ∷ ws)) xs) (cond t (values_with_blobs ws vs xs) (values_with_blobs (blob_value x ∷ ws) (with_one vs (blob_value x)) xs)) bs)) [ true ↦ held | false ↦ new ]

  -- ---- parents

  mark_gives : (ws vs : List Value) (bs : Branches) (v : Value) → IsIn ws v → at (at_now ws vs bs) (number_in ws v) ≡ Ok v
  mark_gives ws vs bs v k = ap (λ o. ok_or o UnknownMark) (number_found ws v k)

  -- these texts name these commits, for a command of a branch
  abbrev pub AreNamed : Bytes → (Commit → CommitIsh) → State → List Commit → Type 0
  AreNamed r names s ps = AllByRecursion (λ p. committed_for name r s (names p) ≡ Ok p) ps

  -- marks name what was written
  pub marks_name : (r : Bytes) (ws vs : List Value) (bs : Branches) (ps : List Commit) → AllByRecursion (λ p. IsIn ws (commit_value p)) ps → AreNamed r (λ p. marked_in ws (commit_value p)) (at_now ws vs bs) ps
  marks_name r ws vs bs [] k = tt
  marks_name r ws vs bs (p ∷ ps) k = (rw (mark_gives ws vs bs (commit_value p) k.0) refl, marks_name r ws vs bs ps k.1)

  others_given : (r : Bytes) (names : Commit → CommitIsh) (s : State) (ps : List Commit) → AreNamed r names s ps → all_committed name r s (map names ps) ≡ Ok ps
  others_given r names s [] k = refl
  others_given r names s (p ∷ ps) k = rw (k.0, others_given r names s ps k.1) refl

  -- ---- files

  pub content_given : (ws vs : List Value) (bs : Branches) (m : Mode) (x : Bytes) → T (is_leaf m x) → AllByRecursion (λ y. IsIn ws (blob_value y)) (cons_option (unless_gitlink m x) []) → content name (at_now ws vs bs) m (dataref_in ws m x) ≡ Ok (at_now ws vs bs, x)
  content_given ws vs bs File x l k = rw (mark_gives ws vs bs (blob_value x) k.0) refl
  content_given ws vs bs Exec x l k = rw (mark_gives ws vs bs (blob_value x) k.0) refl
  content_given ws vs bs Link x l k = rw (mark_gives ws vs bs (blob_value x) k.0) refl
  content_given ws vs bs Dir x l k = absurd l
  content_given ws vs bs Gitlink x l k = ap (λ d. Ok (at_now ws vs bs, d)) (lower_again x (second (nat_eq (length x) 40) (list_all is_lower_digit x) l))

  files_given : (ws vs : List Value) (bs : Branches) (before es : FileMap Bytes) → is_file_map (before ++ es) ≡ true → T (are_leaves es) → AllByRecursion (λ y. IsIn ws (blob_value y)) (contents es)
      → all_changed name (at_now ws vs bs) before (map (file_change ws) es) ≡ Ok (at_now ws vs bs, before ++ es)
  files_given ws vs bs before [] f l k = ap (λ g. Ok (at_now ws vs bs, g)) (sym (append-nil before))
  files_given ws vs bs before (e ∷ es) f l k =
      let again = files_given ws vs bs (before ++ e ∷ []) es (ap is_file_map (append_assoc before (e ∷ []) es) ∙ f) (second (is_leaf e.1.0 e.1.1) _ l) (rest_of (λ y. IsIn ws (blob_value y)) (unless_gitlink e.1.0 e.1.1) (contents es) k) in
      let given = content_given ws vs bs e.1.0 e.1.1 (first (is_leaf e.1.0 e.1.1) _ l) (front_of (λ y. IsIn ws (blob_value y)) (unless_gitlink e.1.0 e.1.1) (contents es) k) in
      rw given (rw (placed before e es f) again) ∙ ap (λ g. Ok (at_now ws vs bs, g)) (append_assoc before (e ∷ []) es)

  -- ---- the commit

  -- A commit whose parents are named, whose changes make its files of its first parent's, and whose branch has no commit if it has no parent.
  pub commit_replayed : (r : Bytes) (names : Commit → CommitIsh) (changes : List Change) (ws vs : List Value) (bs : Branches) (c : Commit) → AreNamed r names (at_now ws vs bs) (list_of (parents_of c))
      → all_changed name (at_now ws vs bs) (base_files (list_of (parents_of c))) changes ≡ Ok (at_now ws vs bs, files_of c) → (list_of (parents_of c) ≡ [] → own_commit (lookup (same_bytes r) bs) ≡ None)
      → step name (at_now ws vs bs) (commit_on r names changes ws c) ≡ Ok (at_now (commit_value c ∷ ws) (with_value vs (commit_value c)) (put byte_cmp r (Some c) bs))
  commit_replayed r names changes ws vs bs (commit f none t) k g n = rw (n refl, g) refl
  commit_replayed r names changes ws vs bs (commit f (more p ps) t) k g n = rw (k.0, others_given r names (at_now ws vs bs) (list_of ps) k.1, g, commits_again ps) refl

  alone : (r : Result State Fault) → (r >>= λ t. steps name t []) ≡ r
  alone (Ok t) = refl
  alone (Err e) = refl

  reset_replayed : (r : Bytes) (ps : List Commit) (ws vs : List Value) (bs : Branches) (rest : List Command) → steps name (at_now ws vs bs) (reset_before r ps ++ rest) ≡ steps name (at_now ws vs (begun_on r ps bs)) rest
  reset_replayed r [] ws vs bs rest = refl
  reset_replayed r (p ∷ ps) ws vs bs rest = refl

  none_begun : (r : Bytes) (ps : List Commit) (bs : Branches) → ps ≡ [] → own_commit (lookup (same_bytes r) (begun_on r ps bs)) ≡ None
  none_begun r [] bs e = ap own_commit (lookup_put r None bs)
  none_begun r (p ∷ ps) bs e = absurd cc

  -- The blobs of a commit, the reset before it, and itself.
  pub block_replayed : (r : Bytes) (names : Commit → CommitIsh) (changes : List Change) (ws vs : List Value) (bs : Branches) (xs : List Bytes) (c : Commit)
      → (let us = with_blobs ws xs in let s = at_now us (values_with_blobs ws vs xs) (begun_on r (list_of (parents_of c)) bs) in
      AreNamed r names s (list_of (parents_of c)) × (all_changed name s (base_files (list_of (parents_of c))) changes ≡ Ok (s, files_of c)))
      → steps name (at_now ws vs bs) (blob_commands ws xs ++ (reset_before r (list_of (parents_of c)) ++ (commit_on r names changes (with_blobs ws xs) c ∷ [])))
      ≡ Ok (at_now (commit_value c ∷ with_blobs ws xs) (with_value (values_with_blobs ws vs xs) (commit_value c)) (committed_on r c bs))
  block_replayed r names changes ws vs bs xs c k =
      let us = with_blobs ws xs in
      let ps = list_of (parents_of c) in
      let end = reset_before r ps ++ (commit_on r names changes us c ∷ []) in
      steps_after name (at_now ws vs bs) (at_now us (values_with_blobs ws vs xs) bs) (blob_commands ws xs) end (blobs_replayed ws vs bs xs)
      ∙ reset_replayed r ps us (values_with_blobs ws vs xs) bs (commit_on r names changes us c ∷ []) ∙ alone _
      ∙ commit_replayed r names changes us (values_with_blobs ws vs xs) (begun_on r ps bs) c k.0 k.1 (λ e. none_begun r ps bs e)

abbrev AllIn : List Value → List Commit → Type 0
AllIn ws ps = AllByRecursion (λ p. IsIn ws (commit_value p)) ps

pub all_still : (ws : List Value) (xs : List Bytes) (ps : List Commit) → AllIn ws ps → AllIn (with_blobs ws xs) ps
all_still ws xs [] h = tt
all_still ws xs (p ∷ ps) h = (blobs_keep ws xs (commit_value p) h.0, all_still ws xs ps h.1)

one_carried : (b : Option (Option Commit)) (c : Commit) → committed_on carrier c (carried b) ≡ carried (Some (Some c))
one_carried None (commit f none t) = refl
one_carried (Some x) (commit f none t) = refl
one_carried None (commit f (more p ps) t) = refl
one_carried (Some x) (commit f (more p ps) t) = refl

module _ (name : Kind → Bytes → Bytes) where
  pub one_commit_replayed : (ws vs : List Value) (b : Option (Option Commit)) (c : Commit) → IsTrue (is_content (files_of c)) → AllByRecursion (λ p. IsIn ws (commit_value p)) (list_of (parents_of c))
      → steps name (state_at ws vs b) (one_commit ws c) ≡ Ok (state_at (with_commit ws c) (values_with_commit ws vs c) (Some (Some c)))
  one_commit_replayed ws vs b c h k =
      let xs = contents (files_of c) in
      let ps = list_of (parents_of c) in
      let us = with_blobs ws xs in
      let now = values_with_blobs ws vs xs in
      let bs = begun_on carrier ps (carried b) in
      block_replayed name no_history [] carrier (λ p. marked_in us (commit_value p)) (Clear ∷ map (file_change us) (files_of c)) ws vs (carried b) xs c (
        marks_name name no_history [] carrier us now bs ps (all_still ws xs ps k),
        files_given name no_history [] us now bs [] (files_of c) (map_of (files_of c) (passes _ h)) (leaves_of (files_of c) (passes _ h)) (blobs_have ws xs),
      )
      ∙ ap (λ cs. Ok (state_with no_history (with_commit ws c) (values_with_commit ws vs c) cs [])) (one_carried b c)
