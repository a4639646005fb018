-- What a commit-ish gives is never refused because a name is held: nothing is added there.
use Rattle.std.proofs.Common.{ℕ, zero, suc, Bool, true, false, cond, List, [], ◌∷◌, length, Option, Some, None, Result, Ok, Err}
use Rattle.std.specs.Prelude.{nat_eq, nat_le, nat_lt, ◌&&◌, ⊤, ◌==◌}
use Rattle.std.specs.List.{list_all, slice_get}
use Rattle.std.specs.Map.{lookup}
use Rattle.gx_model.specs.declared.faults.Fault.{Fault}
use Rattle.gx_model.specs.declared.faults.Fault.TheVariants as fault
use Rattle.gx_model.specs.declared.objects.Kind.{Kind}
use Rattle.gx_model.specs.Texts.{Bytes, cut_at, same_bytes}
use Rattle.gx_model.specs.Texts.Numbers.{decimal_of}
use Rattle.gx_model.specs.Texts.RefNames.{is_ref_name}
use Rattle.gx_model.specs.Texts.Paths.{Path, is_component, parts_of, path_of}
use Rattle.gx_model.specs.Faults.{◌>>=◌}
use Rattle.std.specs.Option.{ok_or}
use Rattle.gx_model.specs.Histories.Files.{FileMap, Leaf, file_at, sub_map}
use Rattle.gx_model.specs.Histories.Values.{Commit, Value, blob_value, commit_value, list_of, parents_of, tag_value, tree_value}
use Rattle.gx_model.specs.Histories.{History, Target, value_at}
use Rattle.gx_model.specs.Revisions.{Revision, Suffix, ancestor, as_blob, as_commit, as_tag, as_tree, base_and_suffixes, base_of, braced_or_parent, braced_suffixes, itself, number_or_one, optional_path, parent, peeled, revision_in, revision_of, suffix_of, suffixes_of, with_path}
use Rattle.gx_model.specs.Revisions.Denotation.{Shown, all_suffixed, are_digits, at_path, base_value, begun_by, commit_in, denoted, files_in, find_ref, full_name, nth_ancestor, nth_parent, object, of_leaf, of_sub_map, only_blob, only_commit, only_tag, peel, shown_at, shown_value, submodule, suffixed, the_one, value_denoted}
use Rattle.gx_model.specs.Streams.Commands.{CommitIsh, CommitParts, Marked, Named}
use Rattle.gx_model.specs.Replay.{State, all_committed, at, commit_alone, committed, committed_for, first_parent, names_itself, or_branch}

-- a fault that isn't for a held name
abbrev pub IsOther : Fault → Type 0
IsOther fault.NameHeld = ⊥
IsOther _ = ⊤

-- no refusal because a name is held
abbrev pub IsAnswer : {X : Type 0} → Result X Fault → Type 0
IsAnswer (Ok x) = ⊤
IsAnswer (Err e) = IsOther e

pub then_answers : {X Y : Type 0} (o : Result X Fault) (f : X → Result Y Fault) → IsAnswer o → ((x : X) → IsAnswer (f x)) → IsAnswer (o >>= f)
then_answers (Ok x) f h k = k x
then_answers (Err e) f h k = h

or_answers : {X : Type 0} (o : Option X) (e : Fault) → IsOther e → IsAnswer (ok_or o e)
or_answers None e h = h
or_answers (Some x) e h = tt

-- ---- the text of a revision

base_answers : (x : Bytes) → IsAnswer (base_of x)
base_answers x = elim (same_bytes x (64 ∷ [])) as (λ b. IsAnswer (cond b (Ok (72 ∷ 69 ∷ 65 ∷ 68 ∷ [])) (cond (is_ref_name x) (Ok x) (Err fault.BadRevision)))) [
  | true ↦ tt
  | false ↦ elim (is_ref_name x) as (λ b. IsAnswer (cond b (Ok x) (Err fault.BadRevision))) [ true ↦ tt | false ↦ tt ]
]

number_answers : (x : Bytes) → IsAnswer (number_or_one x)
number_answers [] = tt
number_answers (d ∷ ds) = or_answers (decimal_of (d ∷ ds)) fault.BadRevision tt

braced_answers : (o : Option Suffix) (x : Bytes) → IsAnswer (braced_or_parent o x)
braced_answers None x = then_answers (number_or_one x) (λ n. Ok (parent n)) (number_answers x) (λ n. tt)
braced_answers (Some s) x = tt

suffix_answers : (x : Bytes) → IsAnswer (suffix_of x)
suffix_answers [] = tt
suffix_answers (b ∷ x) = elim (b == 94) as (λ t. IsAnswer (cond t (braced_or_parent (lookup (same_bytes x) braced_suffixes) x) (number_or_one x >>= λ n. Ok (ancestor n)))) [
  | true ↦ braced_answers (lookup (same_bytes x) braced_suffixes) x
  | false ↦ then_answers (number_or_one x) (λ n. Ok (ancestor n)) (number_answers x) (λ n. tt)
]

suffixes_answer : (xs : List Bytes) → IsAnswer (suffixes_of xs)
suffixes_answer [] = tt
suffixes_answer (x ∷ xs) = then_answers (suffix_of x) _ (suffix_answers x) (λ s. then_answers (suffixes_of xs) _ (suffixes_answer xs) (λ ss. tt))

path_answers : (x : Bytes) → IsAnswer (path_of x)
path_answers x = elim (list_all is_component (parts_of x)) as (λ b. IsAnswer (cond b (cond (nat_le (length x) 4095) (Ok (parts_of x)) (Err fault.PathTooLong)) (Err fault.BadPath))) [
  | true ↦ elim (nat_le (length x) 4095) as (λ b. IsAnswer (cond b (Ok (parts_of x)) (Err fault.PathTooLong))) [ true ↦ tt | false ↦ tt ]
  | false ↦ tt
]

optional_answers : (o : Option Bytes) → IsAnswer (optional_path o)
optional_answers None = tt
optional_answers (Some x) = then_answers (path_of x) _ (path_answers x) (λ p. tt)

revision_answers : (x : Bytes) → IsAnswer (revision_of x)
unfolding revision_of
revision_answers x = in_parts (base_and_suffixes (with_path x (cut_at 58 x)).0) (with_path x (cut_at 58 x)).1
  where
    in_parts : (b : Bytes × List Bytes) (o : Option Bytes) → IsAnswer (revision_in b o)
    in_parts b o = then_answers (base_of b.0) _ (base_answers b.0) (λ x. then_answers (suffixes_of b.1) _ (suffixes_answer b.1) (λ ss. then_answers (optional_path o) _ (optional_answers o) (λ p. tt)))

-- ---- what it gives

ref_answers : (o : Option Target) (given : Result Value Fault) → IsAnswer given → IsAnswer (elim o [ Some t ↦ Ok (value_at t) | None ↦ given ])
ref_answers None given h = h
ref_answers (Some t) given h = tt

leaf_answers : (o : Option (Leaf Bytes)) (given : Result Shown Fault) → IsAnswer given → IsAnswer (elim o [ Some x ↦ Ok (of_leaf x.0 x.1) | None ↦ given ])
leaf_answers None given h = h
leaf_answers (Some x) given h = tt

module _ (name : Kind → Bytes → Bytes) where
  whole_answers : (vs : List Value) → IsAnswer (full_name name vs)
  whole_answers [] = tt
  whole_answers (v ∷ vs) = tt

  one_answers : (vs : List Value) → IsAnswer (the_one name vs)
  one_answers [] = tt
  one_answers (v ∷ []) = tt
  one_answers (v ∷ w ∷ vs) = tt

  begun_answers : (b : Bool) (vs : List Value) → IsAnswer (cond b (the_one name vs) (Err fault.UnknownRef))
  begun_answers true vs = one_answers vs
  begun_answers false vs = tt

  value_answers : (h : History) (x : Bytes) → IsAnswer (base_value name h x)
  value_answers h x = elim (are_digits name x && nat_eq (length x) 40) as (λ b. IsAnswer (cond b (full_name name (begun_by name h x)) (elim (find_ref h x) [
    | Some t ↦ Ok (value_at t)
    | None ↦ cond (are_digits name x && nat_le 4 (length x) && nat_lt (length x) 40) (the_one name (begun_by name h x)) (Err fault.UnknownRef)
  ]))) [ true ↦ whole_answers (begun_by name h x) | false ↦ ref_answers (find_ref h x) _ (begun_answers (are_digits name x && nat_le 4 (length x) && nat_lt (length x) 40) (begun_by name h x)) ]

peeled_answers : (v : Value) → IsAnswer (commit_in v)
peeled_answers (blob_value x) = tt
peeled_answers (tree_value f) = tt
peeled_answers (commit_value c) = tt
peeled_answers (tag_value t) = tt

files_answer : (v : Value) → IsAnswer (files_in v)
files_answer (blob_value x) = tt
files_answer (tree_value f) = tt
files_answer (commit_value c) = tt
files_answer (tag_value t) = tt

parent_or : (o : Option Commit) → IsAnswer (ok_or o fault.NoParent)
parent_or None = tt
parent_or (Some c) = tt

parent_answers : (n : ℕ) (c : Commit) → IsAnswer (nth_parent n c)
parent_answers zero c = tt
parent_answers (suc n) c = parent_or (slice_get (list_of (parents_of c)) n)

ancestor_answers : (n : ℕ) (c : Commit) → IsAnswer (nth_ancestor n c)
ancestor_answers zero c = tt
ancestor_answers (suc n) c = then_answers (nth_parent 1 c) (nth_ancestor n) (parent_answers 1 c) (ancestor_answers n)

commit_alone_or : (v : Value) → IsAnswer (only_commit v)
commit_alone_or (blob_value x) = tt
commit_alone_or (tree_value f) = tt
commit_alone_or (commit_value c) = tt
commit_alone_or (tag_value t) = tt

blob_alone_or : (v : Value) → IsAnswer (only_blob v)
blob_alone_or (blob_value x) = tt
blob_alone_or (tree_value f) = tt
blob_alone_or (commit_value c) = tt
blob_alone_or (tag_value t) = tt

tag_alone_or : (v : Value) → IsAnswer (only_tag v)
tag_alone_or (blob_value x) = tt
tag_alone_or (tree_value f) = tt
tag_alone_or (commit_value c) = tt
tag_alone_or (tag_value t) = tt

suffixed_answers : (v : Value) (s : Suffix) → IsAnswer (suffixed v s)
suffixed_answers v (parent n) = then_answers (commit_in v) _ (peeled_answers v) (λ c. then_answers (nth_parent n c) _ (parent_answers n c) (λ d. tt))
suffixed_answers v (ancestor n) = then_answers (commit_in v) _ (peeled_answers v) (λ c. then_answers (nth_ancestor n c) _ (ancestor_answers n c) (λ d. tt))
suffixed_answers v peeled = tt
suffixed_answers v itself = tt
suffixed_answers v as_commit = commit_alone_or (peel v)
suffixed_answers v as_blob = blob_alone_or (peel v)
suffixed_answers v as_tree = then_answers (files_in v) _ (files_answer v) (λ f. tt)
suffixed_answers v as_tag = tag_alone_or v

all_answer : (v : Value) (ss : List Suffix) → IsAnswer (all_suffixed v ss)
all_answer v [] = tt
all_answer v (s ∷ ss) = then_answers (suffixed v s) _ (suffixed_answers v s) (λ w. all_answer w ss)

below_answers : (f : FileMap Bytes) → IsAnswer (of_sub_map f)
below_answers [] = tt
below_answers (e ∷ es) = tt

at_answers : (f : FileMap Bytes) (p : Path) → IsAnswer (at_path f p)
at_answers f [] = tt
at_answers f (c ∷ p) = leaf_answers (file_at f (c ∷ p)) _ (below_answers (sub_map f (c ∷ p)))

shown_answers : (v : Value) (o : Option Path) → IsAnswer (shown_at v o)
shown_answers v None = tt
shown_answers v (Some p) = then_answers (files_in v) _ (files_answer v) (λ f. at_answers f p)

object_answers : (x : Shown) → IsAnswer (shown_value x)
object_answers (object v) = tt
object_answers (submodule x) = tt

module _ (name : Kind → Bytes → Bytes) where
  denoted_answers : (h : History) (r : Revision) → IsAnswer (denoted name h r)
  unfolding denoted
  denoted_answers h r = then_answers (base_value name h r.base) _ (value_answers name h r.base) (λ v. then_answers (all_suffixed v r.suffixes) _ (all_answer v r.suffixes) (λ w. shown_answers w r.path))

  revision_value_answers : (s : State) (x : Bytes) → IsAnswer (revision_of x >>= λ r. value_denoted name s.history r)
  revision_value_answers s x = then_answers (revision_of x) _ (revision_answers x) (λ r. then_answers (denoted name s.history r) _ (denoted_answers s.history r) object_answers)

  mark_answers : (o : Option Value) → IsAnswer (ok_or o fault.UnknownMark)
  mark_answers None = tt
  mark_answers (Some v) = tt

  branch_answers : (o : Option (Option Commit)) (given : Result Commit Fault) → IsAnswer given → IsAnswer (or_branch o given)
  branch_answers None given h = h
  branch_answers (Some None) given h = tt
  branch_answers (Some (Some c)) given h = tt

  -- a commit-ish
  pub committed_answers : (kind : Value → Result Commit Fault) → ((v : Value) → IsAnswer (kind v)) → (s : State) (x : CommitIsh) → IsAnswer (committed name kind s x)
  committed_answers kind k s (Marked n) = then_answers (at s n) kind (mark_answers (lookup (nat_eq n) s.marks)) k
  committed_answers kind k s (Named x) = branch_answers (lookup (same_bytes x) s.branches) _ (then_answers (revision_of x >>= λ r. value_denoted name s.history r) kind (revision_value_answers s x) k)

  alone_answers : (v : Value) → IsAnswer (commit_alone v)
  alone_answers (blob_value x) = tt
  alone_answers (tree_value f) = tt
  alone_answers (commit_value c) = tt
  alone_answers (tag_value t) = tt

  -- the commit of a tag
  pub target_answers : (s : State) (x : CommitIsh) → IsAnswer (committed name commit_alone s x)
  target_answers s x = committed_answers commit_alone alone_answers s x

  -- a parent
  pub parent_is_answer : (b : Bytes) (s : State) (x : CommitIsh) → IsAnswer (committed_for name b s x)
  parent_is_answer b s x = elim (names_itself b x) as (λ t. IsAnswer (cond t (Err fault.FromItself) (committed name commit_in s x))) [ true ↦ tt | false ↦ committed_answers commit_in peeled_answers s x ]

  -- all that are merged
  pub merged_answer : (b : Bytes) (s : State) (xs : List CommitIsh) → IsAnswer (all_committed name b s xs)
  merged_answer b s [] = tt
  merged_answer b s (x ∷ xs) = then_answers (committed_for name b s x) _ (parent_is_answer b s x) (λ c. then_answers (all_committed name b s xs) _ (merged_answer b s xs) (λ cs. tt))

  -- and the first
  pub first_answers : (s : State) (c : CommitParts) → IsAnswer (first_parent name s c)
  first_answers s c = by c.parent
    where
      by : (o : Option CommitIsh) → IsAnswer (elim o [ None ↦ Ok (elim (lookup (same_bytes c.ref) s.branches) [ Some d ↦ d | None ↦ None ]) | Some x ↦ committed_for name c.ref s x >>= λ p. Ok (Some p) ])
      by None = tt
      by (Some x) = then_answers (committed_for name c.ref s x) _ (parent_is_answer c.ref s x) (λ p. tt)
