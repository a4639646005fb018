-- What names in a stream give, where the values of a state have a property, or its commits have one that passes on to their parents.
use Rattle.std.proofs.Common.{ℕ, zero, suc, Bool, true, false, cond, List, [], ◌∷◌, Option, None, Some, Result, Ok, Err}
use Rattle.std.specs.Prelude.{IfOk, IfSome, ◌&&◌, nat_eq, nat_le, nat_lt, length, ⊤}
use Rattle.std.specs.List.{AllByRecursion, slice_get}
use Rattle.std.specs.Map.{lookup}
use Rattle.gx_model.specs.declared.faults.Fault.{Fault}
use Rattle.gx_model.specs.declared.faults.Fault.TheVariants as fault
use Rattle.gx_model.specs.declared.objects.Kind.{Kind}
use Rattle.gx_model.specs.declared.objects.Mode.{Mode}
use Rattle.gx_model.specs.declared.objects.Mode.TheVariants.{File, Exec, Link, Gitlink, Dir}
use Rattle.gx_model.specs.Texts.{Bytes, same_bytes}
use Rattle.gx_model.specs.Faults.{◌>>=◌}
use Rattle.gx_model.specs.Texts.Paths.{Path}
use Rattle.gx_model.specs.Histories.Files.{FileMap, Leaf, file_at, sub_map}
use Rattle.gx_model.specs.Histories.Values.{Commit, Value, blob_value, commit_value, list_of, parents_of, tag_value, tree_value}
use Rattle.gx_model.specs.Histories.{History, Target, value_at}
use Rattle.gx_model.specs.Revisions.{Revision, Suffix, ancestor, as_blob, as_commit, as_tag, as_tree, itself, parent, peeled, revision_of}
use Rattle.gx_model.specs.Revisions.Denotation.{Shown, all_suffixed, are_digits, at_path, base_value, begun_by, commit_in, denoted, files_in, find_ref, first_ref, full_name, nth_ancestor, nth_parent, of_leaf, of_sub_map, ref_at, ref_names, shown_at, shown_value, suffixed, the_one, value_denoted}
use Rattle.std.specs.Option.{ok_or, option_or}
use Rattle.gx_model.specs.Streams.Commands.{CommitIsh, CommitParts, Marked, Named}
use Rattle.gx_model.specs.Replay.{State, all_committed, at, commit_alone, committed, committed_for, first_parent, names_itself, or_branch, own_commit, revision_value, with_first_parent}
use Rattle.gx_model.proofs.Replay.NullGitlinks.{all_pass, found, then_if}

-- ---- lists

module _ {X : Type 0} (P Q : X → Type 0) (f : (x : X) → P x → Q x) where
  pub all_each : (xs : List X) → AllByRecursion P xs → AllByRecursion Q xs
  all_each [] h = tt
  all_each (x ∷ xs) h = (f x h.0, all_each xs h.1)

-- ---- what names, refs and digits give

module _ (Q : Value → Type 0) where
  full_kept : (name : Kind → Bytes → Bytes) (vs : List Value) → AllByRecursion Q vs → IfOk (full_name name vs) Q
  full_kept name [] h = tt
  full_kept name (v ∷ vs) h = h.0

  one_kept : (name : Kind → Bytes → Bytes) (vs : List Value) → AllByRecursion Q vs → IfOk (the_one name vs) Q
  one_kept name [] h = tt
  one_kept name (v ∷ []) h = h.0
  one_kept name (v ∷ w ∷ vs) h = tt

  module _ (name : Kind → Bytes → Bytes) (h : History) (values : AllByRecursion Q h.values) (refs : AllByRecursion (λ ref. Q (value_at ref.1)) h.refs) where
    ref_kept : (ns : List Bytes) → IfSome (first_ref h ns) (λ t. Q (value_at t))
    ref_kept [] = tt
    ref_kept (n ∷ ns) = by (ref_at h n) (found (λ t. Q (value_at t)) (same_bytes n) h.refs refs) (ref_kept ns)
      where
        by : (o : Option Target) → IfSome o (λ t. Q (value_at t)) → IfSome (first_ref h ns) (λ t. Q (value_at t)) → IfSome (option_or o (first_ref h ns)) (λ t. Q (value_at t))
        by (Some t) k l = k
        by None k l = l

    begun_kept : (x : Bytes) → AllByRecursion Q (begun_by name h x)
    begun_kept x = all_pass Q _ h.values values

    pub base_kept : (x : Bytes) → IfOk (base_value name h x) Q
    base_kept x = whole_digits (are_digits name x && nat_eq (length x) 40)
      where
        some_digits : (b : Bool) → IfOk (cond b (the_one name (begun_by name h x)) (Err fault.UnknownRef)) Q
        some_digits true = one_kept name (begun_by name h x) (begun_kept x)
        some_digits false = tt

        no_digits : (o : Option Target) → IfSome o (λ t. Q (value_at t)) → IfOk (elim o as (λ _. Result Value Fault) [ Some t ↦ Ok (value_at t) | None ↦ cond (are_digits name x && nat_le 4 (length x) && nat_lt (length x) 40) (the_one name (begun_by name h x)) (Err fault.UnknownRef) ]) Q
        no_digits (Some t) k = k
        no_digits None k = some_digits (are_digits name x && nat_le 4 (length x) && nat_lt (length x) 40)

        whole_digits : (b : Bool) → IfOk (cond b (full_name name (begun_by name h x)) (elim (find_ref h x) as (λ _. Result Value Fault) [ Some t ↦ Ok (value_at t) | None ↦ cond (are_digits name x && nat_le 4 (length x) && nat_lt (length x) 40) (the_one name (begun_by name h x)) (Err fault.UnknownRef) ])) Q
        whole_digits true = full_kept name (begun_by name h x) (begun_kept x)
        whole_digits false = no_digits (find_ref h x) (ref_kept (ref_names x))

-- ---- what revisions give

module _ (P : Commit → Type 0) where
  -- the commit of a value, where it is one or a tag of one
  abbrev pub OfCommit : Value → Type 0
  OfCommit (blob_value x) = ⊤
  OfCommit (tree_value f) = ⊤
  OfCommit (commit_value c) = P c
  OfCommit (tag_value t) = P t.target

  nth_kept : (cs : List Commit) (n : ℕ) → AllByRecursion P cs → IfOk (ok_or (slice_get cs n) fault.NoParent) P
  nth_kept [] n h = tt
  nth_kept (c ∷ cs) zero h = h.0
  nth_kept (c ∷ cs) (suc n) h = nth_kept cs n h.1

  pub commit_kept : (v : Value) → OfCommit v → IfOk (commit_in v) P
  commit_kept (blob_value x) h = tt
  commit_kept (tree_value f) h = tt
  commit_kept (commit_value c) h = h
  commit_kept (tag_value t) h = h

  pub alone_kept : (v : Value) → OfCommit v → IfOk (commit_alone v) P
  alone_kept (blob_value x) h = tt
  alone_kept (tree_value f) h = tt
  alone_kept (commit_value c) h = h
  alone_kept (tag_value t) h = tt

  -- a path gives no commit and no tag
  leaf_kept : (m : Mode) (x : Bytes) → IfOk (shown_value (of_leaf m x)) OfCommit
  leaf_kept File x = tt
  leaf_kept Exec x = tt
  leaf_kept Link x = tt
  leaf_kept Gitlink x = tt
  leaf_kept Dir x = tt

  abbrev ShowsOf : Shown → Type 0
  ShowsOf s = IfOk (shown_value s) OfCommit

  below_kept : (f : FileMap Bytes) → IfOk (of_sub_map f) ShowsOf
  below_kept [] = tt
  below_kept (e ∷ es) = tt

  path_kept : (f : FileMap Bytes) (p : Path) → IfOk (at_path f p) ShowsOf
  path_kept f [] = tt
  path_kept f (c ∷ p) = by (file_at f (c ∷ p))
    where
      by : (o : Option (Leaf Bytes)) → IfOk (elim o as (λ _. Result Shown Fault) [ Some x ↦ Ok (of_leaf x.0 x.1) | None ↦ of_sub_map (sub_map f (c ∷ p)) ]) ShowsOf
      by (Some x) = leaf_kept x.0 x.1
      by None = below_kept (sub_map f (c ∷ p))

  shown_kept : (v : Value) (p : Option Path) → OfCommit v → IfOk (shown_at v p) ShowsOf
  shown_kept v None h = h
  shown_kept v (Some p) h = then_if (λ f. ⊤) ShowsOf (files_in v) (λ f. at_path f p) (any (files_in v)) (λ f k. path_kept f p)
    where
      any : (r : Result (FileMap Bytes) Fault) → IfOk r (λ f. ⊤)
      any (Ok f) = tt
      any (Err e) = tt

  -- a missing commit, or one that has it
  abbrev pub MayBeOf : Option Commit → Type 0
  MayBeOf o = IfSome o P

  -- the commits of a state have it
  pub record IsStateOf (s : State) : Type 0 where
    pub values : AllByRecursion OfCommit s.history.values
    pub refs : AllByRecursion (λ ref. OfCommit (value_at ref.1)) s.history.refs
    pub marks : AllByRecursion (λ mark. OfCommit mark.1) s.marks
    pub branches : AllByRecursion (λ branch. IfSome branch.1 P) s.branches

  module _ (elders : (c : Commit) → P c → AllByRecursion P (list_of (parents_of c))) where
    parent_kept : (n : ℕ) (c : Commit) → P c → IfOk (nth_parent n c) P
    parent_kept zero c h = h
    parent_kept (suc n) c h = nth_kept (list_of (parents_of c)) n (elders c h)

    ancestor_kept : (n : ℕ) (c : Commit) → P c → IfOk (nth_ancestor n c) P
    ancestor_kept zero c h = h
    ancestor_kept (suc n) c h = then_if P P (nth_parent 1 c) (nth_ancestor n) (parent_kept 1 c h) (λ d k. ancestor_kept n d k)

    suffixed_kept : (v : Value) (s : Suffix) → OfCommit v → IfOk (suffixed v s) OfCommit
    suffixed_kept v (parent n) h =
        then_if P OfCommit (commit_in v) (λ c. nth_parent n c >>= λ d. Ok (commit_value d)) (commit_kept v h)
        (λ c k. then_if P OfCommit (nth_parent n c) (λ d. Ok (commit_value d)) (parent_kept n c k) (λ d l. l))
    suffixed_kept v (ancestor n) h =
        then_if P OfCommit (commit_in v) (λ c. nth_ancestor n c >>= λ d. Ok (commit_value d)) (commit_kept v h)
        (λ c k. then_if P OfCommit (nth_ancestor n c) (λ d. Ok (commit_value d)) (ancestor_kept n c k) (λ d l. l))
    suffixed_kept (blob_value x) peeled h = tt
    suffixed_kept (tree_value f) peeled h = tt
    suffixed_kept (commit_value c) peeled h = h
    suffixed_kept (tag_value t) peeled h = h
    suffixed_kept v itself h = h
    suffixed_kept (blob_value x) as_commit h = tt
    suffixed_kept (tree_value f) as_commit h = tt
    suffixed_kept (commit_value c) as_commit h = h
    suffixed_kept (tag_value t) as_commit h = h
    suffixed_kept (blob_value x) as_blob h = tt
    suffixed_kept (tree_value f) as_blob h = tt
    suffixed_kept (commit_value c) as_blob h = tt
    suffixed_kept (tag_value t) as_blob h = tt
    suffixed_kept (blob_value x) as_tree h = tt
    suffixed_kept (tree_value f) as_tree h = tt
    suffixed_kept (commit_value c) as_tree h = tt
    suffixed_kept (tag_value t) as_tree h = tt
    suffixed_kept (blob_value x) as_tag h = tt
    suffixed_kept (tree_value f) as_tag h = tt
    suffixed_kept (commit_value c) as_tag h = tt
    suffixed_kept (tag_value t) as_tag h = h

    all_suffixed_kept : (v : Value) (ss : List Suffix) → OfCommit v → IfOk (all_suffixed v ss) OfCommit
    all_suffixed_kept v [] h = h
    all_suffixed_kept v (s ∷ ss) h = then_if OfCommit OfCommit (suffixed v s) (λ w. all_suffixed w ss) (suffixed_kept v s h) (λ w k. all_suffixed_kept w ss k)

    module _ (name : Kind → Bytes → Bytes) (h : History) (values : AllByRecursion OfCommit h.values) (refs : AllByRecursion (λ ref. OfCommit (value_at ref.1)) h.refs) where
      denoted_kept : (r : Revision) → IfOk (value_denoted name h r) OfCommit
      unfolding denoted
      denoted_kept r =
          then_if ShowsOf OfCommit (denoted name h r) shown_value
          (then_if OfCommit ShowsOf (base_value name h r.base) (λ v. all_suffixed v r.suffixes >>= λ w. shown_at w r.path) (base_kept OfCommit name h values refs r.base)
          (λ v k. then_if OfCommit ShowsOf (all_suffixed v r.suffixes) (λ w. shown_at w r.path) (all_suffixed_kept v r.suffixes k) (λ w l. shown_kept w r.path l)))
          (λ s k. k)

    -- ---- what a state gives

    module _ (name : Kind → Bytes → Bytes) where
      at_kept : (s : State) (n : ℕ) → IsStateOf s → IfOk (at s n) OfCommit
      at_kept s n h = by (lookup (nat_eq n) s.marks) (found OfCommit (nat_eq n) s.marks h.marks)
        where
          by : (o : Option Value) → IfSome o OfCommit → IfOk (ok_or o fault.UnknownMark) OfCommit
          by None k = tt
          by (Some v) k = k

      revision_kept : (s : State) (x : Bytes) → IsStateOf s → IfOk (revision_value name s x) OfCommit
      revision_kept s x h = by (revision_of x)
        where
          by : (r : Result Revision Fault) → IfOk (r >>= λ a. value_denoted name s.history a) OfCommit
          by (Ok a) = denoted_kept name s.history h.values h.refs a
          by (Err e) = tt

      pub committed_kept : (kind : Value → Result Commit Fault) → ((v : Value) → OfCommit v → IfOk (kind v) P) → (s : State) (x : CommitIsh) → IsStateOf s → IfOk (committed name kind s x) P
      committed_kept kind keeps s (Marked n) h = then_if OfCommit P (at s n) kind (at_kept s n h) keeps
      committed_kept kind keeps s (Named x) h = by (lookup (same_bytes x) s.branches) (found (λ o. IfSome o P) (same_bytes x) s.branches h.branches)
        where
          by : (o : Option (Option Commit)) → IfSome o (λ c. IfSome c P) → IfOk (or_branch o (revision_value name s x >>= kind)) P
          by None k = then_if OfCommit P (revision_value name s x) kind (revision_kept s x h) keeps
          by (Some None) k = tt
          by (Some (Some c)) k = k

      pub for_branch : (b : Bytes) (s : State) (x : CommitIsh) → IsStateOf s → IfOk (committed_for name b s x) P
      for_branch b s x h =
          elim (names_itself b x) as (λ t. IfOk (cond t (Err fault.FromItself) (committed name commit_in s x)) P) [
            | true ↦ tt
            | false ↦ committed_kept commit_in commit_kept s x h
          ]

      pub all_committed_kept : (b : Bytes) (s : State) (xs : List CommitIsh) → IsStateOf s → IfOk (all_committed name b s xs) (AllByRecursion P)
      all_committed_kept b s [] h = tt
      all_committed_kept b s (x ∷ xs) h =
          then_if P (AllByRecursion P) (committed_for name b s x) (λ c. all_committed name b s xs >>= λ cs. Ok (c ∷ cs)) (for_branch b s x h)
          (λ c k. then_if (AllByRecursion P) (AllByRecursion P) (all_committed name b s xs) (λ cs. Ok (c ∷ cs)) (all_committed_kept b s xs h) (λ cs l. (k, l)))

      pub first_kept : (s : State) (c : CommitParts) → IsStateOf s → IfOk (first_parent name s c) MayBeOf
      first_kept s c h = by c.parent
        where
          own : (o : Option (Option Commit)) → IfSome o MayBeOf → IfSome (own_commit o) P
          own None k = tt
          own (Some None) k = tt
          own (Some (Some d)) k = k

          by : (o : Option CommitIsh) → IfOk (elim o as (λ _. Result (Option Commit) Fault) [ None ↦ Ok (own_commit (lookup (same_bytes c.ref) s.branches)) | Some x ↦ committed_for name c.ref s x >>= λ p. Ok (Some p) ]) MayBeOf
          by None = own (lookup (same_bytes c.ref) s.branches) (found MayBeOf (same_bytes c.ref) s.branches h.branches)
          by (Some x) = then_if P MayBeOf (committed_for name c.ref s x) (λ p. Ok (Some p)) (for_branch c.ref s x h) (λ p k. k)

      pub with_first_kept : (o : Option Commit) (cs : List Commit) → MayBeOf o → AllByRecursion P cs → AllByRecursion P (with_first_parent o cs)
      with_first_kept None cs h k = k
      with_first_kept (Some c) cs h k = (h, k)
