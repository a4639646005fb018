-- What suffixes and paths of revisions give of a value, they give of the one for which it stands.
use Rattle.std.proofs.Common.{◌≡◌, ℕ, zero, suc, List, [], ◌∷◌, map, length, drop, Option, None, Some, Result, Ok, refl, sym, ap, subst, ◌∙◌}
use Rattle.std.specs.Prelude.{IfSome, ⊤}
use Rattle.std.specs.List.{slice_get}
use Rattle.std.specs.Option.{ok_or, option_map}
use Rattle.gx_model.specs.declared.faults.Fault.{Fault}
use Rattle.gx_model.specs.declared.faults.Fault.TheVariants as fault
use Rattle.gx_model.specs.declared.objects.Kind.{Kind}
use Rattle.gx_model.specs.declared.objects.Mode.{Mode}
use Rattle.gx_model.specs.declared.objects.Mode.TheVariants.{File, Exec, Link, Gitlink, Dir}
use Rattle.gx_model.specs.Texts.{Bytes}
use Rattle.gx_model.specs.Faults.{◌>>=◌}
use Rattle.gx_model.specs.Texts.Paths.{Path, same_path}
use Rattle.gx_model.specs.Histories.Files.{FileMap, Leaf, file_at, sub_map, under}
use Rattle.gx_model.specs.Histories.Values.{Commit, CommitText, Commits, Value, blob_value, commit, commit_value, files_of, list_of, more, none, tag_value, tree_value}
use Rattle.gx_model.specs.Revisions.{Suffix, ancestor, as_blob, as_commit, as_tag, as_tree, itself, parent, peeled}
use Rattle.gx_model.specs.Revisions.Denotation.{Shown, all_suffixed, at_path, commit_in, files_in, nth_ancestor, nth_parent, object, of_leaf, of_sub_map, shown_at, shown_value, submodule, suffixed}
use Rattle.gx_model.specs.Replay.{commit_alone}
use Rattle.gx_model.proofs.Replay.NullGitlinks.{all_pass, found}
use Rattle.gx_stand_ins.specs.StandIns.{CommitKeepsName, CommitsKeepNames, FilesKeepNames, LeafKeepsName, StandIns, ValueKeepsName, whole_commit, whole_commits, whole_content, whole_files, whole_leaf, whole_value}
use Rattle.gx_stand_ins.proofs.Leading.{Leads, leads_then}
use Rattle.gx_stand_ins.proofs.EachFile.{each_at}
use Rattle.gx_stand_ins.proofs.EachTree.{each_sub_map}

module _ (stand name : Kind → Bytes → Bytes) (ins : StandIns) where
  -- this stands for that, under one name
  abbrev pub IsWholeCommit : Commit → Commit → Type 0
  IsWholeCommit c d = (d ≡ whole_commit ins c) × CommitKeepsName stand name ins c

  abbrev pub IsWholeValue : Value → Value → Type 0
  IsWholeValue v w = (w ≡ whole_value ins v) × ValueKeepsName stand name ins v

  abbrev pub AreWholeFiles : FileMap Bytes → FileMap Bytes → Type 0
  AreWholeFiles f g = (g ≡ whole_files ins f) × FilesKeepNames stand name ins f

  abbrev pub IsWholeShown : Shown → Shown → Type 0
  IsWholeShown (object v) s = (s ≡ object (whole_value ins v)) × ValueKeepsName stand name ins v
  IsWholeShown (submodule x) s = ⊤

  -- ---- commits

  whole_files_of : (c : Commit) → files_of (whole_commit ins c) ≡ whole_files ins (files_of c)
  whole_files_of (commit f (more c cs) t) = refl
  whole_files_of (commit f none t) = by (ins.elders t)
    where
      by : (o : Option (Commits × CommitText)) → files_of (elim o as (λ _. Commit) [ None ↦ commit (whole_files ins f) none t | Some elders ↦ commit (whole_files ins f) elders.0 elders.1 ]) ≡ whole_files ins f
      by None = refl
      by (Some elders) = refl

  files_kept : (c : Commit) → CommitKeepsName stand name ins c → FilesKeepNames stand name ins (files_of c)
  files_kept (commit f ps t) h = h.1

  -- the files of a commit
  pub files_lead : (c d : Commit) → IsWholeCommit c d → AreWholeFiles (files_of c) (files_of d)
  files_lead c d h = (ap files_of h.0 ∙ whole_files_of c, files_kept c h.1)

  nth_leads : (cs : Commits) (n : ℕ) → CommitsKeepNames stand name ins cs → Leads IsWholeCommit (ok_or (slice_get (list_of cs) n) fault.NoParent) (ok_or (slice_get (list_of (whole_commits ins cs)) n) fault.NoParent)
  nth_leads none n h = tt
  nth_leads (more c cs) zero h = (refl, h.0)
  nth_leads (more c cs) (suc n) h = nth_leads cs n h.1

  parent_of : (n : ℕ) (c : Commit) → CommitKeepsName stand name ins c → Leads IsWholeCommit (nth_parent n c) (nth_parent n (whole_commit ins c))
  parent_of zero c h = (refl, h)
  parent_of (suc n) (commit f none t) h = tt
  parent_of (suc n) (commit f (more c cs) t) h = nth_leads (more c cs) n h.2

  -- a parent of a commit
  pub parent_leads : (n : ℕ) (c d : Commit) → IsWholeCommit c d → Leads IsWholeCommit (nth_parent n c) (nth_parent n d)
  parent_leads n c d h = subst (λ e. Leads IsWholeCommit (nth_parent n c) (nth_parent n e)) (sym h.0) (parent_of n c h.1)

  ancestor_leads : (n : ℕ) (c d : Commit) → IsWholeCommit c d → Leads IsWholeCommit (nth_ancestor n c) (nth_ancestor n d)
  ancestor_leads zero c d h = h
  ancestor_leads (suc n) c d h = leads_then IsWholeCommit IsWholeCommit (nth_parent 1 c) (nth_parent 1 d) (nth_ancestor n) (nth_ancestor n) (parent_leads 1 c d h) (λ a b k. ancestor_leads n a b k)

  -- ---- values

  commit_of_value : (v : Value) → ValueKeepsName stand name ins v → Leads IsWholeCommit (commit_in v) (commit_in (whole_value ins v))
  commit_of_value (blob_value x) h = tt
  commit_of_value (tree_value f) h = tt
  commit_of_value (commit_value c) h = (refl, h)
  commit_of_value (tag_value t) h = (refl, h)

  -- the commit of a value, or of its tag
  pub commit_leads : (v w : Value) → IsWholeValue v w → Leads IsWholeCommit (commit_in v) (commit_in w)
  commit_leads v w h = subst (λ u. Leads IsWholeCommit (commit_in v) (commit_in u)) (sym h.0) (commit_of_value v h.1)

  alone_of : (v : Value) → ValueKeepsName stand name ins v → Leads IsWholeCommit (commit_alone v) (commit_alone (whole_value ins v))
  alone_of (blob_value x) h = tt
  alone_of (tree_value f) h = tt
  alone_of (commit_value c) h = (refl, h)
  alone_of (tag_value t) h = tt

  -- a value that is a commit
  pub alone_leads : (v w : Value) → IsWholeValue v w → Leads IsWholeCommit (commit_alone v) (commit_alone w)
  alone_leads v w h = subst (λ u. Leads IsWholeCommit (commit_alone v) (commit_alone u)) (sym h.0) (alone_of v h.1)

  files_of_value : (v : Value) → ValueKeepsName stand name ins v → Leads AreWholeFiles (files_in v) (files_in (whole_value ins v))
  files_of_value (blob_value x) h = tt
  files_of_value (tree_value f) h = (refl, h)
  files_of_value (commit_value c) h = files_lead c (whole_commit ins c) (refl, h)
  files_of_value (tag_value t) h = files_lead t.target (whole_commit ins t.target) (refl, h)

  files_in_lead : (v w : Value) → IsWholeValue v w → Leads AreWholeFiles (files_in v) (files_in w)
  files_in_lead v w h = subst (λ u. Leads AreWholeFiles (files_in v) (files_in u)) (sym h.0) (files_of_value v h.1)

  same_suffixed : (v : Value) (s : Suffix) → ValueKeepsName stand name ins v → Leads IsWholeValue (suffixed v s) (suffixed (whole_value ins v) s)
  same_suffixed v (parent n) h =
      leads_then IsWholeCommit IsWholeValue (commit_in v) (commit_in (whole_value ins v)) (λ c. nth_parent n c >>= λ d. Ok (commit_value d)) (λ c. nth_parent n c >>= λ d. Ok (commit_value d)) (commit_of_value v h)
      (λ c d k. leads_then IsWholeCommit IsWholeValue (nth_parent n c) (nth_parent n d) (λ a. Ok (commit_value a)) (λ a. Ok (commit_value a)) (parent_leads n c d k) (λ a b l. (ap commit_value l.0, l.1)))
  same_suffixed v (ancestor n) h =
      leads_then IsWholeCommit IsWholeValue (commit_in v) (commit_in (whole_value ins v)) (λ c. nth_ancestor n c >>= λ d. Ok (commit_value d)) (λ c. nth_ancestor n c >>= λ d. Ok (commit_value d)) (commit_of_value v h)
      (λ c d k. leads_then IsWholeCommit IsWholeValue (nth_ancestor n c) (nth_ancestor n d) (λ a. Ok (commit_value a)) (λ a. Ok (commit_value a)) (ancestor_leads n c d k) (λ a b l. (ap commit_value l.0, l.1)))
  same_suffixed (blob_value x) peeled h = (refl, h)
  same_suffixed (tree_value f) peeled h = (refl, h)
  same_suffixed (commit_value c) peeled h = (refl, h)
  same_suffixed (tag_value t) peeled h = (refl, h)
  same_suffixed v itself h = (refl, h)
  same_suffixed (blob_value x) as_commit h = tt
  same_suffixed (tree_value f) as_commit h = tt
  same_suffixed (commit_value c) as_commit h = (refl, h)
  same_suffixed (tag_value t) as_commit h = (refl, h)
  same_suffixed (blob_value x) as_blob h = (refl, h)
  same_suffixed (tree_value f) as_blob h = tt
  same_suffixed (commit_value c) as_blob h = tt
  same_suffixed (tag_value t) as_blob h = tt
  same_suffixed v as_tree h =
      leads_then AreWholeFiles IsWholeValue (files_in v) (files_in (whole_value ins v)) (λ f. Ok (tree_value f)) (λ f. Ok (tree_value f)) (files_of_value v h) (λ f g k. (ap tree_value k.0, k.1))
  same_suffixed (blob_value x) as_tag h = tt
  same_suffixed (tree_value f) as_tag h = tt
  same_suffixed (commit_value c) as_tag h = tt
  same_suffixed (tag_value t) as_tag h = (refl, h)

  suffixed_leads : (v w : Value) (s : Suffix) → IsWholeValue v w → Leads IsWholeValue (suffixed v s) (suffixed w s)
  suffixed_leads v w s h = subst (λ u. Leads IsWholeValue (suffixed v s) (suffixed u s)) (sym h.0) (same_suffixed v s h.1)

  -- suffixes, from left to right
  pub all_suffixed_leads : (v w : Value) (ss : List Suffix) → IsWholeValue v w → Leads IsWholeValue (all_suffixed v ss) (all_suffixed w ss)
  all_suffixed_leads v w [] h = h
  all_suffixed_leads v w (s ∷ ss) h =
      leads_then IsWholeValue IsWholeValue (suffixed v s) (suffixed w s) (λ u. all_suffixed u ss) (λ u. all_suffixed u ss) (suffixed_leads v w s h) (λ a b k. all_suffixed_leads a b ss k)

  -- ---- paths

  leaf_leads : (m : Mode) (x : Bytes) → LeafKeepsName stand name ins (m, x) → IsWholeShown (of_leaf m x) (of_leaf m (whole_content ins m x))
  leaf_leads File x h = (refl, h)
  leaf_leads Exec x h = (refl, h)
  leaf_leads Link x h = (refl, h)
  leaf_leads Gitlink x h = tt
  leaf_leads Dir x h = (refl, h)

  below_leads : (f : FileMap Bytes) → FilesKeepNames stand name ins f → Leads IsWholeShown (of_sub_map f) (of_sub_map (whole_files ins f))
  below_leads [] h = tt
  below_leads (e ∷ es) h = (refl, h)

  dropped_keep : (f : FileMap Bytes) (n : ℕ) → FilesKeepNames stand name ins f → FilesKeepNames stand name ins (map (λ e. (drop n e.0, e.1)) f)
  dropped_keep [] n h = tt
  dropped_keep (e ∷ es) n h = (h.0, dropped_keep es n h.1)

  -- files at or below a path keep their names
  pub sub_map_keeps : (f : FileMap Bytes) (p : Path) → FilesKeepNames stand name ins f → FilesKeepNames stand name ins (sub_map f p)
  sub_map_keeps f p h = dropped_keep (under p f) (length p) (all_pass (λ e. LeafKeepsName stand name ins e.1) _ f h)

  same_path_leads : (f : FileMap Bytes) (p : Path) → FilesKeepNames stand name ins f → Leads IsWholeShown (at_path f p) (at_path (whole_files ins f) p)
  same_path_leads f [] h = (refl, h)
  same_path_leads f (c ∷ p) h =
      subst (λ g. Leads IsWholeShown (at_path f (c ∷ p)) (found_at (file_at (whole_files ins f) (c ∷ p)) g)) (sym (each_sub_map (whole_leaf ins) f (c ∷ p)))
      (subst (λ o. Leads IsWholeShown (at_path f (c ∷ p)) (found_at o (whole_files ins (sub_map f (c ∷ p))))) (sym (each_at (whole_leaf ins) f (c ∷ p)))
      (by (file_at f (c ∷ p)) (found (LeafKeepsName stand name ins) (same_path (c ∷ p)) f h)))
    where
      found_at : Option (Leaf Bytes) → FileMap Bytes → Result Shown Fault
      found_at o g = elim o [ Some x ↦ Ok (of_leaf x.0 x.1) | None ↦ of_sub_map g ]

      by : (o : Option (Leaf Bytes)) → IfSome o (LeafKeepsName stand name ins) → Leads IsWholeShown (found_at o (sub_map f (c ∷ p))) (found_at (option_map (whole_leaf ins) o) (whole_files ins (sub_map f (c ∷ p))))
      by (Some x) k = leaf_leads x.0 x.1 k
      by None k = below_leads (sub_map f (c ∷ p)) (sub_map_keeps f (c ∷ p) h)

  path_leads : (f g : FileMap Bytes) (p : Path) → AreWholeFiles f g → Leads IsWholeShown (at_path f p) (at_path g p)
  path_leads f g p h = subst (λ u. Leads IsWholeShown (at_path f p) (at_path u p)) (sym h.0) (same_path_leads f p h.1)

  -- what stands at a path of a value
  pub shown_leads : (v w : Value) (p : Option Path) → IsWholeValue v w → Leads IsWholeShown (shown_at v p) (shown_at w p)
  shown_leads v w None h = (ap object h.0, h.1)
  shown_leads v w (Some p) h =
      leads_then AreWholeFiles IsWholeShown (files_in v) (files_in w) (λ f. at_path f p) (λ f. at_path f p) (files_in_lead v w h) (λ f g k. path_leads f g p k)

  -- the value that is shown
  pub value_shown_leads : (s t : Shown) → IsWholeShown s t → Leads IsWholeValue (shown_value s) (shown_value t)
  value_shown_leads (object v) t h = subst (λ u. Leads IsWholeValue (Ok v) (shown_value u)) (sym h.0) (refl, h.1)
  value_shown_leads (submodule x) t h = tt
