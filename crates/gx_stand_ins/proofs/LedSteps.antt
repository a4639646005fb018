-- What one command makes of two states that go on alike.
use Rattle.std.proofs.Common.{◌≡◌, ℕ, List, [], ◌∷◌, Option, None, Some, Result, Ok, Err, refl, sym, ap, subst, ◌∙◌}
use Rattle.std.specs.Prelude.{IfOk, IfSome}
use Rattle.std.specs.List.{AllByRecursion}
use Rattle.std.specs.Option.{option_map}
use Rattle.std.specs.FinMap.Entries.{put}
use Rattle.gx_model.specs.declared.faults.Fault.{Fault}
use Rattle.gx_model.specs.declared.objects.Kind.{Kind}
use Rattle.gx_model.specs.declared.objects.Kind.TheVariants as kind
use Rattle.gx_model.specs.declared.objects.Mode.{Mode}
use Rattle.gx_model.specs.declared.objects.Mode.TheVariants.{File, Exec, Link, Gitlink, Dir}
use Rattle.gx_model.specs.Faults.{◌>>=◌}
use Rattle.gx_model.specs.Objects.{IsNamer}
use Rattle.gx_model.specs.Texts.{Bytes, byte_cmp}
use Rattle.gx_model.specs.Texts.Paths.{Path}
use Rattle.gx_model.specs.Texts.RefNames.{tag_ref}
use Rattle.gx_model.specs.Histories.Files.{FileMap}
use Rattle.gx_model.specs.Histories.Edits.{copied, modified, renamed}
use Rattle.gx_model.specs.Histories.Values.{Commit, Tag, Value, blob_value, commit_value, commits_of, tag_value, tree_value}
use Rattle.gx_model.specs.Histories.{History}
use Rattle.gx_model.specs.Revisions.Denotation.{base_value}
use Rattle.gx_model.specs.Streams.Commands.{Change, Clear, CommitIsh, CommitParts, Copy, DataRef, Inline, Mark, Modify, Object, Remove, Rename, TagParts}
use Rattle.gx_model.specs.Replay.{State, added, all_changed, all_committed, at, blob_bytes, changed, commit_alone, committed, committed_for, content, first_parent, marked, on_branch, starting_files, step_commit, step_reset, step_tag, with_first_parent}
use Rattle.gx_model.proofs.Replay.NullGitlinks.{all_pass, copied_leaves, modified_leaves, renamed_leaves}
use Rattle.gx_stand_ins.specs.Asked.{IsAlikeBase, IsAlikeRef}
use Rattle.gx_stand_ins.specs.StandIns.{AreNamers, CommitKeepsName, FilesKeepNames, LeafKeepsName, StandIns, ValueKeepsName, whole_commit, whole_content, whole_files, whole_leaf, whole_value}
use Rattle.gx_stand_ins.specs.StandInLaws.{IsSmall}
use Rattle.gx_stand_ins.proofs.AddedAlike.{blob_alike, branch_alike, commit_alike, tag_alike}
use Rattle.gx_stand_ins.proofs.EachFile.{Edited, each_copied, each_modified, each_removed, each_renamed}
use Rattle.gx_stand_ins.proofs.Leading.{Leads, leads_then}
use Rattle.gx_stand_ins.proofs.LedNames.{base_leads}
use Rattle.gx_stand_ins.proofs.LedRevisions.{AreWholeFiles, IsWholeCommit, IsWholeValue, alone_leads, files_lead}
use Rattle.gx_stand_ins.proofs.LedStates.{AlikeChange, AlikeCommit, AlikeCommitIsh, AreWholeCommits, GoAlike, IsWholeIf, all_lead, at_leads, commits_lead, committed_leads, first_leads, for_branch, parents_lead}

module _ (stand name : Kind → Bytes → Bytes) (ins : StandIns) (small whole : History) where
  abbrev Alike : State → State → Type 0
  Alike = GoAlike stand name ins small whole

  -- ---- files

  -- a state, and bytes for a file of this mode
  abbrev AreGiven : Mode → State × Bytes → State × Bytes → Type 0
  AreGiven m r q = Alike r.0 q.0 × (q.1 ≡ whole_content ins m r.1) × LeafKeepsName stand name ins (m, r.1)

  -- a state, and files
  abbrev AreChanged : State × FileMap Bytes → State × FileMap Bytes → Type 0
  AreChanged r q = Alike r.0 q.0 × AreWholeFiles stand name ins r.1 q.1

  abbrev given_bytes : State → Bytes → Result (State × Bytes) Fault
  given_bytes s x = Ok (s, x)

  abbrev with_files : State → FileMap Bytes → Result (State × FileMap Bytes) Fault
  with_files s f = Ok (s, f)

  -- a file of this mode names a blob
  abbrev NamesBlob : Mode → Type 0
  NamesBlob m = (x : Bytes) → stand kind.Blob x ≡ name kind.Blob (ins.bytes x) → (ins.bytes x ≡ whole_content ins m x) × LeafKeepsName stand name ins (m, x)

  blob_led : (m : Mode) → NamesBlob m → (s w : State) → Alike s w → (v : Value) → ValueKeepsName stand name ins v
      → Leads (AreGiven m) (blob_bytes v >>= given_bytes s) (blob_bytes (whole_value ins v) >>= given_bytes w)
  blob_led m plain s w h (blob_value x) k = let p = plain x k in (h, p.0, p.1)
  blob_led m plain s w h (tree_value f) k = tt
  blob_led m plain s w h (commit_value c) k = tt
  blob_led m plain s w h (tag_value t) k = tt

  blob_given : (m : Mode) → NamesBlob m → (s w : State) → Alike s w → (r q : Result Value Fault) → Leads (IsWholeValue stand name ins) r q
      → Leads (AreGiven m) (r >>= λ v. blob_bytes v >>= given_bytes s) (q >>= λ v. blob_bytes v >>= given_bytes w)
  blob_given m plain s w h r q k =
      leads_then (IsWholeValue stand name ins) (AreGiven m) r q (λ v. blob_bytes v >>= given_bytes s) (λ v. blob_bytes v >>= given_bytes w) k
      (λ v y l. subst (λ u. Leads (AreGiven m) (blob_bytes v >>= given_bytes s) (blob_bytes u >>= given_bytes w)) (sym l.0) (blob_led m plain s w h v l.1))

  starting : (o p : Option Commit) → IsWholeIf stand name ins small whole o p → AreWholeFiles stand name ins (starting_files o) (starting_files p)
  starting o p h = subst (λ q. AreWholeFiles stand name ins (starting_files o) (starting_files q)) (sym h.0) (by o h.1)
    where
      by : (o : Option Commit) → IfSome o (CommitKeepsName stand name ins) → AreWholeFiles stand name ins (starting_files o) (starting_files (option_map (whole_commit ins) o))
      by None k = (refl, tt)
      by (Some c) k = files_lead stand name ins c (whole_commit ins c) (refl, k)

  -- an edit of files of both
  edited : (s w : State) → Alike s w → (r : Result (FileMap Bytes) Fault) → IfOk r (FilesKeepNames stand name ins) → Leads AreChanged (r >>= with_files s) (Edited (whole_leaf ins) r >>= with_files w)
  edited s w h (Err e) k = tt
  edited s w h (Ok f) k = (h, (refl, k))

  module _ (namers : AreNamers stand name) (start : IsSmall stand name ins small whole) where
    object_given : (m : Mode) → NamesBlob m → (s w : State) → Alike s w → (x : Bytes) → IsAlikeBase stand name ins small whole x → Leads (AreGiven m) (base_value stand s.history x >>= λ v. blob_bytes v >>= given_bytes s) (base_value name w.history x >>= λ v. blob_bytes v >>= given_bytes w)
    object_given m plain s w h x k = blob_given m plain s w h (base_value stand s.history x) (base_value name w.history x) (base_leads stand name ins small whole s.history w.history h.refs namers h.grown start.refs x k)

    mark_given : (m : Mode) → NamesBlob m → (s w : State) → Alike s w → (n : ℕ) → Leads (AreGiven m) (at s n >>= λ v. blob_bytes v >>= given_bytes s) (at w n >>= λ v. blob_bytes v >>= given_bytes w)
    mark_given m plain s w h n = blob_given m plain s w h (at s n) (at w n) (at_leads stand name ins small whole namers start s w h n)

    content_led : (m : Mode) (d : DataRef) (p : Path) (s w : State) → Alike s w → AlikeChange stand name ins small whole (Modify m d p) → Leads (AreGiven m) (content stand s m d) (content name w m d)
    content_led Gitlink (Object x) p s w h k = (h, refl, refl)
    content_led Gitlink (Mark n) p s w h k = absurd k
    content_led Gitlink (Inline x) p s w h k = (blob_alike stand name ins small whole namers start x s w h k, refl, refl)
    content_led File (Object x) p s w h k = object_given File (λ y l. (refl, l)) s w h x k
    content_led File (Mark n) p s w h k = mark_given File (λ y l. (refl, l)) s w h n
    content_led File (Inline x) p s w h k = (blob_alike stand name ins small whole namers start x s w h k, sym k.same, k.named ∙ ap (name kind.Blob) (sym k.same))
    content_led Exec (Object x) p s w h k = object_given Exec (λ y l. (refl, l)) s w h x k
    content_led Exec (Mark n) p s w h k = mark_given Exec (λ y l. (refl, l)) s w h n
    content_led Exec (Inline x) p s w h k = (blob_alike stand name ins small whole namers start x s w h k, sym k.same, k.named ∙ ap (name kind.Blob) (sym k.same))
    content_led Link (Object x) p s w h k = object_given Link (λ y l. (refl, l)) s w h x k
    content_led Link (Mark n) p s w h k = mark_given Link (λ y l. (refl, l)) s w h n
    content_led Link (Inline x) p s w h k = (blob_alike stand name ins small whole namers start x s w h k, sym k.same, k.named ∙ ap (name kind.Blob) (sym k.same))
    content_led Dir (Object x) p s w h k = object_given Dir (λ y l. (refl, l)) s w h x k
    content_led Dir (Mark n) p s w h k = mark_given Dir (λ y l. (refl, l)) s w h n
    content_led Dir (Inline x) p s w h k = (blob_alike stand name ins small whole namers start x s w h k, sym k.same, k.named ∙ ap (name kind.Blob) (sym k.same))

    -- one change of the files of a commit
    same_changed : (s w : State) (f : FileMap Bytes) (c : Change) → Alike s w → FilesKeepNames stand name ins f → AlikeChange stand name ins small whole c → Leads AreChanged (changed stand s f c) (changed name w (whole_files ins f) c)
    same_changed s w f (Modify m d p) h k l =
        leads_then (AreGiven m) AreChanged (content stand s m d) (content name w m d) (λ r. modified f p (m, r.1) >>= with_files r.0) (λ r. modified (whole_files ins f) p (m, r.1) >>= with_files r.0)
        (content_led m d p s w h l)
        (λ r q given.
        subst (λ x. Leads AreChanged (modified f p (m, r.1) >>= with_files r.0) (modified (whole_files ins f) p (m, x) >>= with_files q.0)) (sym given.1)
        (subst (λ z. Leads AreChanged (modified f p (m, r.1) >>= with_files r.0) (z >>= with_files q.0)) (sym (each_modified (whole_leaf ins) f p (m, r.1)))
        (edited r.0 q.0 given.0 (modified f p (m, r.1)) (modified_leaves (LeafKeepsName stand name ins) f p (m, r.1) given.2 k))))
    same_changed s w f (Remove p) h k l = (h, (each_removed (whole_leaf ins) f p, all_pass (λ e. LeafKeepsName stand name ins e.1) _ f k))
    same_changed s w f (Copy p q) h k l =
        subst (λ z. Leads AreChanged (copied f p q >>= with_files s) (z >>= with_files w)) (sym (each_copied (whole_leaf ins) f p q)) (edited s w h (copied f p q) (copied_leaves (LeafKeepsName stand name ins) f p q k))
    same_changed s w f (Rename p q) h k l =
        subst (λ z. Leads AreChanged (renamed f p q >>= with_files s) (z >>= with_files w)) (sym (each_renamed (whole_leaf ins) f p q)) (edited s w h (renamed f p q) (renamed_leaves (LeafKeepsName stand name ins) f p q k))
    same_changed s w f Clear h k l = (h, (refl, tt))

    -- changes of files in order
    pub all_changed_led : (s w : State) (f g : FileMap Bytes) (cs : List Change) → Alike s w → AreWholeFiles stand name ins f g → AllByRecursion (AlikeChange stand name ins small whole) cs
        → Leads AreChanged (all_changed stand s f cs) (all_changed name w g cs)
    all_changed_led s w f g [] h k l = (h, k)
    all_changed_led s w f g (c ∷ cs) h k l =
        leads_then AreChanged AreChanged (changed stand s f c) (changed name w g c) (λ r. all_changed stand r.0 r.1 cs) (λ r. all_changed name r.0 r.1 cs)
        (subst (λ z. Leads AreChanged (changed stand s f c) (changed name w z c)) (sym k.0) (same_changed s w f c h k.1 l.0))
        (λ r q both. all_changed_led r.0 q.0 r.1 q.1 cs both.0 both.1 l.1)

    -- ---- commands

    -- a commit command
    pub commit_led : IsNamer name → (s w : State) (c : CommitParts) → Alike s w → AlikeCommit stand name ins small whole c → Leads Alike (step_commit stand s c) (step_commit name w c)
    commit_led namer s w c h k =
        leads_then (IsWholeIf stand name ins small whole) Alike (first_parent stand s c) (first_parent name w c) _ _ (first_leads stand name ins small whole namers start s w h c k.parent)
        (λ o p first. leads_then (AreWholeCommits stand name ins small whole) Alike (all_committed stand c.ref s c.merges) (all_committed name c.ref w c.merges) _ _
        (all_lead stand name ins small whole namers start c.ref s w h c.merges k.merges)
        (λ cs ds others. leads_then AreChanged Alike (all_changed stand s (starting_files o) c.changes) (all_changed name w (starting_files p) c.changes) _ _
        (all_changed_led s w (starting_files o) (starting_files p) c.changes h (starting o p first) k.changes)
        (λ r q both.
        let parents = commits_lead stand name ins small whole (with_first_parent o cs) (with_first_parent p ds) (parents_lead stand name ins small whole o p cs ds first others) in
        commit_alike stand name ins small whole namers start namer c r.1 q.1 (commits_of (with_first_parent o cs)) (commits_of (with_first_parent p ds)) r.0 q.0 both.0 both.1.0 both.1.1 parents.0 parents.1 k.text k.ref)))

    -- a tag command
    pub tag_led : (s w : State) (t : TagParts) → Alike s w → AlikeCommitIsh stand name ins small whole t.target → Leads Alike (step_tag stand s t) (step_tag name w t)
    tag_led s w t h k =
        leads_then (IsWholeCommit stand name ins) Alike (committed stand commit_alone s t.target) (committed name commit_alone w t.target) (tagged s) (tagged w)
        (committed_leads stand name ins small whole namers start commit_alone (alone_leads stand name ins) s w h t.target k)
        (λ c d l. subst (λ e. Leads Alike (tagged s c) (tagged w e)) (sym l.0) (tag_alike stand name ins small whole namers start (tag_ref t.name) t.mark (of c) s w h l.1))
      where
        of : Commit → Tag
        of c = record { target = c; name = t.name; tagger = t.tagger; message = t.message }

        tagged : State → Commit → Result State Fault
        tagged u c =
            Ok (record (marked t.mark (tag_value (of c)) (added (tag_value (of c)) u)) { tags = put byte_cmp (tag_ref t.name) (of c) (marked t.mark (tag_value (of c)) (added (tag_value (of c)) u)).tags })

    -- a reset command
    pub reset_led : (s w : State) (b : Bytes) (o : Option CommitIsh) → Alike s w → IsAlikeRef stand name ins small whole b → IfSome o (AlikeCommitIsh stand name ins small whole) → Leads Alike (step_reset stand s b o) (step_reset name w b o)
    reset_led s w b None h k l = branch_alike stand name ins small whole b None s w h k tt
    reset_led s w b (Some x) h k l =
        leads_then (IsWholeCommit stand name ins) Alike (committed_for stand b s x) (committed_for name b w x) (λ c. Ok (on_branch b (Some c) s)) (λ c. Ok (on_branch b (Some c) w)) (for_branch stand name ins small whole namers start b s w h x l)
        (λ c d m. subst (λ e. Alike (on_branch b (Some c) s) (on_branch b (Some e) w)) (sym m.0) (branch_alike stand name ins small whole b (Some c) s w h k m.1))
