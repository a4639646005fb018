-- What each step of a replay makes of a state that a stream can say: without gitlinks of forty zeros, and without headers but those
-- of encodings.
use Rattle.std.proofs.Common.{◌≡◌, ℕ, suc, ◌+◌, Bool, true, false, cond, List, [], ◌∷◌, map, Option, None, Some, Result, Ok, Err, refl, ap, subst, ◌∙◌, arith}
use Rattle.std.specs.Prelude.{IfOk, IfSome, ◌&&◌, ◌==◌, length}
use Rattle.std.proofs.lemmas.Grind.{common_steps}
use Rattle.std.proofs.lemmas.Bool.Decides.{nat_tests}
use Rattle.std.specs.List.{AllByRecursion, filter_map, fold, list_all}
use Rattle.std.specs.FinMap.Entries.{by_order, put}
use Rattle.std.specs.declared.cmp.Ordering.TheVariants.{Less, Equal, Greater}
use Rattle.gx_model.specs.declared.faults.Fault.{Fault}
use Rattle.gx_model.specs.declared.faults.Fault.TheVariants as fault
use Rattle.gx_model.specs.declared.features.Feature.TheVariants as features
use Rattle.gx_model.specs.declared.objects.Kind.{Kind}
use Rattle.gx_model.specs.declared.objects.Mode.{Mode}
use Rattle.gx_model.specs.declared.objects.Mode.TheVariants.{File, Exec, Link, Gitlink, Dir}
use Rattle.gx_model.specs.Texts.{Bytes, byte_cmp}
use Rattle.gx_model.specs.Texts.RefNames.{tag_ref}
use Rattle.gx_model.specs.Faults.{◌>>=◌}
use Rattle.gx_model.specs.Texts.Paths.{Path}
use Rattle.gx_model.specs.Histories.Files.{FileMap}
use Rattle.gx_model.specs.Histories.Edits.{copied, modified, renamed}
use Rattle.gx_model.specs.Histories.Values.{Commit, Tag, Value, blob_value, commit, commit_of, commit_value, commits_of, files_of, list_of, parents_of, tag_value, tree_value}
use Rattle.gx_model.specs.Histories.{History, IsHistory, IsIn, Target, at_commit, at_tag, value_at, with_tree, with_value}
use Rattle.gx_model.specs.Revisions.Denotation.{base_value}
use Rattle.gx_model.specs.Texts.Digits.{lower}
use Rattle.gx_model.specs.Streams.Items.{items_of}
use Rattle.gx_model.specs.Streams.Commands as command
use Rattle.gx_model.specs.Streams.Commands.{Asks, Blob, Change, Checkpoint, Clear, Command, CommitIsh, CommitParts, Copy, DataRef, Done, Inline, Mark, Marked, Modify, Named, Object, OptionLine, Progress, Remove, Rename, Reset, TagParts}
use Rattle.gx_model.specs.Streams.Grammar.{commands_of}
use Rattle.gx_model.specs.Streams.Lines.{is_null}
use Rattle.gx_model.specs.Laws.ExportLaws.{IsNotNull, IsSayable}
use Rattle.gx_model.specs.Streams.Gitlinks.{BringsSayable, GivesNoNullGitlink, HoldsSayable, HoldsTellsHas, RefusalsKeepNone, ReplaysKeepNone, TextsBringNone}
use Rattle.gx_model.specs.Replay.{Outcome, State, added, all_changed, all_committed, at, blob_bytes, changed, checkpointed, commit_alone, committed, committed_for, content, ended, final, finished, first_parent, is_fast_forward, marked, on_branch, refused, replayed, report, start, starting_files, step, step_checkpoint, step_commit, step_reset, step_tag, text_made, with_branch, with_first_parent}
use Rattle.gx_model.proofs.Replay.GivenCommits.{IsStateOf, MayBeOf, OfCommit, all_committed_kept, all_each, alone_kept, committed_kept, first_kept, for_branch, with_first_kept}
use Rattle.gx_model.proofs.Export.KeptCommits.{all_in}
use Rattle.gx_model.proofs.Streams.ReadGitlinks.{none_brought}
use Rattle.gx_model.proofs.Replay.NullGitlinks.{AreNotNull, IsFree, IsFreeValue, all_free, all_pass, copied_leaves, free_commits, free_files, free_list, free_parents, modified_leaves, none_null, renamed_leaves, then_if, with_one_free, with_tree_free}

-- ---- states

-- a stream can say each commit that a state holds
pub record IsFreeState (s : State) : Type 0 where
  pub values : AllByRecursion IsFreeValue s.history.values
  pub refs : AllByRecursion (λ ref. IsFreeValue (value_at ref.1)) s.history.refs
  pub marks : AllByRecursion (λ mark. IsFreeValue mark.1) s.marks
  pub branches : AllByRecursion (λ branch. IfSome branch.1 IsFree) s.branches
  pub tags : AllByRecursion (λ made. IsFree made.1.target) s.tags
  pub kept : HoldsSayable s.kept.history

free_value : (v : Value) → IsFreeValue v → OfCommit IsFree v
free_value (blob_value x) h = tt
free_value (tree_value f) h = tt
free_value (commit_value c) h = h
free_value (tag_value t) h = h

free_elders : (c : Commit) → IsFree c → AllByRecursion IsFree (list_of (parents_of c))
free_elders c h = free_list (parents_of c) (free_parents c h)

-- so it can say each that names give
free_commits_of : (s : State) → IsFreeState s → IsStateOf IsFree s
free_commits_of s h = record {
  values = all_each IsFreeValue (OfCommit IsFree) free_value s.history.values h.values;
  refs = all_each (λ ref. IsFreeValue (value_at ref.1)) (λ ref. OfCommit IsFree (value_at ref.1)) (λ ref. free_value (value_at ref.1)) s.history.refs h.refs;
  marks = all_each (λ mark. IsFreeValue mark.1) (λ mark. OfCommit IsFree mark.1) (λ mark. free_value mark.1) s.marks h.marks;
  branches = h.branches;
}

-- a replay that begins with a history whose commits it can say
pub start_free : (h : History) → IsHistory h → HoldsSayable h → IsFreeState (start h)
start_free h is none =
    let values = all_free [] h.values tt is.closed none in
    record { values = values; refs = by h.refs values is.held; marks = tt; branches = tt; tags = tt; kept = none }
  where
    by : (refs : List (Bytes × Target)) → AllByRecursion IsFreeValue h.values → AllByRecursion (λ ref. IsIn h.values (value_at ref.1)) refs → AllByRecursion (λ ref. IsFreeValue (value_at ref.1)) refs
    by [] values k = tt
    by (r ∷ rs) values k = (all_in IsFreeValue h.values (value_at r.1) values k.0, by rs values k.1)

-- it can say each commit of its history
pub none_held : (s : State) → IsFreeState s → HoldsSayable s.history
none_held s h = none_null s.history.values h.values

with_value_free : (vs : List Value) (v : Value) → AllByRecursion IsFreeValue vs → IsFreeValue v → AllByRecursion IsFreeValue (with_value vs v)
with_value_free vs (blob_value x) h k = with_one_free vs (blob_value x) h k
with_value_free vs (tree_value f) h k = with_tree_free vs f h
with_value_free vs (commit_value c) h k = with_one_free (with_tree vs (files_of c)) (commit_value c) (with_tree_free vs (files_of c) h) k
with_value_free vs (tag_value t) h k = with_one_free vs (tag_value t) h k

added_free : (v : Value) (s : State) → IsFreeState s → IsFreeValue v → IsFreeState (added v s)
added_free v s h k = record { values = with_value_free s.history.values v h.values k; refs = h.refs; marks = h.marks; branches = h.branches; tags = h.tags; kept = h.kept }

marked_free : (m : Option ℕ) (v : Value) (s : State) → IsFreeState s → IsFreeValue v → IsFreeState (marked m v s)
marked_free None v s h k = h
marked_free (Some n) v s h k = record { values = h.values; refs = h.refs; marks = (k, h.marks); branches = h.branches; tags = h.tags; kept = h.kept }

put_free : (n : Bytes) (o : Option Commit) (bs : List (Bytes × Option Commit)) → IfSome o IsFree → AllByRecursion (λ branch. IfSome branch.1 IsFree) bs → AllByRecursion (λ branch. IfSome branch.1 IsFree) (put byte_cmp n o bs)
put_free n o [] h k = (h, tt)
put_free n o (b ∷ bs) h k =
    elim (byte_cmp n b.0) as (λ r. AllByRecursion (λ branch. IfSome branch.1 IsFree) (by_order r ((n, o) ∷ b ∷ bs) ((b.0, o) ∷ bs) (b ∷ put byte_cmp n o bs))) [
      | Less ↦ (h, k)
      | Equal ↦ (h, k.1)
      | Greater ↦ (k.0, put_free n o bs h k.1)
    ]

on_branch_free : (n : Bytes) (o : Option Commit) (s : State) → IsFreeState s → IfSome o IsFree → IsFreeState (on_branch n o s)
on_branch_free n o s h k = record { values = h.values; refs = h.refs; marks = h.marks; branches = put_free n o s.branches k h.branches; tags = h.tags; kept = h.kept }

put_tag : (n : Bytes) (made : Tag) (ts : List (Bytes × Tag)) → IsFree made.target → AllByRecursion (λ t. IsFree t.1.target) ts → AllByRecursion (λ t. IsFree t.1.target) (put byte_cmp n made ts)
put_tag n made [] h k = (h, tt)
put_tag n made (t ∷ ts) h k =
    elim (byte_cmp n t.0) as (λ r. AllByRecursion (λ t. IsFree t.1.target) (by_order r ((n, made) ∷ t ∷ ts) ((t.0, made) ∷ ts) (t ∷ put byte_cmp n made ts))) [
      | Less ↦ (h, k)
      | Equal ↦ (h, k.1)
      | Greater ↦ (k.0, put_tag n made ts h k.1)
    ]

-- ---- checkpoints

abbrev AreFreeRefs : List (Bytes × Target) → Type 0
AreFreeRefs refs = AllByRecursion (λ ref. IsFreeValue (value_at ref.1)) refs

put_ref : (n : Bytes) (x : Target) (refs : List (Bytes × Target)) → IsFreeValue (value_at x) → AreFreeRefs refs → AreFreeRefs (put byte_cmp n x refs)
put_ref n x [] h k = (h, tt)
put_ref n x (r ∷ rs) h k =
    elim (byte_cmp n r.0) as (λ o. AreFreeRefs (by_order o ((n, x) ∷ r ∷ rs) ((r.0, x) ∷ rs) (r ∷ put byte_cmp n x rs))) [
      | Less ↦ (h, k)
      | Equal ↦ (h, k.1)
      | Greater ↦ (k.0, put_ref n x rs h k.1)
    ]

branches_put : (bs : List (Bytes × Option Commit)) (refs : List (Bytes × Target)) → AllByRecursion (λ branch. IfSome branch.1 IsFree) bs → AreFreeRefs refs → AreFreeRefs (fold with_branch refs bs)
branches_put [] refs h k = k
branches_put ((n, None) ∷ bs) refs h k = branches_put bs refs h.1 k
branches_put ((n, Some c) ∷ bs) refs h k = branches_put bs (put byte_cmp n (at_commit c) refs) h.1 (put_ref n (at_commit c) refs h.0 k)

tags_put : (ts : List (Bytes × Tag)) (refs : List (Bytes × Target)) → AllByRecursion (λ t. IsFree t.1.target) ts → AreFreeRefs refs → AreFreeRefs (fold (λ rs t. put byte_cmp t.0 (at_tag t.1) rs) refs ts)
tags_put [] refs h k = k
tags_put (t ∷ ts) refs h k = tags_put ts (put byte_cmp t.0 (at_tag t.1) refs) h.1 (put_ref t.0 (at_tag t.1) refs h.0 k)

checkpoint_step : (s : State) → IsFreeState s → IfOk (step_checkpoint s) IsFreeState
checkpoint_step s h = by (is_fast_forward s)
  where
    by : (b : Bool) → IfOk (cond b (Ok (checkpointed s)) (Err fault.NotFastForward)) IsFreeState
    by true = record {
      values = h.values;
      refs = tags_put s.tags (fold with_branch s.history.refs s.branches) h.tags (branches_put s.branches s.history.refs h.branches h.refs);
      marks = h.marks;
      branches = h.branches;
      tags = h.tags;
      kept = none_held s h;
    }
    by false = tt

-- digits that aren't forty zeros aren't in lower case either
zero_lowered : (d : ℕ) → (lower d == 48) ≡ (d == 48)
zero_lowered d = grind (arith, common_steps, nat_tests)

zeros_lowered : (x : Bytes) → list_all (λ d. d == 48) (map lower x) ≡ list_all (λ d. d == 48) x
zeros_lowered [] = refl
zeros_lowered (d ∷ x) = λ i. zero_lowered d i && zeros_lowered x i

length_lowered : (x : Bytes) → length (map lower x) ≡ length x
length_lowered [] = refl
length_lowered (d ∷ x) = ap suc (length_lowered x)

null_lowered : (x : Bytes) → is_null x ≡ false → is_null (map lower x) ≡ false
null_lowered x e = (λ i. zeros_lowered x i && (length_lowered x i == 40)) ∙ e

-- ---- a commit's files

module _ (name : Kind → Bytes → Bytes) where
  abbrev GivesFree : Mode → State × Bytes → Type 0
  GivesFree m r = IsFreeState r.0 × IsNotNull m r.1

  abbrev FilesFree : State × FileMap Bytes → Type 0
  FilesFree r = IsFreeState r.0 × AreNotNull r.1

  abbrev given_bytes : State → Bytes → Result (State × Bytes) Fault
  given_bytes s x = Ok (s, x)

  blob_given : (s : State) (m : Mode) → ((x : Bytes) → IsNotNull m x) → IsFreeState s → (r : Result Value Fault) → IfOk (r >>= λ v. blob_bytes v >>= given_bytes s) (GivesFree m)
  blob_given s m plain h (Err e) = tt
  blob_given s m plain h (Ok (blob_value x)) = (h, plain x)
  blob_given s m plain h (Ok (tree_value f)) = tt
  blob_given s m plain h (Ok (commit_value c)) = tt
  blob_given s m plain h (Ok (tag_value t)) = tt

  content_free : (s : State) (m : Mode) (d : DataRef) (p : Path) → IsFreeState s → GivesNoNullGitlink (Modify m d p) → IfOk (content name s m d) (GivesFree m)
  content_free s Gitlink (Object x) p h k = (h, null_lowered x k)
  content_free s Gitlink (Mark n) p h k = absurd k
  content_free s Gitlink (Inline x) p h k = absurd k
  content_free s File (Object x) p h k = blob_given s File (λ y. tt) h (base_value name s.history x)
  content_free s File (Mark n) p h k = blob_given s File (λ y. tt) h (at s n)
  content_free s File (Inline x) p h k = (added_free (blob_value x) s h tt, tt)
  content_free s Exec (Object x) p h k = blob_given s Exec (λ y. tt) h (base_value name s.history x)
  content_free s Exec (Mark n) p h k = blob_given s Exec (λ y. tt) h (at s n)
  content_free s Exec (Inline x) p h k = (added_free (blob_value x) s h tt, tt)
  content_free s Link (Object x) p h k = blob_given s Link (λ y. tt) h (base_value name s.history x)
  content_free s Link (Mark n) p h k = blob_given s Link (λ y. tt) h (at s n)
  content_free s Link (Inline x) p h k = (added_free (blob_value x) s h tt, tt)
  content_free s Dir (Object x) p h k = blob_given s Dir (λ y. tt) h (base_value name s.history x)
  content_free s Dir (Mark n) p h k = blob_given s Dir (λ y. tt) h (at s n)
  content_free s Dir (Inline x) p h k = (added_free (blob_value x) s h tt, tt)

  abbrev with_files : State → FileMap Bytes → Result (State × FileMap Bytes) Fault
  with_files s f = Ok (s, f)

  edited : (s : State) (r : Result (FileMap Bytes) Fault) → IsFreeState s → IfOk r AreNotNull → IfOk (r >>= with_files s) FilesFree
  edited s r h k = then_if AreNotNull FilesFree r (with_files s) k (λ f l. (h, l))

  changed_free : (s : State) (f : FileMap Bytes) (c : Change) → IsFreeState s → AreNotNull f → GivesNoNullGitlink c → IfOk (changed name s f c) FilesFree
  changed_free s f (Modify m d p) h k l =
      then_if (GivesFree m) FilesFree (content name s m d) (λ r. modified f p (m, r.1) >>= with_files r.0) (content_free s m d p h l)
      (λ r given. edited r.0 (modified f p (m, r.1)) given.0 (modified_leaves (λ leaf. IsNotNull leaf.0 leaf.1) f p (m, r.1) given.1 k))
  changed_free s f (Remove p) h k l = (h, all_pass (λ file. IsNotNull file.1.0 file.1.1) _ f k)
  changed_free s f (Copy p q) h k l = edited s (copied f p q) h (copied_leaves (λ leaf. IsNotNull leaf.0 leaf.1) f p q k)
  changed_free s f (Rename p q) h k l = edited s (renamed f p q) h (renamed_leaves (λ leaf. IsNotNull leaf.0 leaf.1) f p q k)
  changed_free s f Clear h k l = (h, tt)

  all_changed_free : (s : State) (f : FileMap Bytes) (cs : List Change) → IsFreeState s → AreNotNull f → AllByRecursion GivesNoNullGitlink cs → IfOk (all_changed name s f cs) FilesFree
  all_changed_free s f [] h k l = (h, k)
  all_changed_free s f (c ∷ cs) h k l =
      then_if FilesFree FilesFree (changed name s f c) (λ r. all_changed name r.0 r.1 cs) (changed_free s f c h k l.0) (λ r both. all_changed_free r.0 r.1 cs both.0 both.1 l.1)

  -- ---- commands

  starting_free : (o : Option Commit) → MayBeOf IsFree o → AreNotNull (starting_files o)
  starting_free None h = tt
  starting_free (Some c) h = free_files c h

  commit_step : (s : State) (c : CommitParts) → IsFreeState s → BringsSayable (command.Commit c) → IfOk (step_commit name s c) IsFreeState
  commit_step s c h k =
      let kept = free_commits_of s h in
      then_if (MayBeOf IsFree) IsFreeState (first_parent name s c) _ (first_kept IsFree free_elders name s c kept)
      (λ o first. then_if (AllByRecursion IsFree) IsFreeState (all_committed name c.ref s c.merges) _ (all_committed_kept IsFree free_elders name c.ref s c.merges kept)
      (λ cs others. then_if FilesFree IsFreeState (all_changed name s (starting_files o) c.changes) _ (all_changed_free s (starting_files o) c.changes h (starting_free o first) k.0)
      (λ r both.
      let made = commit r.1 (commits_of (with_first_parent o cs)) (text_made c) in
      let free : IsFree made = ((both.1, k.1), free_commits (with_first_parent o cs) (with_first_kept IsFree free_elders name o cs first others)) in
      on_branch_free c.ref (Some made) (marked c.mark (commit_value made) (added (commit_value made) r.0))
      (marked_free c.mark (commit_value made) (added (commit_value made) r.0) (added_free (commit_value made) r.0 both.0 free) free) free)))

  tag_step : (s : State) (t : TagParts) → IsFreeState s → IfOk (step_tag name s t) IsFreeState
  tag_step s t h =
      then_if IsFree IsFreeState (committed name commit_alone s t.target) _ (committed_kept IsFree free_elders name commit_alone (alone_kept IsFree) s t.target (free_commits_of s h))
      (λ c k.
      let made : Tag = record { target = c; name = t.name; tagger = t.tagger; message = t.message } in
      let free = marked_free t.mark (tag_value made) (added (tag_value made) s) (added_free (tag_value made) s h k) k in
      record { values = free.values; refs = free.refs; marks = free.marks; branches = free.branches; tags = put_tag (tag_ref t.name) made (marked t.mark (tag_value made) (added (tag_value made) s)).tags k free.tags; kept = free.kept })

  reset_step : (s : State) (b : Bytes) (o : Option CommitIsh) → IsFreeState s → IfOk (step_reset name s b o) IsFreeState
  reset_step s b None h = on_branch_free b None s h tt
  reset_step s b (Some x) h =
      then_if IsFree IsFreeState (committed_for name b s x) _ (for_branch IsFree free_elders name b s x (free_commits_of s h)) (λ c k. on_branch_free b (Some c) s h k)

  pub step_free : (s : State) (c : Command) → IsFreeState s → BringsSayable c → IfOk (step name s c) IsFreeState
  step_free s (Blob b) h k = marked_free b.mark (blob_value b.bytes) (added (blob_value b.bytes) s) (added_free (blob_value b.bytes) s h tt) tt
  step_free s (command.Commit c) h k = commit_step s c h k
  step_free s (command.Tag t) h k = tag_step s t h
  step_free s (Reset r) h k = reset_step s r.ref r.parent h
  step_free s (Progress x) h k = record { values = h.values; refs = h.refs; marks = h.marks; branches = h.branches; tags = h.tags; kept = h.kept }
  step_free s (Asks features.Force) h k = record { values = h.values; refs = h.refs; marks = h.marks; branches = h.branches; tags = h.tags; kept = h.kept }
  step_free s (Asks features.Done) h k = h
  step_free s Checkpoint h k = checkpoint_step s h
  step_free s (Asks features.RawDates) h k = h
  step_free s (OptionLine t) h k = h
  step_free s Done h k = h

  -- ---- all commands

  -- the history that an outcome gives, or keeps
  abbrev IsFreeOutcome : Outcome → Type 0
  IsFreeOutcome (finished h x r) = HoldsSayable h
  IsFreeOutcome (refused n f x kept) = HoldsSayable kept.history

  end_free : (n : ℕ) (s : State) (end : Option Fault) → IsFreeState s → IsFreeOutcome (ended n s end)
  end_free n s (Some e) h = h.kept
  end_free n s None h = by (is_fast_forward s)
    where
      by : (b : Bool) → IsFreeOutcome (cond b (finished (final s) s.progress (report n s)) (refused (n + 1) fault.NotFastForward s.progress s.kept))
      by true = none_held s h
      by false = h.kept

  replayed_free : (n : ℕ) (s : State) (cs : List Command) (end : Option Fault) → IsFreeState s → AllByRecursion BringsSayable cs → IsFreeOutcome (replayed name n s cs end)
  replayed_free n s [] end h all = end_free n s end h
  replayed_free n s (c ∷ cs) end h all = by (step name s c) (step_free s c h all.0) (λ t free. replayed_free (n + 1) t cs end free all.1)
    where
      by : (r : Result State Fault) → IfOk r IsFreeState → ((t : State) → IsFreeState t → IsFreeOutcome (replayed name (n + 1) t cs end))
          → IsFreeOutcome (elim r as (λ _. Outcome) [ Ok t ↦ replayed name (n + 1) t cs end | Err e ↦ refused (n + 1) e s.progress s.kept ])
      by (Ok t) free rest = rest t free
      by (Err f) free rest = h.kept

pub none_kept : ReplaysKeepNone
none_kept name h k commands end n text counts is none brings e = subst (IsFreeOutcome name) e (replayed_free name n (start h) commands end (start_free h is none) brings)

pub refusals_keep_none : RefusalsKeepNone
refusals_keep_none name h commands end n number fault text kept is none brings e = subst (IsFreeOutcome name) e (replayed_free name n (start h) commands end (start_free h is none) brings)

pub none_from_text : TextsBringNone
none_from_text name h k given fails text counts is none e =
    let commands = commands_of (items_of given fails) in
    none_kept name h k commands.list commands.fault 0 text counts is none (none_brought (items_of given fails)) e

pub none_reached : HoldsTellsHas
none_reached h none = all_pass IsSayable _ (filter_map commit_of h.values) none
