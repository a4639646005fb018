-- What each step of a replay makes of a state whose history is proper.
use Rattle.std.proofs.Common.{ℕ, ◌+◌, Bool, true, false, cond, List, [], ◌∷◌, map, Option, None, Some, Result, Ok, Err, refl, sym, subst}
use Rattle.std.specs.Prelude.{IfOk, IfSome, IsTrue, T, ◌&&◌, nat_eq}
use Rattle.std.specs.Bool.{passes}
use Rattle.std.specs.List.{AllByRecursion, list_all}
use Rattle.std.specs.Map.{lookup}
use Rattle.std.specs.FinMap.Entries.{put}
use Rattle.gx_model.specs.declared.faults.Fault.{Fault}
use Rattle.gx_model.specs.declared.faults.Fault.TheVariants as fault
use Rattle.gx_model.specs.declared.features.Feature.TheVariants as features
use Rattle.gx_model.specs.declared.objects.Kind.{Kind}
use Rattle.gx_model.specs.declared.objects.Mode.{Mode}
use Rattle.gx_model.specs.declared.objects.Mode.TheVariants.{File, Exec, Link, Gitlink, Dir}
use Rattle.gx_model.specs.Texts.{Bytes, byte_cmp}
use Rattle.gx_model.specs.Texts.RefNames.{is_ref_name, tag_ref}
use Rattle.gx_model.specs.Texts.Idents.{is_ident}
use Rattle.gx_model.specs.Faults.{◌>>=◌}
use Rattle.gx_model.specs.Texts.Paths.{Path, is_component, is_short}
use Rattle.gx_model.specs.Histories.Files.{FileMap, Leaf}
use Rattle.gx_model.specs.Histories.Edits.{copied, modified, renamed}
use Rattle.gx_model.specs.Histories.Values.{Commit, Tag, Value, blob_value, blobs_of, commit, commit_value, commits_of, is_content, is_optional_ident, is_proper_text, list_of, tag_value, tree_value}
use Rattle.gx_model.specs.Histories.{IsHistory, IsIn, IsWhole, no_history, with_value}
use Rattle.gx_model.specs.Revisions.Denotation.{base_value}
use Rattle.gx_model.specs.Streams.Items.{items_of}
use Rattle.gx_model.specs.Streams.Commands as command
use Rattle.gx_model.specs.Streams.Commands.{Asks, Blob, Change, Checkpoint, Clear, Command, CommitIsh, CommitParts, Copy, DataRef, Done, Inline, Mark, Modify, Object, OptionLine, Progress, Remove, Rename, Reset, TagParts}
use Rattle.gx_model.specs.Streams.Grammar.{commands_of}
use Rattle.gx_model.specs.Replay.ProperReplays.{IsContent, IsProperChange, IsProperCommand, IsProperCommit, IsProperTag, IsWholePath, RefusalsKeepHistories, ReplaysGiveHistories, TextsGiveHistories}
use Rattle.gx_model.specs.Replay.{Outcome, State, added, all_changed, all_committed, at, blob_bytes, changed, commit_alone, committed, committed_for, content, ended, final, finished, first_parent, is_fast_forward, marked, on_branch, refused, replayed, report, start, starting_files, step, step_commit, step_reset, step_tag, text_made, with_first_parent}
use Rattle.std.specs.Option.{ok_or, unwrap_or}
use Rattle.gx_model.proofs.Texts.PathTests.{both, first}
use Rattle.gx_model.proofs.Histories.FileMapEdits.{Parts, copied_parts, modified_parts, removed_parts, renamed_parts}
use Rattle.gx_model.proofs.Histories.AddedValues.{all_join}
use Rattle.gx_model.proofs.Export.KeptCommits.{each_in}
use Rattle.gx_model.proofs.Replay.NullGitlinks.{all_pass, copied_leaves, found, modified_leaves, renamed_leaves, then_if}
use Rattle.gx_model.proofs.Replay.GivenCommits.{MayBeOf, all_committed_kept, alone_kept, base_kept, committed_kept, first_kept, for_branch, with_first_kept}
use Rattle.gx_model.proofs.Streams.ReadCommands.{all_proper}
use Rattle.gx_model.proofs.Replay.ProperStates.{put_each, both_ok, Grows, IsHeld, elders, whole_of, IsKept, AreFiles, grown, blobs_kept, content_of, files_held, name_lowered, IsMadeTag, IsProperState, commits_held, start_proper, added_proper, marked_proper, marked_values, on_branch_proper, final_proper, checkpoint_step}

-- ---- a commit's files

-- a state that grew, with what was made of a part of it
record Grew (s : State) (P : List Value → Type 0) (t : State) : Type 0 where
  pub state : IsProperState t
  pub grows : Grows s.history.values t.history.values
  pub made : P t.history.values

module _ (name : Kind → Bytes → Bytes) where
  abbrev GivesContent : State → Mode → State × Bytes → Type 0
  GivesContent s m r = Grew s (λ vs. IsKept vs (m, r.1)) r.0

  abbrev GivesFiles : State → State × FileMap Bytes → Type 0
  GivesFiles s r = Grew s (λ vs. AreFiles vs r.1) r.0

  abbrev given_bytes : State → Bytes → Result (State × Bytes) Fault
  given_bytes s x = Ok (s, x)

  blob_given : (s : State) (m : Mode) → ((x : Bytes) → IsIn s.history.values (blob_value x) → IsKept s.history.values (m, x)) → IsProperState s
      → (r : Result Value Fault) → IfOk r (IsIn s.history.values) → IfOk (r >>= λ v. blob_bytes v >>= given_bytes s) (GivesContent s m)
  blob_given s m plain h (Err e) k = tt
  blob_given s m plain h (Ok (blob_value x)) k = record { state = h; grows = λ u i. i; made = plain x k }
  blob_given s m plain h (Ok (tree_value f)) k = tt
  blob_given s m plain h (Ok (commit_value c)) k = tt
  blob_given s m plain h (Ok (tag_value t)) k = tt

  at_held : (s : State) (n : ℕ) → IsProperState s → IfOk (at s n) (IsIn s.history.values)
  at_held s n h = by (lookup (nat_eq n) s.marks) (found (IsIn s.history.values) (nat_eq n) s.marks h.marks)
    where
      by : (o : Option Value) → IfSome o (IsIn s.history.values) → IfOk (ok_or o fault.UnknownMark) (IsIn s.history.values)
      by None k = tt
      by (Some v) k = k

  base_held : (s : State) (x : Bytes) → IsProperState s → IfOk (base_value name s.history x) (IsIn s.history.values)
  base_held s x h = base_kept (IsIn s.history.values) name s.history (each_in (IsIn s.history.values) s.history.values (λ u i. i)) h.history.held x

  inline_given : (s : State) (m : Mode) (x : Bytes) → ((vs : List Value) → IsIn vs (blob_value x) → IsKept vs (m, x)) → IsProperState s → GivesContent s m (added (blob_value x) s, x)
  inline_given s m x plain h =
      let a = added_proper (blob_value x) s h tt tt in
      record { state = a.state; grows = a.grows; made = plain (with_value s.history.values (blob_value x)) a.has }

  content_given : (s : State) (m : Mode) (d : DataRef) → IsProperState s → IsContent m d → IfOk (content name s m d) (GivesContent s m)
  content_given s Gitlink (Object x) h k = record { state = h; grows = λ u i. i; made = (name_lowered x (passes _ k), tt) }
  content_given s Gitlink (Mark n) h k = absurd k
  content_given s Gitlink (Inline x) h k = absurd k
  content_given s File (Object x) h k = blob_given s File (λ y i. (tt, i)) h (base_value name s.history x) (base_held s x h)
  content_given s File (Mark n) h k = blob_given s File (λ y i. (tt, i)) h (at s n) (at_held s n h)
  content_given s File (Inline x) h k = inline_given s File x (λ vs i. (tt, i)) h
  content_given s Exec (Object x) h k = blob_given s Exec (λ y i. (tt, i)) h (base_value name s.history x) (base_held s x h)
  content_given s Exec (Mark n) h k = blob_given s Exec (λ y i. (tt, i)) h (at s n) (at_held s n h)
  content_given s Exec (Inline x) h k = inline_given s Exec x (λ vs i. (tt, i)) h
  content_given s Link (Object x) h k = blob_given s Link (λ y i. (tt, i)) h (base_value name s.history x) (base_held s x h)
  content_given s Link (Mark n) h k = blob_given s Link (λ y i. (tt, i)) h (at s n) (at_held s n h)
  content_given s Link (Inline x) h k = inline_given s Link x (λ vs i. (tt, i)) h
  content_given s Dir d h k = absurd k

  abbrev with_files : State → FileMap Bytes → Result (State × FileMap Bytes) Fault
  with_files s f = Ok (s, f)

  edited : (s t : State) (r : Result (FileMap Bytes) Fault) → IsProperState t → Grows s.history.values t.history.values
      → IfOk r Parts → IfOk r (AllByRecursion (λ file. IsKept t.history.values file.1)) → IfOk (r >>= with_files t) (GivesFiles s)
  edited s t r h g k l =
      then_if (λ f. Parts f × AllByRecursion (λ file. IsKept t.history.values file.1) f) (GivesFiles s) r (with_files t) (both_ok Parts (AllByRecursion (λ file. IsKept t.history.values file.1)) r k l)
      (λ f m. record { state = h; grows = g; made = record { parts = m.0; leaves = m.1 } })

  modified_files : (f : FileMap Bytes) (p : Path) (leaf : Leaf Bytes) → IsWholePath p → Parts f → IfOk (modified f p leaf) Parts
  modified_files f [] leaf w h = tt
  modified_files f (c ∷ p) leaf w h = modified_parts f (c ∷ p) leaf (passes _ w) h

  components : (p : Path) → IsWholePath p → T (list_all is_component p)
  components p w = first (list_all is_component p) (is_short p) (passes _ w)

  changed_proper : (s : State) (f : FileMap Bytes) (c : Change) → IsProperState s → AreFiles s.history.values f → IsProperChange c → IfOk (changed name s f c) (GivesFiles s)
  changed_proper s f (Modify m d p) h k l =
      then_if (GivesContent s m) (GivesFiles s) (content name s m d) (λ r. modified f p (m, r.1) >>= with_files r.0) (content_given s m d h l.0)
      (λ r given.
      let files = grown s.history.values r.0.history.values given.grows f k in
      edited s r.0 (modified f p (m, r.1)) given.state given.grows (modified_files f p (m, r.1) l.1 files.parts)
      (modified_leaves (IsKept r.0.history.values) f p (m, r.1) given.made files.leaves))
  changed_proper s f (Remove p) h k l = record { state = h; grows = λ u i. i; made = record { parts = removed_parts f p k.parts; leaves = all_pass (λ file. IsKept s.history.values file.1) _ f k.leaves } }
  changed_proper s f (Copy p q) h k l = edited s s (copied f p q) h (λ u i. i) (copied_parts f p q (components q l) k.parts) (copied_leaves (IsKept s.history.values) f p q k.leaves)
  changed_proper s f (Rename p q) h k l = edited s s (renamed f p q) h (λ u i. i) (renamed_parts f p q (components q l) k.parts) (renamed_leaves (IsKept s.history.values) f p q k.leaves)
  changed_proper s f Clear h k l = record { state = h; grows = λ u i. i; made = no_files s.history.values }
    where
      no_files : (vs : List Value) → AreFiles vs []
      no_files vs = record { parts = record { paths = tt; apart = tt; sorted = tt }; leaves = tt }

  then_grew : (s t u : State) (f : FileMap Bytes) → Grows s.history.values t.history.values → GivesFiles t (u, f) → GivesFiles s (u, f)
  then_grew s t u f g k = record { state = k.state; grows = λ v i. k.grows v (g v i); made = k.made }

  all_changed_proper : (s : State) (f : FileMap Bytes) (cs : List Change) → IsProperState s → AreFiles s.history.values f → AllByRecursion IsProperChange cs → IfOk (all_changed name s f cs) (GivesFiles s)
  all_changed_proper s f [] h k l = record { state = h; grows = λ u i. i; made = k }
  all_changed_proper s f (c ∷ cs) h k l =
      then_if (GivesFiles s) (GivesFiles s) (changed name s f c) (λ r. all_changed name r.0 r.1 cs) (changed_proper s f c h k l.0)
      (λ r given. by r given (all_changed name r.0 r.1 cs) (all_changed_proper r.0 r.1 cs given.state given.made l.1))
    where
      by : (r : State × FileMap Bytes) → GivesFiles s r → (o : Result (State × FileMap Bytes) Fault) → IfOk o (GivesFiles r.0) → IfOk o (GivesFiles s)
      by r given (Ok x) q = then_grew s r.0 x.0 x.1 given.grows q
      by r given (Err e) q = tt

  -- ---- commands

  starting_held : (vs : List Value) → IsWhole vs → (o : Option Commit) → MayBeOf (IsHeld vs) o → AreFiles vs (starting_files o)
  starting_held vs whole None h = record { parts = record { paths = tt; apart = tt; sorted = tt }; leaves = tt }
  starting_held vs whole (Some c) h = files_held vs whole c h

  parents_held : (vs ws : List Value) → Grows vs ws → (cs : List Commit) → AllByRecursion (IsHeld vs) cs → AllByRecursion (IsIn ws) (map commit_value (list_of (commits_of cs)))
  parents_held vs ws g [] h = tt
  parents_held vs ws g (c ∷ cs) h = (g (commit_value c) h.0, parents_held vs ws g cs h.1)

  text_proper : (c : CommitParts) → IsProperCommit c → T (is_proper_text (text_made c))
  text_proper c h = both (is_ident (unwrap_or c.author c.committer) && is_ident c.committer) _ (both (is_ident (unwrap_or c.author c.committer)) _ (by c.author h.author) (passes _ h.committer)) (passes _ h.headers)
    where
      by : (o : Option Bytes) → IsTrue (is_optional_ident o) → T (is_ident (unwrap_or o c.committer))
      by None k = passes _ h.committer
      by (Some x) k = passes _ k

  commit_step : (s : State) (c : CommitParts) → IsProperState s → IsProperCommit c → IfOk (step_commit name s c) IsProperState
  commit_step s c h k =
      let vs = s.history.values in
      let whole = whole_of s.history h.history in
      let kept = commits_held s h in
      let up = elders vs whole in
      then_if (MayBeOf (IsHeld vs)) IsProperState (first_parent name s c) _ (first_kept (IsHeld vs) up name s c kept)
      (λ o first. then_if (AllByRecursion (IsHeld vs)) IsProperState (all_committed name c.ref s c.merges) _ (all_committed_kept (IsHeld vs) up name c.ref s c.merges kept)
      (λ cs others. then_if (GivesFiles s) IsProperState (all_changed name s (starting_files o) c.changes) _ (all_changed_proper s (starting_files o) c.changes h (starting_held vs whole o first) k.changes)
      (λ r given. made r (with_first_parent o cs) given (with_first_kept (IsHeld vs) up name o cs first others))))
    where
      made : (r : State × FileMap Bytes) (ps : List Commit) → GivesFiles s r → AllByRecursion (IsHeld s.history.values) ps
          → IsProperState (on_branch c.ref (Some (commit r.1 (commits_of ps) (text_made c))) (marked c.mark (commit_value (commit r.1 (commits_of ps) (text_made c))) (added (commit_value (commit r.1 (commits_of ps) (text_made c))) r.0)))
      made r ps given held =
          let new = commit r.1 (commits_of ps) (text_made c) in
          let ws = r.0.history.values in
          let a = added_proper (commit_value new) r.0 given.state (both (is_content r.1) _ (content_of ws r.1 given.made) (text_proper c k))
          (all_join (IsIn ws) (blobs_of r.1) (map commit_value (list_of (commits_of ps))) (blobs_kept ws r.1 given.made.leaves) (parents_held s.history.values ws given.grows ps held)) in
          on_branch_proper c.ref (Some new) (marked c.mark (commit_value new) (added (commit_value new) r.0))
          (marked_proper c.mark (commit_value new) (added (commit_value new) r.0) a.state a.has) (passes _ k.ref)
          (subst (λ us. IsIn us (commit_value new)) (sym (marked_values c.mark (commit_value new) (added (commit_value new) r.0))) a.has)

  tag_step : (s : State) (t : TagParts) → IsProperState s → IsProperTag t → IfOk (step_tag name s t) IsProperState
  tag_step s t h k =
      let vs = s.history.values in
      let whole = whole_of s.history h.history in
      then_if (IsHeld vs) IsProperState (committed name commit_alone s t.target) _
      (committed_kept (IsHeld vs) (elders vs whole) name commit_alone (alone_kept (IsHeld vs)) s t.target (commits_held s h)) made
    where
      made : (c : Commit) → IsHeld s.history.values c → IsProperState (let v : Tag = record { target = c; name = t.name; tagger = t.tagger; message = t.message } in let s' : State = marked t.mark (tag_value v) (added (tag_value v) s) in record s' { tags = put byte_cmp (tag_ref t.name) v s'.tags })
      made c i =
          let v : Tag = record { target = c; name = t.name; tagger = t.tagger; message = t.message } in
          let a = added_proper (tag_value v) s h (both _ _ (passes _ k.name) (passes _ k.tagger)) (i, tt) in
          let s' : State = marked t.mark (tag_value v) (added (tag_value v) s) in
          let m = marked_proper t.mark (tag_value v) (added (tag_value v) s) a.state a.has in
          let has = subst (λ us. IsIn us (tag_value v)) (sym (marked_values t.mark (tag_value v) (added (tag_value v) s))) a.has in
          record {
            history = m.history;
            kept = m.kept;
            marks = m.marks;
            branches = m.branches;
            tags = put_each (IsMadeTag s'.history.values) (tag_ref t.name) v s'.tags (record { ref = passes _ k.name; own = refl; held = has }) m.tags;
          }

  reset_step : (s : State) (b : Bytes) (o : Option CommitIsh) → IsProperState s → T (is_ref_name b) → IfOk (step_reset name s b o) IsProperState
  reset_step s b None h is = on_branch_proper b None s h is tt
  reset_step s b (Some x) h is =
      let vs = s.history.values in
      let whole = whole_of s.history h.history in
      then_if (IsHeld vs) IsProperState (committed_for name b s x) _ (for_branch (IsHeld vs) (elders vs whole) name b s x (commits_held s h)) (λ c i. on_branch_proper b (Some c) s h is i)

  step_proper : (s : State) (c : Command) → IsProperState s → IsProperCommand c → IfOk (step name s c) IsProperState
  step_proper s (Blob b) h k = let a = added_proper (blob_value b.bytes) s h tt tt in marked_proper b.mark (blob_value b.bytes) (added (blob_value b.bytes) s) a.state a.has
  step_proper s (command.Commit c) h k = commit_step s c h k
  step_proper s (command.Tag t) h k = tag_step s t h k
  step_proper s (Reset r) h k = reset_step s r.ref r.parent h (passes _ k)
  step_proper s (Progress x) h k = record { history = h.history; kept = h.kept; marks = h.marks; branches = h.branches; tags = h.tags }
  step_proper s (Asks features.Force) h k = record { history = h.history; kept = h.kept; marks = h.marks; branches = h.branches; tags = h.tags }
  step_proper s (Asks features.Done) h k = h
  step_proper s Checkpoint h k = checkpoint_step s h
  step_proper s (Asks features.RawDates) h k = h
  step_proper s (OptionLine t) h k = h
  step_proper s Done h k = h

-- ---- all commands

-- the history that an outcome gives, or keeps
abbrev IsOutcome : Outcome → Type 0
IsOutcome (finished h x r) = IsHistory h
IsOutcome (refused n f x kept) = IsHistory kept.history

module _ (name : Kind → Bytes → Bytes) where
  end_proper : (n : ℕ) (s : State) (end : Option Fault) → IsProperState s → IsOutcome (ended n s end)
  end_proper n s (Some e) h = h.kept
  end_proper n s None h = by (is_fast_forward s)
    where
      by : (b : Bool) → IsOutcome (cond b (finished (final s) s.progress (report n s)) (refused (n + 1) fault.NotFastForward s.progress s.kept))
      by true = final_proper s h
      by false = h.kept

  replayed_proper : (n : ℕ) (s : State) (cs : List Command) (end : Option Fault) → IsProperState s → AllByRecursion IsProperCommand cs → IsOutcome (replayed name n s cs end)
  replayed_proper n s [] end h all = end_proper n s end h
  replayed_proper n s (c ∷ cs) end h all = by (step name s c) (step_proper name s c h all.0) (λ t proper. replayed_proper (n + 1) t cs end proper all.1)
    where
      by : (r : Result State Fault) → IfOk r IsProperState → ((t : State) → IsProperState t → IsOutcome (replayed name (n + 1) t cs end))
          → IsOutcome (elim r as (λ _. Outcome) [ Ok t ↦ replayed name (n + 1) t cs end | Err e ↦ refused (n + 1) e s.progress s.kept ])
      by (Ok t) proper rest = rest t proper
      by (Err f) proper rest = h.kept

-- ---- the laws

pub nothing_is : IsHistory no_history
nothing_is = record { proper = refl; closed = tt; sorted = refl; ref_names = refl; held = tt; own = tt }

pub replays_give : ReplaysGiveHistories
replays_give name h k commands end n text counts is all e = subst IsOutcome e (replayed_proper name n (start h) commands end (start_proper h is) all)

pub refusals_keep : RefusalsKeepHistories
refusals_keep name h commands end n number fault text kept is all e = subst IsOutcome e (replayed_proper name n (start h) commands end (start_proper h is) all)

pub texts_give : TextsGiveHistories
texts_give name h k given fails text counts is e =
    let commands = commands_of (items_of given fails) in
    replays_give name h k commands.list commands.fault 0 text counts is (all_proper (items_of given fails)) e
