-- A refused replay keeps what the commands before its last checkpoint give.
use Rattle.std.proofs.Common.{◌≡◌, ℕ, ◌+◌, ◌-◌, Bool, true, false, cond, refl, sym, ap, subst, ◌∙◌, arith, List, [], ◌∷◌, ◌++◌, length, append_assoc, append-nil, Option, None, Some, Result, Ok, Err}
use Rattle.std.proofs.lemmas.List.{length-append}
use Rattle.std.proofs.lemmas.List.Elements.{filter-append}
use Rattle.std.specs.Prelude.{IfOk, take, ⊤}
use Rattle.std.specs.List.{filter}
use Rattle.gx_model.specs.declared.faults.Fault.{Fault}
use Rattle.gx_model.specs.declared.faults.Fault.TheVariants as fault
use Rattle.gx_model.specs.declared.features.Feature.TheVariants as features
use Rattle.gx_model.specs.declared.objects.Kind.{Kind}
use Rattle.gx_model.specs.declared.objects.Mode.{Mode}
use Rattle.gx_model.specs.declared.objects.Mode.TheVariants.{File, Exec, Link, Gitlink, Dir}
use Rattle.gx_model.specs.Texts.{Bytes}
use Rattle.gx_model.specs.Faults.{◌>>=◌}
use Rattle.gx_model.specs.Histories.Files.{FileMap}
use Rattle.gx_model.specs.Histories.Edits.{copied, modified, renamed}
use Rattle.gx_model.specs.Histories.Values.{Tag, Value, blob_value, commit, commit_value, commits_of, tag_value, tree_value}
use Rattle.gx_model.specs.Histories.{History}
use Rattle.gx_model.specs.Revisions.Denotation.{base_value}
use Rattle.gx_model.specs.Streams.Commands as command
use Rattle.gx_model.specs.Streams.Commands.{Asks, Blob, Change, Checkpoint, Clear, Command, CommitIsh, CommitParts, Copy, DataRef, Done, Inline, Mark, Modify, Object, OptionLine, Progress, Remove, Rename, Reset, TagParts}
use Rattle.gx_model.specs.Replay.{Kept, Outcome, State, added, all_changed, all_committed, at, blob_bytes, changed, checkpointed, commit_alone, committed, committed_for, content, final, finished, first_parent, is_fast_forward, marked, refused, replayed, report, start, starting_files, step, step_commit, step_reset, step_tag, text_made, with_first_parent}
use Rattle.gx_model.specs.Laws.RefusedReplays.{GiveAlone, KeepsCheckpoint, RefusalsKeepCheckpoints, before_checkpoint, before_others, is_checkpoint}
use Rattle.gx_model.proofs.Replay.NullGitlinks.{then_if}

-- ---- lists

taken_front : {X : Type 0} (xs ys : List X) → take (length xs) (xs ++ ys) ≡ xs
taken_front [] ys = refl
taken_front (x ∷ xs) ys = ap (λ zs. x ∷ zs) (taken_front xs ys)

-- a last command that is no checkpoint, and one that is
before_more : (cs : List Command) (c : Command) → is_checkpoint c ≡ false → before_checkpoint (cs ++ c ∷ []) ≡ before_checkpoint cs
before_more [] c e = ap (λ b. cond b (Some []) None) e
before_more (d ∷ ds) c e = ap (before_others d) (before_more ds c e)

before_last : (cs : List Command) → before_checkpoint (cs ++ Checkpoint ∷ []) ≡ Some cs
before_last [] = refl
before_last (d ∷ ds) = ap (before_others d) (before_last ds)

count_more : (cs : List Command) (c : Command) (b : Bool) → is_checkpoint c ≡ b
    → length (filter is_checkpoint (cs ++ c ∷ [])) ≡ length (filter is_checkpoint cs) + cond b 1 0
count_more cs c b e =
    ap length (filter-append is_checkpoint cs (c ∷ [])) ∙ length-append (filter is_checkpoint cs) (filter is_checkpoint (c ∷ []))
    ∙ ap (λ n. length (filter is_checkpoint cs) + n) (ap (λ t. length (cond t (c ∷ []) [])) e ∙ one b)
  where
    one : (b : Bool) → length (cond b (c ∷ []) []) ≡ cond b 1 0
    one true = refl
    one false = refl

-- ---- what steps leave kept

-- any answer will do
any_ok : {A E : Type 0} (r : Result A E) → IfOk r (λ x. ⊤)
any_ok (Ok x) = tt
any_ok (Err e) = tt

-- a state keeps what another one does
abbrev KeepsAs : State → State → Type 0
KeepsAs s t = t.kept ≡ s.kept

marked_keeps : (m : Option ℕ) (v : Value) (s : State) → KeepsAs s (marked m v s)
marked_keeps None v s = refl
marked_keeps (Some n) v s = refl

module _ {A : Type 0} where
  abbrev FirstKeeps : State → State × A → Type 0
  FirstKeeps s r = KeepsAs s r.0

  later : (s t : State) → KeepsAs s t → (r : Result (State × A) Fault) → IfOk r (FirstKeeps t) → IfOk r (FirstKeeps s)
  later s t e (Ok x) k = k ∙ e
  later s t e (Err f) k = tt

with_files : (s t : State) → KeepsAs s t → (r : Result (FileMap Bytes) Fault) → IfOk (r >>= λ g. Ok (t, g)) (FirstKeeps s)
with_files s t e (Ok g) = e
with_files s t e (Err f) = tt

of_blob : (s : State) (r : Result Value Fault) → IfOk (r >>= λ v. blob_bytes v >>= λ x. Ok (s, x)) (FirstKeeps s)
of_blob s (Err e) = tt
of_blob s (Ok (blob_value x)) = refl
of_blob s (Ok (tree_value f)) = tt
of_blob s (Ok (commit_value c)) = tt
of_blob s (Ok (tag_value t)) = tt

module _ (name : Kind → Bytes → Bytes) where
  content_keeps : (s : State) (m : Mode) (d : DataRef) → IfOk (content name s m d) (FirstKeeps s)
  content_keeps s Gitlink (Object x) = refl
  content_keeps s Gitlink (Mark n) = of_blob s (at s n)
  content_keeps s Gitlink (Inline x) = refl
  content_keeps s File (Object x) = of_blob s (base_value name s.history x)
  content_keeps s File (Mark n) = of_blob s (at s n)
  content_keeps s File (Inline x) = refl
  content_keeps s Exec (Object x) = of_blob s (base_value name s.history x)
  content_keeps s Exec (Mark n) = of_blob s (at s n)
  content_keeps s Exec (Inline x) = refl
  content_keeps s Link (Object x) = of_blob s (base_value name s.history x)
  content_keeps s Link (Mark n) = of_blob s (at s n)
  content_keeps s Link (Inline x) = refl
  content_keeps s Dir (Object x) = of_blob s (base_value name s.history x)
  content_keeps s Dir (Mark n) = of_blob s (at s n)
  content_keeps s Dir (Inline x) = refl

  changed_keeps : (s : State) (f : FileMap Bytes) (c : Change) → IfOk (changed name s f c) (FirstKeeps s)
  changed_keeps s f (Modify m d p) =
      then_if (FirstKeeps s) (FirstKeeps s) (content name s m d) (λ r. modified f p (m, r.1) >>= λ g. Ok (r.0, g)) (content_keeps s m d)
      (λ r e. with_files s r.0 e (modified f p (m, r.1)))
  changed_keeps s f (Remove p) = refl
  changed_keeps s f (Copy p q) = with_files s s refl (copied f p q)
  changed_keeps s f (Rename p q) = with_files s s refl (renamed f p q)
  changed_keeps s f Clear = refl

  all_changed_keeps : (s : State) (f : FileMap Bytes) (cs : List Change) → IfOk (all_changed name s f cs) (FirstKeeps s)
  all_changed_keeps s f [] = refl
  all_changed_keeps s f (c ∷ cs) =
      then_if (FirstKeeps s) (FirstKeeps s) (changed name s f c) (λ r. all_changed name r.0 r.1 cs) (changed_keeps s f c)
      (λ r e. later s r.0 e (all_changed name r.0 r.1 cs) (all_changed_keeps r.0 r.1 cs))

  commit_keeps : (s : State) (c : CommitParts) → IfOk (step_commit name s c) (KeepsAs s)
  commit_keeps s c =
      then_if (λ o. ⊤) (KeepsAs s) (first_parent name s c) _ (any_ok (first_parent name s c))
      (λ o first. then_if (λ os. ⊤) (KeepsAs s) (all_committed name c.ref s c.merges) _ (any_ok (all_committed name c.ref s c.merges))
      (λ cs others. then_if (FirstKeeps s) (KeepsAs s) (all_changed name s (starting_files o) c.changes) _ (all_changed_keeps s (starting_files o) c.changes)
      (λ r e.
      let made : Value = commit_value (commit r.1 (commits_of (with_first_parent o cs)) (text_made c)) in
      marked_keeps c.mark made (added made r.0) ∙ e)))

  tag_keeps : (s : State) (t : TagParts) → IfOk (step_tag name s t) (KeepsAs s)
  tag_keeps s t =
      then_if (λ c. ⊤) (KeepsAs s) (committed name commit_alone s t.target) _ (any_ok (committed name commit_alone s t.target))
      (λ c k.
      let made : Tag = record { target = c; name = t.name; tagger = t.tagger; message = t.message } in
      marked_keeps t.mark (tag_value made) (added (tag_value made) s))

  reset_keeps : (s : State) (b : Bytes) (o : Option CommitIsh) → IfOk (step_reset name s b o) (KeepsAs s)
  reset_keeps s b None = refl
  reset_keeps s b (Some x) = then_if (λ c. ⊤) (KeepsAs s) (committed_for name b s x) _ (any_ok (committed_for name b s x)) (λ c k. refl)

  -- a step that is no checkpoint leaves what is kept
  step_keeps : (s : State) (c : Command) → is_checkpoint c ≡ false → IfOk (step name s c) (KeepsAs s)
  step_keeps s (Blob b) e = marked_keeps b.mark (blob_value b.bytes) (added (blob_value b.bytes) s)
  step_keeps s (command.Commit c) e = commit_keeps s c
  step_keeps s (command.Tag t) e = tag_keeps s t
  step_keeps s (Reset r) e = reset_keeps s r.ref r.parent
  step_keeps s (Progress x) e = refl
  step_keeps s (Asks features.Force) e = refl
  step_keeps s (Asks features.Done) e = refl
  step_keeps s Checkpoint e = absurd cc
  step_keeps s (Asks features.RawDates) e = refl
  step_keeps s (OptionLine t) e = refl
  step_keeps s Done e = refl

  -- ---- the state after some commands

  -- what comes next after a step, and at the end
  abbrev by_step : ℕ → State → List Command → Option Fault → Result State Fault → Outcome
  by_step n s cs end r = elim r [ Ok t ↦ replayed name (n + 1) t cs end | Err f ↦ refused (n + 1) f s.progress s.kept ]

  abbrev by_test : ℕ → State → Bool → Outcome
  by_test n s b = cond b (finished (final s) s.progress (report n s)) (refused (n + 1) fault.NotFastForward s.progress s.kept)

  module _ (h : History) where
    -- more commands go on from here, and this is kept
    record IsAfter (done : List Command) (s : State) : Type 0 where
      pub runs : (more : List Command) (end : Option Fault) → replayed name 0 (start h) (done ++ more) end ≡ replayed name (length done) s more end
      pub kept : KeepsCheckpoint name h done s.kept

    none_done : IsAfter [] (start h)
    none_done = record { runs = λ more end. refl; kept = record { checkpoints = refl; start = λ e. refl; last = λ front e. absurd cc } }

    runs_on : (done : List Command) (s : State) (c : Command) (t : State) → IsAfter done s → step name s c ≡ Ok t → (more : List Command) (end : Option Fault)
        → replayed name 0 (start h) ((done ++ c ∷ []) ++ more) end ≡ replayed name (length (done ++ c ∷ [])) t more end
    runs_on done s c t after e more end =
        ap (λ cs. replayed name 0 (start h) cs end) (append_assoc done (c ∷ []) more)
        ∙ after.runs (c ∷ more) end
        ∙ ap (by_step (length done) s more end) e
        ∙ ap (λ n. replayed name n t more end) (sym (length-append done (c ∷ [])))

    -- a command that is no checkpoint
    kept_on : (done : List Command) (s : State) (c : Command) (t : State) → KeepsCheckpoint name h done s.kept → is_checkpoint c ≡ false → KeepsAs s t
        → KeepsCheckpoint name h (done ++ c ∷ []) t.kept
    kept_on done s c t is plain same =
        let count = count_more done c false plain in
        subst (KeepsCheckpoint name h (done ++ c ∷ [])) (sym same) (record {
          checkpoints = is.checkpoints ∙ omega (arith, count);
          start = λ e. is.start (sym (before_more done c plain) ∙ e);
          last = λ front e. is.last front (sym (before_more done c plain) ∙ e);
        })

    -- a checkpoint keeps what the commands so far give
    kept_now : (done : List Command) (s : State) → IsAfter done s → is_fast_forward s ≡ true
        → KeepsCheckpoint name h (done ++ Checkpoint ∷ []) (checkpointed s).kept
    kept_now done s after forward =
        let count = count_more done Checkpoint true refl in
        let many = after.kept.checkpoints in
        record {
          checkpoints = omega (arith, count, many);
          start = λ e. let none : Some done ≡ None = sym (before_last done) ∙ e in absurd cc;
          last = λ front e.
              let same : done ≡ front = some_is done front (sym (before_last done) ∙ e) in
              subst (λ cs. GiveAlone name h cs (final s)) same (
                s.progress,
                report (length done) s,
                sym (ap (λ cs. replayed name 0 (start h) cs None) (append-nil done)) ∙ after.runs [] None
                    ∙ ap (by_test (length done) s) forward,
              );
        }
      where
        some_is : (a b : List Command) → ◌≡◌ {A = Option (List Command)} (Some a) (Some b) → a ≡ b
        some_is a b e = cc

    step_after : (done : List Command) (s : State) (c : Command) (t : State) → IsAfter done s → step name s c ≡ Ok t → IsAfter (done ++ c ∷ []) t
    step_after done s c t after e = record { runs = runs_on done s c t after e; kept = by c e }
      where
        at_checkpoint : (b : Bool) → is_fast_forward s ≡ b → cond b (Ok (checkpointed s)) (Err fault.NotFastForward) ≡ Ok t
            → KeepsCheckpoint name h (done ++ Checkpoint ∷ []) t.kept
        at_checkpoint true f k =
            let same : checkpointed s ≡ t = cc in
            subst (λ u. KeepsCheckpoint name h (done ++ Checkpoint ∷ []) u.kept) same (kept_now done s after f)
        at_checkpoint false f k = absurd cc

        other : (c : Command) → is_checkpoint c ≡ false → step name s c ≡ Ok t → KeepsCheckpoint name h (done ++ c ∷ []) t.kept
        other c plain k = kept_on done s c t after.kept plain (subst (λ r. IfOk r (KeepsAs s)) k (step_keeps s c plain))

        by : (c : Command) → step name s c ≡ Ok t → KeepsCheckpoint name h (done ++ c ∷ []) t.kept
        by Checkpoint k = at_checkpoint (is_fast_forward s) refl k
        by (Blob b) k = other (Blob b) refl k
        by (command.Commit p) k = other (command.Commit p) refl k
        by (command.Tag p) k = other (command.Tag p) refl k
        by (Reset r) k = other (Reset r) refl k
        by (Progress x) k = other (Progress x) refl k
        by (Asks f) k = other (Asks f) refl k
        by (OptionLine x) k = other (OptionLine x) refl k
        by Done k = other Done refl k

    -- ---- where it is refused

    abbrev number_of : Outcome → ℕ
    number_of (finished k x r) = 0
    number_of (refused n f x k) = n

    abbrev kept_of : Outcome → Kept
    kept_of (finished k x r) = record { history = k; checkpoints = 0 }
    kept_of (refused n f x k) = k

    refused_here : (done more : List Command) (s : State) (f g : Fault) (x y : Bytes) (number : ℕ) (kept : Kept) → KeepsCheckpoint name h done s.kept
        → refused (length done + 1) f x s.kept ≡ refused number g y kept → KeepsCheckpoint name h (take (number - 1) (done ++ more)) kept
    refused_here done more s f g x y number kept is e =
        let count = ap number_of e in
        let front : number - 1 ≡ length done = omega (arith, count) in
        let applied : take (number - 1) (done ++ more) ≡ done = ap (λ n. take n (done ++ more)) front ∙ taken_front done more in
        subst (λ cs. KeepsCheckpoint name h cs kept) (sym applied) (subst (KeepsCheckpoint name h done) (ap kept_of e) is)

    kept_from : (done : List Command) (s : State) (cs : List Command) (end : Option Fault) (number : ℕ) (g : Fault) (y : Bytes) (kept : Kept) → IsAfter done s
        → replayed name (length done) s cs end ≡ refused number g y kept → KeepsCheckpoint name h (take (number - 1) (done ++ cs)) kept
    kept_from done s [] (Some f) number g y kept after e = refused_here done [] s f g s.progress y number kept after.kept e
    kept_from done s [] None number g y kept after e = by (is_fast_forward s) e
      where
        by : (b : Bool) → by_test (length done) s b ≡ refused number g y kept → KeepsCheckpoint name h (take (number - 1) (done ++ [])) kept
        by true k = absurd cc
        by false k = refused_here done [] s fault.NotFastForward g s.progress y number kept after.kept k
    kept_from done s (c ∷ cs) end number g y kept after e =
        (by (step name s c) refl e (λ t q k.
        let go_on = ap (λ n. replayed name n t cs end) (length-append done (c ∷ [])) ∙ k in
        kept_from (done ++ c ∷ []) t cs end number g y kept (step_after done s c t after q) go_on))
      where
        by : (r : Result State Fault) → step name s c ≡ r → by_step (length done) s cs end r ≡ refused number g y kept
            → ((t : State) → step name s c ≡ Ok t → replayed name (length done + 1) t cs end ≡ refused number g y kept
            → KeepsCheckpoint name h (take (number - 1) ((done ++ c ∷ []) ++ cs)) kept)
            → KeepsCheckpoint name h (take (number - 1) (done ++ c ∷ cs)) kept
        by (Err f) q k rest = refused_here done (c ∷ cs) s f g s.progress y number kept after.kept k
        by (Ok t) q k rest = subst (λ all. KeepsCheckpoint name h (take (number - 1) all) kept) (append_assoc done (c ∷ []) cs) (rest t q k)

pub checkpoints_kept : RefusalsKeepCheckpoints
checkpoints_kept name h commands end number g y kept e = kept_from name h [] (start h) commands end number g y kept (none_done name h) e
