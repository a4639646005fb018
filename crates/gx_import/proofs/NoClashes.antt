-- Where the replay of commands is finished, and no two values of its history have one name, no command adds a value with the name of another one.
use Rattle.std.proofs.Common.{◌≡◌, ℕ, ◌+◌, true, false, cond, List, [], ◌∷◌, ◌++◌, map, Option, Some, None, Result, Ok, Err, refl, sym, ap, subst, ◌∙◌, inl, inr}
use Rattle.std.specs.Prelude.{◌⊎◌, not, ◌&&◌, ◌||◌}
use Rattle.std.specs.Bool.{passes}
use Rattle.std.specs.List.{fold, list_any}
use Rattle.std.proofs.lemmas.Bool.{false≢true}
use Rattle.std.proofs.lemmas.List.Sums.{fold-append}
use Rattle.gx_model.specs.declared.objects.Kind.{Kind}
use Rattle.gx_model.specs.declared.faults.Fault.{Fault}
use Rattle.gx_model.specs.declared.faults.Fault.TheVariants.{NotFastForward}
use Rattle.gx_model.specs.declared.features.Feature.TheVariants as features
use Rattle.gx_model.specs.Texts.{Bytes, same_bytes}
use Rattle.gx_model.specs.Histories.Values.{Value, commit_value, tag_value, tree_value}
use Rattle.gx_model.specs.Records.{name_of}
use Rattle.gx_model.specs.Histories.{History, IsIn, is_in, with_one}
use Rattle.gx_model.specs.Records.Growth.{all_trees, clashes, with_values}
use Rattle.gx_model.specs.Streams.Commands as command
use Rattle.gx_model.specs.Streams.Commands.{Asks, Blob, Checkpoint, Command, CommitIsh, CommitParts, Done, OptionLine, Progress, Reset, TagParts}
use Rattle.gx_model.specs.Replay.{Outcome, Report, State, added, all_changed, all_committed, commit_alone, committed, committed_for, ended, final, finished, first_parent, is_fast_forward, marked, on_branch, refused, replayed, report, starting_files, step, step_commit, step_reset, step_tag}
use Rattle.gx_model.proofs.Records.GrownRecords.{is_is_in}
use Rattle.gx_model.proofs.Records.GrownTrees.{trees_fold}
use Rattle.gx_model.proofs.Texts.PathTests.{same_is}
use Rattle.gx_import.specs.Additions.{Clash, ClashesAt, added_by_commit, added_by_tag, blobs_added, commit_made, tag_made, unless_refused, values_added}
use Rattle.gx_import.proofs.AddedAnswers.{both_given}
use Rattle.gx_import.proofs.KeptCheckpoints.{given_checkpoint}
use Rattle.gx_import.proofs.GrownStates.{all_keep, changes_after}
use Rattle.gx_import.proofs.MadeCommits.{adding_made, after_changes, after_first, after_others}
use Rattle.gx_import.proofs.Standings.{one_has}

-- a step that gives this state gave no other
given_is : (s t : State) → (let given : Result State Fault = Ok s in given) ≡ Ok t → t ≡ s
given_is s t e = let same : s ≡ t = cc e in sym same

-- a mark leaves the history
marked_history : (m : Option ℕ) (v : Value) (s : State) → (marked m v s).history ≡ s.history
marked_history None v s = refl
marked_history (Some n) v s = refl

module _ (name : Kind → Bytes → Bytes) where
  -- ---- what a step adds

  -- this state has these values, and those added
  abbrev Adds : State → List Value → State → Type 0
  Adds s vs t = t.history.values ≡ fold with_one s.history.values vs

  -- a commit adds its blobs, its trees and itself
  commit_adds : (s : State) (c : CommitParts) (t : State) → step_commit name s c ≡ Ok t → Adds s (added_by_commit name s c) t
  commit_adds s c t e =
      let p = both_given (first_parent name s c) (after_first name s c) t e in
      let q = both_given (all_committed name c.ref s c.merges) (after_others name s c p.0) t p.2 in
      let r = both_given (all_changed name s (starting_files p.0) c.changes) (after_changes name s c p.0 q.0) t q.2 in
      let v : Value = commit_value (commit_made c p.0 q.0 r.0.1) in
      let blobs = blobs_added name s (starting_files p.0) c.changes in
      ap (λ z. z.history.values) (given_is _ t r.2)
      ∙ ap (λ z. z.values) (marked_history c.mark v (added v r.0.0))
      ∙ ap (λ z. with_one z v) (trees_fold r.0.0.history.values r.0.1)
      ∙ sym (fold-append with_one r.0.0.history.values (map tree_value (all_trees r.0.1)) (v ∷ []))
      ∙ ap (λ z. fold with_one z (map tree_value (all_trees r.0.1) ++ v ∷ [])) (changes_after name s (starting_files p.0) c.changes r.0 r.1)
      ∙ sym (fold-append with_one s.history.values blobs (map tree_value (all_trees r.0.1) ++ v ∷ []))
      ∙ ap (fold with_one s.history.values) (sym (adding_made name s c p.0 p.1 q.0 q.1 r.0 r.1))

  -- a tag adds itself
  tag_adds : (s : State) (g : TagParts) (t : State) → step_tag name s g ≡ Ok t → Adds s (added_by_tag name s g) t
  tag_adds s g t e =
      let q = both_given (committed name commit_alone s g.target) _ t e in
      let v : Value = tag_value (tag_made q.0 g) in
      ap (λ z. z.history.values) (given_is _ t q.2)
      ∙ ap (λ z. z.values) (marked_history g.mark v (added v s))
      ∙ ap (λ o. fold with_one s.history.values (unless_refused (λ c. tag_value (tag_made c g) ∷ []) o)) (sym q.1)

  -- a reset adds nothing
  reset_adds : (s : State) (b : Bytes) (x : Option CommitIsh) (t : State) → step_reset name s b x ≡ Ok t → Adds s [] t
  reset_adds s b None t e = ap (λ z. z.history.values) (given_is _ t e)
  reset_adds s b (Some x) t e =
      let q = both_given (committed_for name b s x) (λ c. Ok (on_branch b (Some c) s)) t e in
      ap (λ z. z.history.values) (given_is _ t q.2)

  -- a command adds these values, in their order
  pub step_adds : (s : State) (c : Command) (t : State) → step name s c ≡ Ok t → Adds s (values_added name s c) t
  step_adds s (Blob b) t e = ap (λ z. z.history.values) (given_is _ t e) ∙ ap (λ z. z.values) (marked_history b.mark _ _)
  step_adds s (command.Commit c) t e = commit_adds s c t e
  step_adds s (command.Tag g) t e = tag_adds s g t e
  step_adds s (Reset r) t e = reset_adds s r.ref r.parent t e
  step_adds s (Progress x) t e = ap (λ z. z.history.values) (given_is _ t e)
  step_adds s (Asks features.Force) t e = ap (λ z. z.history.values) (given_is _ t e)
  step_adds s (Asks features.Done) t e = ap (λ z. z.history.values) (given_is _ t e)
  step_adds s (Asks features.RawDates) t e = ap (λ z. z.history.values) (given_is _ t e)
  step_adds s Checkpoint t e = ap (λ z. z.history.values) (given_checkpoint s t e).1
  step_adds s (OptionLine x) t e = ap (λ z. z.history.values) (given_is _ t e)
  step_adds s Done t e = ap (λ z. z.history.values) (given_is _ t e)

  -- ---- values with different names

  -- values of one name are one
  abbrev pub HaveNames : List Value → Type 0
  HaveNames vs = (v w : Value) → IsIn vs v → IsIn vs w → name_of name v ≡ name_of name w → v ≡ w

  -- a name that is found is that of a value
  name_found : (vs : List Value) (n : Bytes) → list_any (same_bytes n) (map (name_of name) vs) ≡ true → (v : Value) × IsIn vs v × (n ≡ name_of name v)
  name_found [] n h = absurd (false≢true h)
  name_found (v ∷ vs) n h =
      elim (same_bytes n (name_of name v)) as (λ b. same_bytes n (name_of name v) ≡ b → (b || list_any (same_bytes n) (map (name_of name) vs)) ≡ true → (w : Value) × IsIn (v ∷ vs) w × (n ≡ name_of name w)) [
        | true ↦ λ e k. (v, inl refl, same_is n (name_of name v) (passes _ e))
        | false ↦ λ e k. let q = name_found vs n k in (q.0, inr q.1, q.2)
      ] refl h

  -- a value of the history doesn't clash with those that stand there
  one_fits : (all : List Value) → HaveNames all → (held : List Value) (w : Value) → ((u : Value) → IsIn held u → IsIn all u) → IsIn all w → clashes name held w ≡ true → ⊥
  one_fits all names held w f i h =
      elim (is_in held w) as (λ b. is_in held w ≡ b → (not b && list_any (same_bytes (name_of name w)) (map (name_of name) held)) ≡ true → ⊥) [
        | true ↦ λ e k. false≢true k
        | false ↦ λ e k.
            let q = name_found held (name_of name w) k in
            let same = names q.0 w (f q.0 q.1) i (sym q.2) in
            false≢true (sym e ∙ is_is_in held w (subst (IsIn held) same q.1))
      ] refl h

  -- nor do values that are added one after the other
  pub all_fit : (all : List Value) → HaveNames all → (vs held : List Value) → ((u : Value) → IsIn (fold with_one held vs) u → IsIn all u) → Clash name held vs → ⊥
  all_fit all names [] held f h = absurd (cc h)
  all_fit all names (w ∷ ws) held f h =
      elim (clashes name held w) as (λ b. clashes name held w ≡ b → cond b None (with_values name (with_one held w) ws) ≡ None → ⊥) [
        | true ↦ λ e k. one_fits all names held w (λ u i. f u (all_keep (w ∷ ws) held u i)) (f w (all_keep ws (with_one held w) w (one_has held w))) e
        | false ↦ λ e k. all_fit all names ws (with_one held w) f k
      ] refl h

  -- ---- all commands

  -- where a replay ends, the values stand in its history
  end_keeps : (n : ℕ) (s : State) (end : Option Fault) (k : History) (text : Bytes) (r : Report) → ended n s end ≡ finished k text r → k.values ≡ s.history.values
  end_keeps n s (Some f) k text r e = absurd (cc e)
  end_keeps n s None k text r e =
      elim (is_fast_forward s) as (λ b. cond b (finished (final s) s.progress (report n s)) (refused (n + 1) NotFastForward s.progress s.kept) ≡ finished k text r → k.values ≡ s.history.values) [
        | true ↦ λ h. let same : final s ≡ k = cc h in ap (λ z. z.values) (sym same)
        | false ↦ λ h. absurd (cc h)
      ] e

  -- what the next commands give
  abbrev Next : ℕ → State → List Command → Option Fault → Result State Fault → Outcome
  Next n s cs end given = elim given [ Ok t ↦ replayed name (n + 1) t cs end | Err f ↦ refused (n + 1) f s.progress s.kept ]

  -- what stood in the history before some commands stands there after them
  pub values_stay : (n : ℕ) (s : State) (cs : List Command) (end : Option Fault) (k : History) (text : Bytes) (r : Report) → replayed name n s cs end ≡ finished k text r
      → (u : Value) → IsIn s.history.values u → IsIn k.values u
  values_stay n s [] end k text r e u i = subst (λ vs. IsIn vs u) (sym (end_keeps n s end k text r e)) i
  values_stay n s (c ∷ cs) end k text r e u i =
      elim (step name s c) as (λ o. step name s c ≡ o → Next n s cs end o ≡ finished k text r → IsIn k.values u) [
        | Ok t ↦ λ q h. values_stay (n + 1) t cs end k text r h u (subst (λ vs. IsIn vs u) (sym (step_adds s c t q)) (all_keep (values_added name s c) s.history.values u i))
        | Err f ↦ λ q h. absurd (cc h)
      ] refl e

  -- a later command clashes
  abbrev Later : ℕ → List Command → ℕ → Result State Fault → Type 0
  Later n cs number given = elim given [ Ok t ↦ ClashesAt name (n + 1) t cs number | Err f ↦ ⊥ ]

  -- no command of a finished replay clashes
  pub none_clashes : (n : ℕ) (s : State) (cs : List Command) (end : Option Fault) (k : History) (text : Bytes) (r : Report) → replayed name n s cs end ≡ finished k text r
      → HaveNames k.values → (number : ℕ) → ClashesAt name n s cs number → ⊥
  none_clashes n s [] end k text r e names number h = h
  none_clashes n s (c ∷ cs) end k text r e names number h =
      elim (step name s c) as (λ o. step name s c ≡ o → Next n s cs end o ≡ finished k text r
      → ((number ≡ n + 1) × Clash name s.history.values (values_added name s c)) ⊎ Later n cs number o → ⊥) [
        | Ok t ↦ λ q h i. elim i [
          | inl j ↦ all_fit k.values names (values_added name s c) s.history.values (λ u l. values_stay (n + 1) t cs end k text r h u (subst (λ vs. IsIn vs u) (sym (step_adds s c t q)) l)) j.1
          | inr j ↦ none_clashes (n + 1) t cs end k text r h names number j
        ]
        | Err f ↦ λ q h i. absurd (cc h)
      ] refl e h
