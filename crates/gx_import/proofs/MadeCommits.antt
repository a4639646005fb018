-- What a commit command gives and adds, part by part: its parents, its changes, itself.
use Rattle.std.proofs.Common.{◌≡◌, List, ◌++◌, Option, Some, None, Result, Ok, Err, sym, ap, subst, ◌∙◌}
use Rattle.std.specs.List.{fold}
use Rattle.gx_model.specs.declared.faults.Fault.{Fault}
use Rattle.gx_model.specs.declared.objects.Kind.{Kind}
use Rattle.gx_model.specs.Texts.{Bytes}
use Rattle.gx_model.specs.Faults.{IsFaultOf, ◌>>=◌}
use Rattle.gx_model.specs.Histories.Files.{FileMap}
use Rattle.gx_model.specs.Histories.Values.{Commit, Value, commit_value}
use Rattle.gx_model.specs.Histories.{IsIn, with_one}
use Rattle.gx_model.specs.Records.Growth.{with_values}
use Rattle.gx_model.specs.Streams.Commands.{Change, CommitParts}
use Rattle.gx_model.specs.Replay.{State, added, all_changed, all_committed, committed_to, first_parent, marked, on_branch, starting_files, step_commit}
use Rattle.gx_import.specs.Additions.{Clash, added_by_commit, blobs_added, commit_added, commit_made, unless_refused, values_made}
use Rattle.gx_import.specs.Answers.{AddsAs}
use Rattle.gx_object.specs.declared.name.Name.{Name}
use Rattle.gx_import.specs.Objects.{IsCommitOf}
use Rattle.gx_import.specs.Rows.{AreAll}
use Rattle.gx_import.proofs.GrownStates.{all_keep, changes_after, clash_after, clash_first, commits_keep}
use Rattle.gx_import.proofs.PartAnswers.{adds_refused, gives_refused}
use Rattle.gx_import.proofs.Refusals.{first_answers, merged_answer}

module _ (name : Kind → Bytes → Bytes) (s : State) (c : CommitParts) where
  abbrev pub after_changes : Option Commit → List Commit → State × FileMap Bytes → Result State Fault
  after_changes first others r = Ok (committed_to c (commit_made c first others r.1) r.0)

  abbrev pub after_others : Option Commit → List Commit → Result State Fault
  after_others first others = all_changed name s (starting_files first) c.changes >>= after_changes first others

  abbrev pub after_first : Option Commit → Result State Fault
  after_first first = all_committed name c.ref s c.merges >>= after_others first

  -- the first parent is refused
  pub first_refused : {Z : Type 0} (clash : Type 0) (Be : State → Z → Type 0) (e : Fault) → IsFaultOf e (first_parent name s c) → AddsAs clash Be (Err e) (step_commit name s c)
  first_refused clash Be e h = gives_refused clash Be e (first_parent name s c) after_first (first_answers name s c) h

  module _ (first : Option Commit) (k : first_parent name s c ≡ Ok first) where
    -- another parent is
    pub others_refused : {Z : Type 0} (clash : Type 0) (Be : State → Z → Type 0) (e : Fault) → IsFaultOf e (all_committed name c.ref s c.merges) → AddsAs clash Be (Err e) (step_commit name s c)
    others_refused clash Be e h =
        subst (AddsAs clash Be (Err e)) (sym (ap (λ o. o >>= after_first) k))
        (gives_refused clash Be e (all_committed name c.ref s c.merges) (after_others first) (merged_answer name c.ref s c.merges) h)

    module _ (others : List Commit) (l : all_committed name c.ref s c.merges ≡ Ok others) where
      adding : added_by_commit name s c ≡ values_made name s c first others
      adding = ap (unless_refused (λ p. unless_refused (values_made name s c p) (all_committed name c.ref s c.merges))) k ∙ ap (unless_refused (values_made name s c first)) l

      -- and what is given
      pub stepped : step_commit name s c ≡ after_others first others
      stepped = ap (λ o. o >>= after_first) k ∙ ap (λ o. o >>= after_others first) l

      -- what is said of a commit whose parents are known
      pub parents_known : {X : Type 0} (vs : List Value) (Is : State → X → Type 0) (answer : Result X Fault) → AddsAs (Clash name vs (values_made name s c first others)) Is answer (after_others first others)
          → AddsAs (Clash name vs (added_by_commit name s c)) Is answer (step_commit name s c)
      parents_known vs Is answer h =
          subst (λ xs. AddsAs (Clash name vs xs) Is answer (step_commit name s c)) (sym adding)
          (subst (AddsAs (Clash name vs (values_made name s c first others)) Is answer) (sym stepped) h)

      -- what the whole adds
      pub adding_made : (r : State × FileMap Bytes) → all_changed name s (starting_files first) c.changes ≡ Ok r
          → added_by_commit name s c ≡ blobs_added name s (starting_files first) c.changes ++ commit_added r.1 (commit_made c first others r.1)
      adding_made r m = adding ∙ ap (λ o. blobs_added name s (starting_files first) c.changes ++ unless_refused (λ r. commit_added r.1 (commit_made c first others r.1)) o) m

  module _ (first : Option Commit) (others : List Commit) where
    abbrev blobs : List Value
    blobs = blobs_added name s (starting_files first) c.changes

    abbrev changed_files : Result (State × FileMap Bytes) Fault
    changed_files = all_changed name s (starting_files first) c.changes

    -- the changes are refused
    pub changes_refused : {X Z : Type 0} (vs : List Value) (Is : State × FileMap Bytes → X → Type 0) (Be : State → Z → Type 0) (e : Fault)
        → AddsAs (Clash name vs blobs) Is (Err e) changed_files → AddsAs (Clash name vs (values_made name s c first others)) Be (Err e) (after_others first others)
    changes_refused vs Is Be e h =
        adds_refused (Clash name vs blobs) (Clash name vs (values_made name s c first others)) Is Be
        (λ q. clash_first name blobs (unless_refused (λ r. commit_added r.1 (commit_made c first others r.1)) changed_files) vs q) e changed_files (after_changes first others) h

    module _ (r : State × FileMap Bytes) (m : changed_files ≡ Ok r) where
      abbrev made : Commit
      made = commit_made c first others r.1

      -- what the whole gives
      pub step_made : after_others first others ≡ Ok (committed_to c made r.0)
      step_made = ap (λ o. o >>= after_changes first others) m

      abbrev then_set : State → Result State Fault
      then_set t = Ok (on_branch c.ref (Some made) (marked c.mark (commit_value made) t))

      -- its trees or itself are refused
      pub made_refused : {X Z : Type 0} (vs now : List Value) → vs ≡ s.history.values → now ≡ r.0.history.values → (Is : State → X → Type 0) (Be : State → Z → Type 0) (e : Fault)
          → AddsAs (Clash name now (commit_added r.1 made)) Is (Err e) (Ok (added (commit_value made) r.0)) → AddsAs (Clash name vs (values_made name s c first others)) Be (Err e) (after_others first others)
      made_refused vs now old new Is Be e h =
          let values : now ≡ fold with_one vs blobs = new ∙ changes_after name s (starting_files first) c.changes r m ∙ ap (λ us. fold with_one us blobs) (sym old) in
          let adding : values_made name s c first others ≡ blobs ++ commit_added r.1 made = ap (λ o. blobs ++ unless_refused (λ r. commit_added r.1 (commit_made c first others r.1)) o) m in
          subst (λ xs. AddsAs (Clash name vs xs) Be (Err e) (after_others first others)) (sym adding)
          (subst (AddsAs (Clash name vs (blobs ++ commit_added r.1 made)) Be (Err e)) (sym step_made)
          (adds_refused (Clash name now (commit_added r.1 made)) (Clash name vs (blobs ++ commit_added r.1 made)) Is Be
          (λ q. clash_after name blobs (commit_added r.1 made) vs (subst (λ us. with_values name us (commit_added r.1 made) ≡ None) values q)) e (Ok (added (commit_value made) r.0)) then_set h))

-- the parents stand after the changes, too
pub parents_after : (name : Kind → Bytes → Bytes) (s : State) (f : FileMap Bytes) (cs : List Change) (r : State × FileMap Bytes) → all_changed name s f cs ≡ Ok r → (ps : List Commit) (ns : List Name)
    → AreAll (IsCommitOf name s.history.values) ps ns → AreAll (IsCommitOf name r.0.history.values) ps ns
parents_after name s f cs r e ps ns h =
    commits_keep name s.history.values r.0.history.values (λ u i. subst (λ vs. IsIn vs u) (sym (changes_after name s f cs r e)) (all_keep (blobs_added name s f cs) s.history.values u i)) ps ns h
