-- The progress text of a replay: each step's begins with the earlier one's, and so does that of the outcome. What a sink takes, one text after the other.
use Rattle.std.proofs.Common.{◌≡◌, ℕ, ◌+◌, ◌≤◌, Bool, true, false, cond, List, [], ◌∷◌, ◌++◌, Option, Some, None, Result, Ok, Err, refl, sym, ap, ◌∙◌, arith, append_assoc}
use Rattle.std.specs.Prelude.{IfOk, codes}
use Rattle.std.proofs.lemmas.List.{append-nil}
use Rattle.gx_model.specs.declared.objects.Kind.{Kind}
use Rattle.gx_model.specs.declared.objects.Mode.{Mode}
use Rattle.gx_model.specs.declared.objects.Mode.TheVariants.{Gitlink}
use Rattle.gx_model.specs.declared.faults.Fault.{Fault}
use Rattle.gx_model.specs.declared.faults.Fault.TheVariants as fault
use Rattle.gx_model.specs.declared.features.Feature.TheVariants as features
use Rattle.gx_model.specs.Faults.{◌>>=◌}
use Rattle.gx_model.specs.Texts.{Bytes}
use Rattle.gx_model.specs.Histories.Files.{FileMap}
use Rattle.gx_model.specs.Revisions.Denotation.{base_value}
use Rattle.gx_model.specs.Histories.Edits.{copied, modified, renamed}
use Rattle.gx_model.specs.Histories.Values.{Value, blob_value, commit, commit_value, commits_of, tag_value}
use Rattle.gx_model.specs.Streams.Commands as command
use Rattle.gx_model.specs.Streams.Commands.{Asks, Blob, Change, Checkpoint, Clear, Command, CommitIsh, CommitParts, Copy, DataRef, Done, Inline, Mark, Modify, Object, OptionLine, Progress, Remove, Rename, Reset, TagParts}
use Rattle.gx_model.specs.Replay.{State, added, all_changed, all_committed, at, blob_bytes, changed, checkpointed, commit_alone, committed, committed_for, content, ended, final, finished, first_parent, is_fast_forward, marked, refused, replayed, report, starting_files, step, step_checkpoint, step_commit, step_reset, step_tag, text_made, with_first_parent}
use Rattle.gx_model.specs.Texts.Sinks.{Taken, Took}
use Rattle.gx_model.proofs.Texts.SentTexts.{failed_after, failed_longer, took_both}
use Rattle.gx_import.specs.Additions.{tag_made}
use Rattle.gx_import.specs.Imports.{last_number, progress_of}
use Rattle.gx_import.specs.Replaying.{Writes}

-- any command but a checkpoint
abbrev pub IsOther : Command → Type 0
IsOther Checkpoint = ⊥
IsOther _ = Unit {0}

-- ---- steps that may be refused

then_has : {X Y : Type 0} (P : X → Type 0) (Q : Y → Type 0) (r : Result X Fault) (f : X → Result Y Fault) → IfOk r P → ((x : X) → P x → IfOk (f x) Q) → IfOk (r >>= f) Q
then_has P Q (Ok x) f p h = h x p
then_has P Q (Err e) f p h = tt

next_has : {X Y : Type 0} (Q : Y → Type 0) (r : Result X Fault) (f : X → Result Y Fault) → ((x : X) → IfOk (f x) Q) → IfOk (r >>= f) Q
next_has Q (Ok x) f h = h x
next_has Q (Err e) f h = tt

-- ---- a step's progress begins with the earlier one's

-- the same progress, as many values at the start, and nothing published
pub record HasSame (s t : State) : Type 0 where
  pub progress : t.progress ≡ s.progress
  pub held : t.held ≡ s.held
  pub kept : t.kept ≡ s.kept

same : (s : State) → HasSame s s
same s = record { progress = refl; held = refl; kept = refl }

-- and maybe more progress
pub record HasMore (s t : State) : Type 0 where
  pub text : Bytes
  pub progress : t.progress ≡ s.progress ++ text
  pub held : t.held ≡ s.held

no_more : (s t : State) → HasSame s t → HasMore s t
no_more s t h = record { text = []; progress = h.progress ∙ sym (append-nil s.progress); held = h.held }

same_marked : (m : Option ℕ) (v : Value) (s t : State) → HasSame s t → HasSame s (marked m v t)
same_marked None v s t h = h
same_marked (Some n) v s t h = record { progress = h.progress; held = h.held; kept = h.kept }

module _ (name : Kind → Bytes → Bytes) where
  same_content : (s : State) (m : Mode) (d : DataRef) → IfOk (content name s m d) (λ r. HasSame s r.0)
  same_content s Gitlink (Object x) = same s
  same_content s m (Mark n) = next_has (λ r. HasSame s r.0) (at s n) _ (λ v. next_has (λ r. HasSame s r.0) (blob_bytes v) _ (λ x. same s))
  same_content s m (Object x) = next_has (λ r. HasSame s r.0) (base_value name s.history x) _ (λ v. next_has (λ r. HasSame s r.0) (blob_bytes v) _ (λ y. same s))
  same_content s m (Inline x) = record { progress = refl; held = refl; kept = refl }

  same_changed : (s : State) (f : FileMap Bytes) (c : Change) → IfOk (changed name s f c) (λ r. HasSame s r.0)
  same_changed s f (Modify m d p) = then_has (λ r. HasSame s r.0) (λ r. HasSame s r.0) (content name s m d) _ (same_content s m d) (λ r h. next_has (λ q. HasSame s q.0) (modified f p (m, r.1)) _ (λ g. h))
  same_changed s f (Remove p) = same s
  same_changed s f (Copy p q) = next_has (λ r. HasSame s r.0) (copied f p q) _ (λ g. same s)
  same_changed s f (Rename p q) = next_has (λ r. HasSame s r.0) (renamed f p q) _ (λ g. same s)
  same_changed s f Clear = same s

  then_same : (s t : State) → HasSame s t → (r : Result (State × FileMap Bytes) Fault) → IfOk r (λ q. HasSame t q.0) → IfOk r (λ q. HasSame s q.0)
  then_same s t h (Ok q) k = record { progress = k.progress ∙ h.progress; held = k.held ∙ h.held; kept = k.kept ∙ h.kept }
  then_same s t h (Err e) k = tt

  same_all_changed : (s : State) (f : FileMap Bytes) (cs : List Change) → IfOk (all_changed name s f cs) (λ r. HasSame s r.0)
  same_all_changed s f [] = same s
  same_all_changed s f (c ∷ cs) =
      then_has (λ r. HasSame s r.0) (λ r. HasSame s r.0) (changed name s f c) (λ r. all_changed name r.0 r.1 cs) (same_changed s f c)
      (λ r h. then_same s r.0 h (all_changed name r.0 r.1 cs) (same_all_changed r.0 r.1 cs))

  same_commit : (s : State) (c : CommitParts) → IfOk (step_commit name s c) (HasSame s)
  same_commit s c =
      next_has (HasSame s) (first_parent name s c) _ (λ first. next_has (HasSame s) (all_committed name c.ref s c.merges) _ (λ others.
      then_has (λ r. HasSame s r.0) (HasSame s) (all_changed name s (starting_files first) c.changes) _ (same_all_changed s (starting_files first) c.changes)
      (λ r h.
      let made = commit_value (commit r.1 (commits_of (with_first_parent first others)) (text_made c)) in
      let m = same_marked c.mark made s (added made r.0) (record { progress = h.progress; held = h.held; kept = h.kept }) in
      record { progress = m.progress; held = m.held; kept = m.kept })))

  same_tag : (s : State) (t : TagParts) → IfOk (step_tag name s t) (HasSame s)
  same_tag s t =
      next_has (HasSame s) (committed name commit_alone s t.target) _ (λ c.
      let made = tag_value (tag_made c t) in
      let m = same_marked t.mark made s (added made s) (record { progress = refl; held = refl; kept = refl }) in
      record { progress = m.progress; held = m.held; kept = m.kept })

  same_reset : (s : State) (b : Bytes) (x : Option CommitIsh) → IfOk (step_reset name s b x) (HasSame s)
  same_reset s b None = record { progress = refl; held = refl; kept = refl }
  same_reset s b (Some x) = next_has (HasSame s) (committed_for name b s x) _ (λ c. record { progress = refl; held = refl; kept = refl })

  same_blob : (s : State) (m : Option ℕ) (x : Bytes) → HasSame s (marked m (blob_value x) (added (blob_value x) s))
  same_blob s m x = same_marked m (blob_value x) s (added (blob_value x) s) (record { progress = refl; held = refl; kept = refl })

  all_more : (s : State) (r : Result State Fault) → IfOk r (HasSame s) → IfOk r (HasMore s)
  all_more s (Ok t) h = no_more s t h
  all_more s (Err e) h = tt

  checkpoint_more : (s : State) → IfOk (step_checkpoint s) (HasMore s)
  checkpoint_more s = by (is_fast_forward s)
    where
      by : (b : Bool) → IfOk (cond b (Ok (checkpointed s)) (Err fault.NotFastForward)) (HasMore s)
      by true = record { text = []; progress = sym (append-nil s.progress); held = refl }
      by false = tt

  pub more_progress : (s : State) (c : Command) → IfOk (step name s c) (HasMore s)
  more_progress s (Blob b) = no_more s _ (same_blob s b.mark b.bytes)
  more_progress s (command.Commit c) = all_more s (step_commit name s c) (same_commit s c)
  more_progress s (command.Tag t) = all_more s (step_tag name s t) (same_tag s t)
  more_progress s (Reset r) = all_more s (step_reset name s r.ref r.parent) (same_reset s r.ref r.parent)
  more_progress s (Progress x) = record { text = codes "progress " ++ x ++ 10 ∷ []; progress = ap (λ z. z ++ 10 ∷ []) (append_assoc s.progress (codes "progress ") x) ∙ append_assoc s.progress (codes "progress " ++ x) (10 ∷ []); held = refl }
  more_progress s (Asks features.Force) = record { text = []; progress = sym (append-nil s.progress); held = refl }
  more_progress s (Asks features.Done) = no_more s s (same s)
  more_progress s Checkpoint = checkpoint_more s
  more_progress s (Asks features.RawDates) = no_more s s (same s)
  more_progress s (OptionLine t) = no_more s s (same s)
  more_progress s Done = no_more s s (same s)

  -- ---- what a command but a checkpoint leaves

  all_kept : (s : State) (r : Result State Fault) → IfOk r (HasSame s) → IfOk r (λ t. t.kept ≡ s.kept)
  all_kept s (Ok t) h = h.kept
  all_kept s (Err e) h = tt

  pub kept_still : (s : State) (c : Command) → IsOther c → IfOk (step name s c) (λ t. t.kept ≡ s.kept)
  kept_still s (Blob b) o = (same_blob s b.mark b.bytes).kept
  kept_still s (command.Commit c) o = all_kept s (step_commit name s c) (same_commit s c)
  kept_still s (command.Tag t) o = all_kept s (step_tag name s t) (same_tag s t)
  kept_still s (Reset r) o = all_kept s (step_reset name s r.ref r.parent) (same_reset s r.ref r.parent)
  kept_still s (Progress x) o = refl
  kept_still s (Asks features.Force) o = refl
  kept_still s (Asks features.Done) o = refl
  kept_still s Checkpoint o = absurd o
  kept_still s (Asks features.RawDates) o = refl
  kept_still s (OptionLine t) o = refl
  kept_still s Done o = refl

  -- ---- the outcome's

  -- the text of an end is that of its state
  pub last_progress : (n : ℕ) (s : State) (end : Option Fault) → progress_of (ended n s end) ≡ s.progress
  last_progress n s (Some e) = refl
  last_progress n s None = elim (is_fast_forward s) as (λ b. progress_of (cond b (finished (final s) s.progress (report n s)) (refused (n + 1) fault.NotFastForward s.progress s.kept)) ≡ s.progress) [ true ↦ refl | false ↦ refl ]

  -- the outcome's progress begins with that of each state on the way
  pub begins_outcome : (n : ℕ) (s : State) (cs : List Command) (end : Option Fault) → (rest : Bytes) × (progress_of (replayed name n s cs end) ≡ s.progress ++ rest)
  begins_outcome n s [] end = ([], last_progress n s end ∙ sym (append-nil s.progress))
  begins_outcome n s (c ∷ cs) end =
      elim (step name s c) as (λ r. IfOk r (HasMore s) → (rest : Bytes) × (progress_of (elim r [ Ok t ↦ replayed name (n + 1) t cs end | Err e ↦ refused (n + 1) e s.progress s.kept ]) ≡ s.progress ++ rest)) [
        | Ok t ↦ λ h.
            let k = begins_outcome (n + 1) t cs end in
            (h.text ++ k.0, k.1 ∙ ap (λ x. x ++ k.0) h.progress ∙ append_assoc s.progress h.text k.0)
        | Err e ↦ λ h. ([], sym (append-nil s.progress))
      ] (more_progress s c)

  last_end : (n : ℕ) (s : State) (end : Option Fault) → n + 1 ≤ last_number (ended n s end)
  last_end n s (Some e) = omega arith
  last_end n s None = elim (is_fast_forward s) as (λ b. n + 1 ≤ last_number (cond b (finished (final s) s.progress (report n s)) (refused (n + 1) fault.NotFastForward s.progress s.kept))) [ true ↦ omega arith | false ↦ omega arith ]

  -- its number is that of a command that comes, or more
  pub numbers_outcome : (n : ℕ) (s : State) (cs : List Command) (end : Option Fault) → n + 1 ≤ last_number (replayed name n s cs end)
  numbers_outcome n s [] end = last_end n s end
  numbers_outcome n s (c ∷ cs) end =
      elim (step name s c) as (λ r. n + 1 ≤ last_number (elim r [ Ok t ↦ replayed name (n + 1) t cs end | Err e ↦ refused (n + 1) e s.progress s.kept ])) [
        | Ok t ↦ let k = numbers_outcome (n + 1) t cs end in omega (arith, k)
        | Err e ↦ omega arith
      ]

-- ---- what a sink took

-- a text that is written behind another one
pub writes_later : (was mid now : Option Taken) (a b : Bytes) (r : Result (Unit {0}) Fault) → Took was mid a → Writes mid now b r → Writes was now (a ++ b) r
writes_later was mid now a b (Ok x) h k = took_both was mid now a b h k
writes_later was mid now a b (Err e) h k = (k.0, failed_after was mid now a b h k.1)

-- one that isn't written is the front of a longer one
pub writes_sooner : (was now : Option Taken) (a b : Bytes) (e : Fault) → Writes was now a (Err e) → Writes was now (a ++ b) (Err e)
writes_sooner was now a b e h = (h.0, failed_longer was now a b h.1)
