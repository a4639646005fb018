-- Where the replay of the commands is accepted, and names tell the values of its history apart, memory or the sink stops an import, behind so many checkpoints.
use Rattle.std.proofs.Common.{◌≡◌, ℕ, ◌+◌, ◌-◌, true, false, cond, List, [], ◌∷◌, length, take, Option, Some, None, Result, Ok, Err, refl, sym, ap, subst, ◌∙◌, inl, inr, arith}
use Rattle.std.specs.Prelude.{IfOk}
use Rattle.std.specs.List.{filter}
use Rattle.std.proofs.Math.Seq.{take-append_seam}
use Rattle.gx_model.specs.declared.objects.Kind.{Kind}
use Rattle.gx_model.specs.declared.faults.Fault.{Fault}
use Rattle.gx_model.specs.declared.faults.Fault.TheVariants as model_fault
use Rattle.gx_model.specs.declared.features.Features.{Features}
use Rattle.gx_model.specs.Texts.{Bytes}
use Rattle.gx_model.specs.Texts.Sinks.{Taken}
use Rattle.gx_model.specs.Histories.{Records}
use Rattle.gx_model.specs.Records.HistoryOf.{history_of}
use Rattle.gx_model.specs.Replay.{Kept, Outcome, State, begun, finished, refused, replayed, step}
use Rattle.gx_model.specs.Streams.Commands as command
use Rattle.gx_model.specs.Streams.Commands.{Asks, Blob, Checkpoint, Command, Done, OptionLine, Progress, Reset}
use Rattle.gx_text.specs.Devices.{Coming}
use Rattle.gx_command.specs.Reading.{commands_asked_from}
use Rattle.gx_import.specs.Imports.{Imports, LeavesBefore}
use Rattle.gx_model.specs.Laws.RefusedReplays.{checkpoints_in, is_checkpoint}
use Rattle.gx_import.specs.Stopping.{IsCutShort, StopsReplay}
use Rattle.gx_import.specs.declared.fault.ImportFault.{ImportFault}
use Rattle.gx_import.proofs.KeptCheckpoints.{given_checkpoint}
use Rattle.gx_import.proofs.NoClashes.{none_clashes}
use Rattle.gx_import.proofs.ProgressTexts.{IsOther, kept_still}
use Rattle.gx_import.proofs.ReachedStates.{imported_is}

-- ---- the checkpoints of commands

none_more : (a b : ℕ) → a ≡ b → a ≡ b + 0
none_more a b e = omega (arith, e)

sum_up : (all later first one more both : ℕ) → all ≡ later + more → later ≡ first + one → both ≡ one + more → all ≡ first + both
sum_up all later first one more both p q r = omega (arith, p, q, r)

-- a first command and those behind it
count_more : (c : Command) (cs : List Command) → checkpoints_in (c ∷ cs) ≡ checkpoints_in (c ∷ []) + checkpoints_in cs
count_more c cs =
    elim (is_checkpoint c) as (λ b. length (cond b (c ∷ filter is_checkpoint cs) (filter is_checkpoint cs)) ≡ length (cond b (c ∷ []) []) + length (filter is_checkpoint cs)) [
      | true ↦ omega arith
      | false ↦ omega arith
    ]

module _ (name : Kind → Bytes → Bytes) where
  -- a command but a checkpoint leaves their number
  others_count : (s : State) (c : Command) → IsOther c → (t : State) → step name s c ≡ Ok t → t.kept.checkpoints ≡ s.kept.checkpoints + 0
  others_count s c other t e =
      let kept : t.kept ≡ s.kept = subst (λ r. IfOk r (λ u. u.kept ≡ s.kept)) e (kept_still name s c other) in
      none_more t.kept.checkpoints s.kept.checkpoints (ap (λ (k : Kept). k.checkpoints) kept)

  -- a step counts those of its command
  step_counts : (s : State) (c : Command) (t : State) → step name s c ≡ Ok t → t.kept.checkpoints ≡ s.kept.checkpoints + checkpoints_in (c ∷ [])
  step_counts s Checkpoint t e = ap (λ (z : State). z.kept.checkpoints) (given_checkpoint s t e).1
  step_counts s (Blob b) t e = others_count s (Blob b) tt t e
  step_counts s (command.Commit c) t e = others_count s (command.Commit c) tt t e
  step_counts s (command.Tag g) t e = others_count s (command.Tag g) tt t e
  step_counts s (Reset r) t e = others_count s (Reset r) tt t e
  step_counts s (Progress x) t e = others_count s (Progress x) tt t e
  step_counts s (Asks f) t e = others_count s (Asks f) tt t e
  step_counts s (OptionLine x) t e = others_count s (OptionLine x) tt t e
  step_counts s Done t e = others_count s Done tt t e

  -- what the next commands give
  abbrev Next : ℕ → State → List Command → Fault → Result State Fault → Outcome
  Next n s cs f given = elim given [ Ok t ↦ replayed name (n + 1) t cs (Some f) | Err d ↦ refused (n + 1) d s.progress s.kept ]

  -- what is kept where commands are cut off behind all of them counts theirs
  kept_counts : (n : ℕ) (s : State) (cs : List Command) (f : Fault) (number : ℕ) (g : Fault) (text : Bytes) (kept : Kept) → number ≡ n + length cs + 1
      → replayed name n s cs (Some f) ≡ refused number g text kept → kept.checkpoints ≡ s.kept.checkpoints + checkpoints_in cs
  kept_counts n s [] f number g text kept all e =
      let same : s.kept ≡ kept = cc e in
      none_more kept.checkpoints s.kept.checkpoints (ap (λ (k : Kept). k.checkpoints) (sym same))
  kept_counts n s (c ∷ cs) f number g text kept all e =
      elim (step name s c) as (λ o. step name s c ≡ o → Next n s cs f o ≡ refused number g text kept → kept.checkpoints ≡ s.kept.checkpoints + checkpoints_in (c ∷ cs)) [
        | Ok t ↦ λ q h.
            sum_up kept.checkpoints t.kept.checkpoints s.kept.checkpoints (checkpoints_in (c ∷ [])) (checkpoints_in cs) (checkpoints_in (c ∷ cs))
            (kept_counts (n + 1) t cs f number g text kept (omega (arith, all)) h) (step_counts s c t q) (count_more c cs)
        | Err d ↦ λ q h.
            let at : n + 1 ≡ number = cc h in
            absurd (omega (arith, all, at))
      ] refl e

  -- ---- the fault of an import

  module _ (asks : Features) where
    -- the checkpoints before a fault are those of the commands before it
    counted : (old new : Records) (commands : List Command) (fault : ImportFault) → LeavesBefore asks name old new commands fault
        → fault.checkpoints ≡ checkpoints_in (take (fault.command - 1) commands)
    counted old new commands fault k =
        let number = k.3 in
        let front : fault.command - 1 ≡ length k.0 = omega (arith, number) in
        let before : take (fault.command - 1) commands ≡ k.0 = (λ i. take (front i) (k.2 i)) ∙ take-append_seam k.0 k.1 in
        let start : k.5.checkpoints ≡ 0 + checkpoints_in k.0 =
        kept_counts 0 (begun asks (history_of old)) k.0 model_fault.ReadFailed fault.command model_fault.ReadFailed k.4 k.5 (omega (arith, number)) k.6 in
        let count : k.5.checkpoints ≡ checkpoints_in k.0 = omega (arith, start) in
        k.7.count ∙ count ∙ sym (ap checkpoints_in before)

    -- an import that is refused, though its commands' replay is accepted
    pub cut_short : (old new : Records) (coming : Option Coming) (was now : Option Taken) (fault : ImportFault) → Imports asks name old new coming was now (Err fault) → StopsReplay asks name old coming fault
    cut_short old new None was now fault h = tt
    cut_short old new (Some coming) was now fault h = λ k text report accepted told.
        let commands = commands_asked_from asks coming in
        elim h as (λ _. IsCutShort commands.list fault) [
          | inl r ↦
              let other : refused fault.command fault.kind r.0 r.1 ≡ finished k text report = sym r.2 ∙ accepted in
              absurd (cc other)
          | inr l ↦
              let count = counted old new commands.list fault l.3 in
              elim l.2 as (λ _. IsCutShort commands.list fault) [
                | inl m ↦ (inl m.0, count)
                | inr o ↦ elim o as (λ _. IsCutShort commands.list fault) [
                  | inl m ↦
                      absurd (none_clashes name 0 (begun asks (history_of old)) commands.list commands.fault k text report
                      (sym (imported_is asks name (history_of old) coming) ∙ accepted) told fault.command m.1)
                  | inr m ↦ (inr m.0, count)
                ]
              ]
        ]
