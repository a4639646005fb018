-- What a checkpoint keeps, what the commands after it leave of that, and the records and refs that a refusal goes back to.
use Rattle.std.proofs.Common.{◌≡◌, ℕ, zero, suc, ◌+◌, ◌≤◌, Bool, true, false, cond, List, [], ◌∷◌, ◌++◌, length, take, Option, Result, Ok, Err, refl, sym, ap, subst, ◌∙◌, inl, inr, arith}
use Rattle.std.specs.Prelude.{IfOk, OnErr, OnOk}
use Rattle.std.specs.List.{AllByRecursion}
use Rattle.std.proofs.Math.Seq.{take-length}
use Rattle.std.proofs.lemmas.List.{take-append-le}
use Rattle.gx_model.specs.declared.objects.Kind.{Kind}
use Rattle.gx_model.specs.declared.faults.Fault.TheVariants as fault
use Rattle.gx_model.specs.Texts.{Bytes}
use Rattle.gx_model.specs.Streams.Commands.{Checkpoint, Command}
use Rattle.gx_model.specs.Histories.{Record, Records}
use Rattle.gx_model.specs.Records.HistoryOf.{history_of}
use Rattle.gx_model.specs.Replay.{State, checkpointed, is_fast_forward, start, step_checkpoint}
use Rattle.gx_model.specs.Records.Sound.{IsTarget}
use Rattle.gx_model.specs.Texts.Sinks.{Taken}
use Rattle.gx_import.specs.Applying.{Applies}
use Rattle.gx_import.specs.Keeping.{AreNone, AreStill, IsLeft, IsNext, Keeps, KeepsAfter, KeepsFromEach, Moves, left_of}
use Rattle.gx_import.specs.Publishing.{Publishes}
use Rattle.gx_import.specs.Standing.{Extends, Stands}
use Rattle.gx_import.specs.declared.checkpoints.Checkpoints.{Checkpoints}
use Rattle.gx_model.specs.declared.faults.Fault.{Fault}
use Rattle.gx_model.specs.declared.faults.Fault.TheVariants.{NotFastForward, OutOfMemory}
use Rattle.gx_import.specs.declared.tables.Tables.{Tables}
use Rattle.gx_import.proofs.AppliedCommands.{followed}
use Rattle.gx_import.proofs.Extended.{extended_same}
use Rattle.gx_import.proofs.ProgressTexts.{IsOther, kept_still}

-- ---- fronts of records

beyond : (xs ys : List Record) (n : ℕ) → length xs ≤ n → Extends xs (take n (xs ++ ys))
beyond [] ys n h = (take n ys, refl)
beyond (x ∷ xs) ys zero h = absurd (omega (arith, h))
beyond (x ∷ xs) ys (suc n) h = let q = beyond xs ys n (omega (arith, h)) in (q.0, ap (λ zs. x ∷ zs) q.1)

-- records that are there stay the first ones
pub front_stays : (n : ℕ) (old new : List Record) → n ≤ length old → Extends old new → take n new ≡ take n old
front_stays n old new h e = ap (take n) e.1 ∙ take-append-le n old e.0 h

-- the old records are in front of what is left of more
pub front_left : (n : ℕ) (old new : List Record) → length old ≤ n → Extends old new → Extends old (take n new)
front_left n old new h e = subst (λ rs. Extends old (take n rs)) (sym e.1) (beyond old e.0 n h)

longer : (old new : List Record) → Extends old new → length old ≤ length new
longer old new h = subst (λ x. length old ≤ length x) (sym h.1) (more old h.0)
  where
    more : (xs ys : List Record) → length xs ≤ length (xs ++ ys)
    more [] ys = omega arith
    more (x ∷ xs) ys = let k = more xs ys in omega (arith, k)

abbrev with_refs : List Record → List (Bytes × Bytes) → Records
with_refs records refs = record { records = records; refs = refs }

-- what is left is the same where records came and refs stayed
left_same : (old new : Records) (n : ℕ) → n ≤ length old.records → Extends old.records new.records → new.refs ≡ old.refs
    → with_refs (take n new.records) new.refs ≡ with_refs (take n old.records) old.refs
left_same old new n h e same = λ i. with_refs (front_stays n old.records new.records h e i) (same i)

pub when_refused : {X E P : Type 0} (r : Result X E) → P → OnErr r P
when_refused (Ok x) p = tt
when_refused (Err e) p = p

-- ---- a checkpoint

-- a checkpoint that isn't refused
pub given_checkpoint : (s t : State) → step_checkpoint s ≡ Ok t → (is_fast_forward s ≡ true) × (t ≡ checkpointed s)
given_checkpoint s t e = by (is_fast_forward s) refl e
  where
    by : (b : Bool) → is_fast_forward s ≡ b → cond b (Ok (checkpointed s)) (Err fault.NotFastForward) ≡ Ok t → (is_fast_forward s ≡ true) × (t ≡ checkpointed s)
    by true q k = let same : checkpointed s ≡ t = cc k in (q, sym same)
    by false q k = absurd (cc k)

step_is : (s : State) (b : Bool) → is_fast_forward s ≡ b → step_checkpoint s ≡ cond b (Ok (checkpointed s)) (Err fault.NotFastForward)
step_is s b e = ap (λ c. cond c (Ok (checkpointed s)) (Err fault.NotFastForward)) e

module _ (name : Kind → Bytes → Bytes) {A : Type 0} where
  -- what it does is the model's step
  pub checkpoint_as : (old new : Records) (now : Tables A) (s : State) (was : Option Taken) (r : Result (Unit {0}) Fault) → Publishes name s new now r → Applies name old new now s Checkpoint was was r
  checkpoint_as old new now s was (Ok x) p = followed name old new now s Checkpoint was (checkpointed s) (step_is s true p.0) (record { stands = p.1; progress = refl; held = refl })
  checkpoint_as old new now s was (Err e) p =
      let applies : Fault → Type 0 = λ fault. Applies name old new now s Checkpoint was was (Err fault) in
      elim p as (λ _. applies e) [
        | inl k ↦ subst applies (sym k) refl
        | inr k ↦ subst applies (sym k.0) (step_is s false k.1, refl)
      ]

  -- and what it published is kept from then on
  pub kept_anew : (old new : Records) (tables after : Tables A) (was now : Checkpoints) (r : Result (Unit {0}) Fault) → new.records ≡ old.records
      → OnOk r (IsNext new was now) → OnErr r (AreStill old new was now) → ((s : State) → Stands name old tables s → Publishes name s new after r) → KeepsFromEach name old new tables was now Checkpoint r
  kept_anew old new tables after was now (Ok x) same next still published = λ s h k t e.
      let whole : left_of now new ≡ new = λ i. with_refs ((ap (λ n. take n new.records) next.records ∙ take-length new.records) i) new.refs in
      subst (Keeps new now) (sym (given_checkpoint s t e).1) (record { history = ap history_of whole ∙ (published s h).1.history; count = next.count ∙ ap (λ n. n + 1) k.count })
  kept_anew old new tables after was now (Err f) same next still published = λ s h k.
      let left : left_of now new ≡ left_of was old = λ i. with_refs (take (still.records i) (same i)) (still.refs i) in
      record { history = ap history_of left ∙ k.history; count = still.count ∙ k.count }

  -- what another command leaves of it
  pub kept_on : (old new : Records) (tables : Tables A) (checkpoints : Checkpoints) (c : Command) → IsOther c → checkpoints.records ≤ length old.records → Extends old.records new.records → new.refs ≡ old.refs
      → (r : Result (Unit {0}) Fault) → KeepsFromEach name old new tables checkpoints checkpoints c r
  kept_on old new tables checkpoints c other fits e same r = λ s h k. by s k r
    where
      left : left_of checkpoints new ≡ left_of checkpoints old
      left = left_same old new checkpoints.records fits e same

      by : (s : State) → Keeps old checkpoints s → (r : Result (Unit {0}) Fault) → KeepsAfter name old new checkpoints checkpoints s c r
      by s k (Ok x) = λ t e.
          let kept = subst (λ r. IfOk r (λ t. t.kept ≡ s.kept)) e (kept_still name s c other) in
          record { history = ap history_of left ∙ k.history ∙ ap (λ z. z.history) (sym kept); count = k.count ∙ ap (λ z. z.checkpoints) (sym kept) }
      by s k (Err f) = record { history = ap history_of left ∙ k.history; count = k.count }

  -- and what one leaves that adds nothing
  pub kept_here : (r : Records) (tables : Tables A) (checkpoints : Checkpoints) (c : Command) → IsOther c → checkpoints.records ≤ length r.records → (a : Result (Unit {0}) Fault) → KeepsFromEach name r r tables checkpoints checkpoints c a
  kept_here r tables checkpoints c other fits a = kept_on r r tables checkpoints c other fits (extended_same r.records r.records refl) refl a

-- nothing is kept but the start
pub kept_start : (r : Records) (checkpoints : Checkpoints) → AreNone r checkpoints → Keeps r checkpoints (start (history_of r))
kept_start r checkpoints h =
    let whole : left_of checkpoints r ≡ r = λ i. with_refs ((ap (λ n. take n r.records) h.records ∙ take-length r.records) i) r.refs in
    record { history = ap history_of whole; count = h.count }

-- ---- what is left

abbrev HaveTargets : List Record → List (Bytes × Bytes) → Type 0
HaveTargets records refs = AllByRecursion (λ ref. IsTarget records ref.0 ref.1) refs

pub left_start : (r : Records) (checkpoints : Checkpoints) → AreNone r checkpoints → HaveTargets r.records r.refs → IsLeft r r checkpoints
left_start r checkpoints h targets =
    let all : take checkpoints.records r.records ≡ r.records = ap (λ n. take n r.records) h.records ∙ take-length r.records in
    record {
      fits = omega (arith, h.records);
      front = omega (arith, h.records);
      targets = subst (λ rs. HaveTargets rs r.refs) (sym all) targets;
      none = λ e. (h.records, refl);
    }

pub left_next : (old mid new : Records) (was now : Checkpoints) → IsLeft old mid was → Extends mid.records new.records → Moves mid new was now → IsLeft old new now
left_next old mid new was now h e (inl still) =
    let long = longer mid.records new.records e in
    let records : take now.records new.records ≡ take was.records mid.records = ap (λ n. take n new.records) still.records ∙ front_stays was.records mid.records new.records h.fits e in
    record {
      fits = omega (arith, h.fits, still.records, long);
      front = omega (arith, h.front, still.records);
      targets = subst (λ rs. HaveTargets rs new.refs) (sym records) (subst (HaveTargets (take was.records mid.records)) (sym still.refs) h.targets);
      none = λ q. let k = h.none (sym still.count ∙ q) in (still.records ∙ k.0, still.refs ∙ k.1);
    }
left_next old mid new was now h e (inr next) =
    let long = longer mid.records new.records e in
    let records : take now.records new.records ≡ new.records = ap (λ n. take n new.records) next.records ∙ take-length new.records in
    record {
      fits = omega (arith, next.records);
      front = omega (arith, h.front, h.fits, next.records, long);
      targets = subst (λ rs. HaveTargets rs new.refs) (sym records) next.targets;
      none = λ q. absurd (omega (arith, next.count, q));
    }

pub moved : (old new : Records) (was now : Checkpoints) (r : Result (Unit {0}) Fault) → OnOk r (IsNext new was now) → OnErr r (AreStill old new was now) → Moves old new was now
moved old new was now (Ok x) next still = inr next
moved old new was now (Err e) next still = inl still

-- there are no more checkpoints than commands
pub counted_next : (old new : Records) (was now : Checkpoints) (n : ℕ) → Moves old new was now → was.count ≤ n → now.count ≤ n + 1
counted_next old new was now n (inl still) h = omega (arith, still.count, h)
counted_next old new was now n (inr next) h = omega (arith, next.count, h)
