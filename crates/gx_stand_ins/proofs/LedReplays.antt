-- Replays that the small history accepts, the whole one accepts.
use Rattle.std.proofs.Common.{◌≡◌, ℕ, ◌+◌, suc, Bool, true, false, cond, List, [], ◌∷◌, ◌++◌, length, append-nil, Option, None, Some, Result, Ok, Err, refl, sym, ap, subst, ◌∙◌}
use Rattle.std.specs.Prelude.{◌-◌, codes, ⊤}
use Rattle.std.specs.List.{AllByRecursion}
use Rattle.gx_model.specs.declared.faults.Fault.{Fault}
use Rattle.gx_model.specs.declared.faults.Fault.TheVariants as fault
use Rattle.gx_model.specs.declared.features.Feature.TheVariants as features
use Rattle.gx_model.specs.declared.features.Features.{Features}
use Rattle.gx_model.specs.declared.objects.Kind.{Kind}
use Rattle.gx_model.specs.Objects.{IsNamer}
use Rattle.gx_model.specs.Texts.{Bytes}
use Rattle.gx_model.specs.Histories.Values.{blob_value}
use Rattle.gx_model.specs.Histories.{History, Target}
use Rattle.gx_model.specs.Streams.Commands as command
use Rattle.gx_model.specs.Streams.Commands.{Asks, Blob, Checkpoint, Command, Done, OptionLine, Progress, Reset}
use Rattle.gx_model.specs.Replay.{Outcome, State, added, begun, ended, final, finished, is_fast_forward, marked, overwritten, refused, replayed, report, step}
use Rattle.gx_stand_ins.specs.Asked.{IsAlike}
use Rattle.gx_stand_ins.specs.StandIns.{AreNamers, AreOwnBytes, StandIns}
use Rattle.gx_stand_ins.specs.StandInLaws.{GrewAlike, IsSmall, StandInsTell, whole_refs, whole_report}
use Rattle.gx_stand_ins.proofs.AddedAlike.{blob_alike, marked_alike}
use Rattle.gx_stand_ins.proofs.Leading.{Leads}
use Rattle.gx_stand_ins.proofs.LedCheckpoints.{checkpoint_led, final_alike, forward_alike, published_alike}
use Rattle.gx_stand_ins.proofs.LedStates.{GoAlike}
use Rattle.gx_stand_ins.proofs.LedSteps.{commit_led, reset_led, tag_led}

length_each : (ins : StandIns) (refs : List (Bytes × Target)) → length (whole_refs ins refs) ≡ length refs
length_each ins [] = refl
length_each ins (r ∷ rs) = ap suc (length_each ins rs)

all_kept : {X : Type 0} (P : X → Type 0) (xs ys : List X) → AllByRecursion P (xs ++ ys) → AllByRecursion P ys
all_kept P [] ys h = h
all_kept P (x ∷ xs) ys h = all_kept P xs ys h.1

module _ (stand name : Kind → Bytes → Bytes) (ins : StandIns) (small whole : History) where
  abbrev Alike : State → State → Type 0
  Alike = GoAlike stand name ins small whole

  with_texts : (s w : State) (x : Bytes) (forced : Bool) → Alike s w → Alike (record s { progress = x; is_forced = forced }) (record w { progress = x; is_forced = forced })
  with_texts s w x forced h = record {
    grown = h.grown;
    refs = record { sets = h.refs.sets; front = h.refs.front; grown = h.refs.grown; kept = h.refs.kept };
    tables = record {
      marks = h.tables.marks;
      marks_kept = h.tables.marks_kept;
      branches = h.tables.branches;
      branches_kept = h.tables.branches_kept;
      branches_alike = h.tables.branches_alike;
      tags = h.tables.tags;
      tags_kept = h.tables.tags_kept;
      published = h.tables.published;
    };
    forced = refl;
    progress = refl;
    small_held = h.small_held;
    whole_held = h.whole_held;
  }

  abbrev after : State → Bytes → Bytes
  after s x = s.progress ++ codes "progress " ++ x ++ 10 ∷ []

  module _ (namers : AreNamers stand name) (start : IsSmall stand name ins small whole) where
    blob_step : (m : Option ℕ) (x : Bytes) (s w : State) → Alike s w → AreOwnBytes stand name ins x → Alike (marked m (blob_value x) (added (blob_value x) s)) (marked m (blob_value x) (added (blob_value x) w))
    blob_step m x s w h own =
        subst (λ y. Alike (marked m (blob_value x) (added (blob_value x) s)) (marked m (blob_value y) (added (blob_value x) w))) own.same
        (marked_alike stand name ins small whole m (blob_value x) (added (blob_value x) s) (added (blob_value x) w) (blob_alike stand name ins small whole namers start x s w h own) (own.named ∙ ap (name _) (sym own.same)))

    module _ (namer : IsNamer name) where
      -- one command
      step_led : (s w : State) (c : Command) → Alike s w → IsAlike stand name ins small whole c → Leads Alike (step stand s c) (step name w c)
      step_led s w (Blob b) h k = blob_step b.mark b.bytes s w h k
      step_led s w (command.Commit c) h k = commit_led stand name ins small whole namers start namer s w c h k
      step_led s w (command.Tag t) h k = tag_led stand name ins small whole namers start s w t h k
      step_led s w (Reset r) h k = reset_led stand name ins small whole namers start s w r.ref r.parent h k.0 k.1
      step_led s w (Progress x) h k =
          subst (λ b. Alike (record s { progress = after s x }) (record w { progress = after w x; is_forced = b })) (sym h.forced)
          (subst (λ p. Alike (record s { progress = after s x }) (record w { progress = p ++ codes "progress " ++ x ++ 10 ∷ []; is_forced = s.is_forced })) (sym h.progress) (with_texts s w (after s x) s.is_forced h))
      step_led s w (Asks features.Force) h k = subst (λ p. Alike (record s { is_forced = true }) (record w { progress = p; is_forced = true })) (sym h.progress) (with_texts s w s.progress true h)
      step_led s w (Asks features.Done) h k = h
      step_led s w Checkpoint h k = checkpoint_led stand name ins small whole s w h
      step_led s w (Asks features.RawDates) h k = h
      step_led s w (OptionLine t) h k = h
      step_led s w Done h k = h

      -- what the whole replay gives where the small one is accepted
      abbrev IsTold : Outcome → Outcome → Type 0
      IsTold (finished h x r) q = (k : History) × (q ≡ finished k x (whole_report whole k r)) × GrewAlike stand name ins small whole h k
      IsTold (refused n f x kept) q = ⊤

      end_told : (n : ℕ) (s w : State) (end : Option Fault) → Alike s w → IsTold (ended n s end) (ended n w end)
      end_told n s w (Some e) h = tt
      end_told n s w None h = by (is_fast_forward s) refl
        where
          counted : report n w ≡ whole_report whole (final w) (report n s)
          counted =
              λ i. record {
                commands = n;
                objects = length w.history.values - h.whole_held i;
                refs = (ap length (published_alike stand name ins small whole s w h) ∙ length_each ins (overwritten s s.published)) i;
              }

          gives : is_fast_forward w ≡ true → ended n w None ≡ finished (final w) s.progress (whole_report whole (final w) (report n s))
          gives e =
              ap (λ b. cond b (finished (final w) w.progress (report n w)) (refused (n + 1) fault.NotFastForward w.progress w.kept)) e
              ∙ (λ i. finished (final w) (h.progress i) (counted i))

          grew : GrewAlike stand name ins small whole (final s) (final w)
          grew =
              let refs = final_alike stand name ins small whole s w h in
              record {
                new = h.grown.new;
                small_values = h.grown.front;
                whole_values = h.grown.grown;
                records = h.grown.same;
                sets = refs.sets;
                small_refs = refs.front;
                whole_refs = refs.grown;
                named = refs.kept;
              }

          by : (b : Bool) → is_fast_forward s ≡ b → IsTold (cond b (finished (final s) s.progress (report n s)) (refused (n + 1) fault.NotFastForward s.progress s.kept)) (ended n w None)
          by true e = (final w, gives (forward_alike stand name ins small whole s w h e), grew)
          by false e = tt

      replay_told : (n : ℕ) (s w : State) (cs : List Command) (end : Option Fault) → Alike s w → AllByRecursion (IsAlike stand name ins small whole) cs → IsTold (replayed stand n s cs end) (replayed name n w cs end)
      replay_told n s w [] end h k = end_told n s w end h
      replay_told n s w (c ∷ cs) end h k = by (step stand s c) (step name w c) (step_led s w c h k.0) (λ t u l. replay_told (n + 1) t u cs end l k.1)
        where
          by : (r q : Result State Fault) → Leads Alike r q → ((t u : State) → Alike t u → IsTold (replayed stand (n + 1) t cs end) (replayed name (n + 1) u cs end))
              → IsTold (elim r as (λ _. Outcome) [ Ok t ↦ replayed stand (n + 1) t cs end | Err e ↦ refused (n + 1) e s.progress s.kept ])
              (elim q as (λ _. Outcome) [ Ok t ↦ replayed name (n + 1) t cs end | Err e ↦ refused (n + 1) e w.progress w.kept ])
          by (Err e) q l rest = tt
          by (Ok t) (Ok u) l rest = rest t u l
          by (Ok t) (Err e) l rest = absurd l

    begins : (features : Features) → Alike (begun features small) (begun features whole)
    begins features = record {
      grown = record { new = []; front = sym (append-nil small.values); grown = refl; same = tt; kept = start.values };
      refs = record { sets = []; front = refl; grown = refl; kept = tt };
      tables = record { marks = refl; marks_kept = tt; branches = refl; branches_kept = tt; branches_alike = tt; tags = refl; tags_kept = tt; published = refl };
      forced = refl;
      progress = refl;
      small_held = refl;
      whole_held = refl;
    }

pub told : StandInsTell
told stand name namer namers ins small whole small_now start features commands end alike progress report e =
    subst (λ o. IsTold stand name ins small whole namers start namer o (replayed name 0 (begun features whole) commands end)) e
    (replay_told stand name ins small whole namers start namer 0 (begun features small) (begun features whole) commands end (begins stand name ins small whole namers start features) alike)
