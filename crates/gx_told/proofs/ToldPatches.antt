-- Patches that go out one after the other.
use Rattle.std.proofs.Common.{◌≡◌, ◌∙◌, [], ◌∷◌, ◌++◌, append_assoc, append-nil, List, Option, None, Some, Result, Ok, Err, refl, sym, ap, subst}
use Rattle.std.specs.Prelude.{IfSome}
use Rattle.gx_model.specs.Histories.{Records}
use Rattle.gx_model.specs.Records.HistoryOf.{named_values}
use Rattle.gx_model.specs.Texts.{Bytes}
use Rattle.gx_model.specs.Texts.Sinks.{Taken, Took}
use Rattle.gx_model.proofs.Texts.SentTexts.{took_both, took_nothing}
use Rattle.gx_differences.specs.Listed.{HaveLeaves, Standing, shown_difference, shown_differences}
use Rattle.gx_differences.specs.declared.listed.Difference.{Difference}
use Rattle.gx_patch.specs.Patches.{ArePatches, IsPatch, Puts}
use Rattle.gx_patch.proofs.Some.{one_patch, patches_join, some_patch, some_patches}
use Rattle.gx_questions.specs.Answers.{RefusesUntold}
use Rattle.gx_questions.specs.declared.fault.AskFault.{AskFault}
use Rattle.gx_questions.specs.declared.fault.AskFault.TheVariants as ask
use Rattle.gx_told.specs.Differing.{PrintsPatch, PrintsPatches}
use Rattle.gx_told.specs.Faults.{refused_at}
use Rattle.gx_told.specs.Printing.{PrintsText, Sent}
use Rattle.gx_told.specs.declared.fault.ToldFault.{ToldFault}
use Rattle.gx_told.proofs.Pieces.{cut_short}
use Rattle.gx_told.proofs.Prints.{none_sent, sent_prints}

-- ---- one patch

module _ (told : Option Records) (s : Standing) where
  -- a patch that was made goes out
  pub patch_sent : (was now : Option Taken) (before made text : Bytes) (answer : Result (Unit {0}) ToldFault) → before ≡ [] → text ≡ made → IfSome told (λ r. Puts (IsPatch (named_values r.records) s) before made) → Sent text was now answer
      → IfSome told (λ r. PrintsPatch r s was now answer)
  patch_sent was now before made text answer none e h k = by told h
    where
      by : (told : Option Records) → IfSome told (λ r. Puts (IsPatch (named_values r.records) s) before made) → IfSome told (λ r. PrintsPatch r s was now answer)
      by None h = tt
      by (Some r) h =
          let same : text ≡ h.0 = e ∙ h.1 ∙ ap (λ b. b ++ h.0) none in
          (h.0, h.2, subst (λ t. PrintsText t was now answer) same (sent_prints text was now answer k))

  -- none was made
  pub patch_stops : (X : Type 0) (was : Option Taken) (fault : AskFault) → RefusesUntold {X = X} told (Err fault) → IfSome told (λ r. PrintsPatch r s was was (Err (refused_at 1 fault)))
  patch_stops X was = by told
    where
      by : (told : Option Records) (fault : AskFault) → RefusesUntold {X = X} told (Err fault) → IfSome told (λ r. PrintsPatch r s was was (Err (refused_at 1 fault)))
      by None fault h = tt
      by (Some r) ask.OutOfMemory h = let t = some_patch (named_values r.records) s in (t.0, t.1, none_sent t.0 was)
      by (Some r) ask.ReadFailed h = let t = some_patch (named_values r.records) s in (t.0, t.1, ([], t.0, refl, took_nothing was))
      by (Some r) ask.Damaged h = absurd (cc h)
      by (Some r) (ask.Revision kind) h = absurd h

-- ---- one after the other

module _ {A : Type 0} (found : List (Difference A)) (was : Option Taken) where
  -- the patches of some paths went out, and these paths are left
  pub record Goes (now : Option Taken) (left : List (Difference A)) (r : Records) : Type 0 where
    pub front : Bytes
    pub done : List Standing
    pub parts : shown_differences found ≡ done ++ shown_differences left
    pub patches : ArePatches (named_values r.records) done front
    pub took : Took was now front
    pub held : HaveLeaves left r

  pub starts : (r : Records) → HaveLeaves found r → Goes was found r
  starts r h = record { front = []; done = []; parts = refl; patches = refl; took = took_nothing was; held = h }

  pub goes_on : (mid now : Option Taken) (d : Difference A) (left : List (Difference A)) (r : Records) → Goes mid (d ∷ left) r → PrintsPatch r (shown_difference d) mid now (Ok tt) → Goes now left r
  goes_on mid now d left r h k =
      let s = shown_difference d in
      record {
        front = h.front ++ k.0;
        done = h.done ++ s ∷ [];
        parts = h.parts ∙ sym (append_assoc h.done (s ∷ []) (shown_differences left));
        patches = patches_join (named_values r.records) h.done (s ∷ []) h.front k.0 h.patches (one_patch (named_values r.records) s k.0 k.1);
        took = took_both was mid now h.front k.0 h.took k.2;
        held = h.held.1;
      }

  pub stops : (mid now : Option Taken) (d : Difference A) (left : List (Difference A)) (fault : ToldFault) (r : Records) → Goes mid (d ∷ left) r → PrintsPatch r (shown_difference d) mid now (Err fault)
      → PrintsPatches r (shown_differences found) was now (Err fault)
  stops mid now d left fault r h k =
      let named = named_values r.records in
      let s = shown_difference d in
      let rest = some_patches named (shown_differences left) in
      let whole = h.front ++ (k.0 ++ rest.0) in
      let all = patches_join named h.done (s ∷ shown_differences left) h.front (k.0 ++ rest.0) h.patches (k.0, rest.0, k.1, rest.1, refl) in (
        whole,
        subst (λ ss. ArePatches named ss whole) (sym h.parts) all,
        cut_short was mid now whole k.0 rest.0 fault (record { front = h.front; parts = refl; took = h.took }) k.2,
      )

  pub ends : (now : Option Taken) (r : Records) → Goes now [] r → PrintsPatches r (shown_differences found) was now (Ok tt)
  ends now r h = (h.front, subst (λ ss. ArePatches (named_values r.records) ss h.front) (sym (h.parts ∙ append-nil h.done)) h.patches, h.took)
