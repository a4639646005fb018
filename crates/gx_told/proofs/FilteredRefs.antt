-- What is printed of refs that pass filters.
use Rattle.std.proofs.Common.{◌≡◌, ℕ, zero, suc, ◌+◌, ◌<◌, ◌≤◌, refl, sym, ap, subst, ◌∙◌, arith, List, [], ◌∷◌, ◌++◌, append-nil, length, map, take, get_or, Option, Some, None, Result, Ok, Err}
use Rattle.std.specs.Prelude.{IfSome}
use Rattle.std.specs.List.{flat_map}
use Rattle.std.proofs.Math.Seq.{take-suc}
use Rattle.std.proofs.lemmas.Grind.{flat_map-append}
use Rattle.std.proofs.lemmas.List.{map-append}
use Rattle.gx_model.specs.declared.objects.Kind.{Kind}
use Rattle.gx_model.specs.Faults.{◌>>=◌}
use Rattle.gx_model.specs.Histories.{Records, Target}
use Rattle.gx_model.specs.Objects.{IsNamer}
use Rattle.gx_model.specs.Records.HistoryOf.{history_of}
use Rattle.gx_model.specs.Records.Sound.{IsSound}
use Rattle.gx_model.specs.Revisions.Ranges.{WordFault}
use Rattle.gx_model.specs.Stores.StoreText.{stored_ref}
use Rattle.gx_model.specs.Texts.{Bytes}
use Rattle.gx_model.specs.Texts.Sinks.{Taken}
use Rattle.gx_model.proofs.Texts.SentTexts.{took_nothing}
use Rattle.gx_objects.specs.declared.fault.LookFault.{LookFault}
use Rattle.gx_objects.specs.declared.fault.LookFault.TheVariants as look
use Rattle.gx_print.specs.Stored.{Printed, all_words}
use Rattle.gx_print.proofs.ReadSteps.{nothing_in_front}
use Rattle.gx_questions.specs.declared.fault.AskFault.{AskFault}
use Rattle.gx_questions.specs.declared.fault.AskFault.TheVariants as ask
use Rattle.gx_ranges.specs.Answers.{RefusesWord}
use Rattle.gx_ref_filters.specs.Filters.{Filter, kept_refs}
use Rattle.gx_ref_filters.proofs.Kept.{target_named}
use Rattle.gx_tips.specs.Tips.{AreTips, shown_tip, targets}
use Rattle.gx_tips.specs.declared.tips.Tip.{Tip}
use Rattle.gx_told.specs.Faults.{of_look, refused_at}
use Rattle.gx_told.specs.Filtering.{kept_text, named_ref, shown_text}
use Rattle.gx_told.specs.Printing.{Prints, PrintsText}
use Rattle.gx_told.specs.declared.fault.ToldFault.{ToldFault}
use Rattle.gx_told.proofs.Prints.{given_text, none_printed}

-- the refs aren't there
pub look_prints : (told : Option Records) (given : Records → Printed) (was : Option Taken) (fault : LookFault) → (fault ≡ look.Damaged → told ≡ None) → IfSome told (λ r. Prints (given r) was was (Err (of_look fault)))
look_prints None given was fault h = tt
look_prints (Some r) given was look.OutOfMemory h = none_printed (given r) was
look_prints (Some r) given was look.ReadFailed h = ([], nothing_in_front (given r), took_nothing was)
look_prints (Some r) given was look.Damaged h = absurd (cc (h refl))

-- a filter is refused
pub filter_stops : (name : Kind → Bytes → Bytes) (told : Option Records) (filters : List Filter) (patterns : List Bytes) (was : Option Taken) (word : ℕ) (kind : AskFault)
    → RefusesWord told (λ r. kept_refs name (history_of r) filters patterns) word kind → IfSome told (λ r. Prints (kept_text name (history_of r) filters patterns) was was (Err (refused_at word kind)))
filter_stops name None filters patterns was word kind h = tt
filter_stops name (Some r) filters patterns was word ask.OutOfMemory h = none_printed (kept_text name (history_of r) filters patterns) was
filter_stops name (Some r) filters patterns was word ask.ReadFailed h = ([], nothing_in_front (kept_text name (history_of r) filters patterns), took_nothing was)
filter_stops name (Some r) filters patterns was word ask.Damaged h = absurd (let e = h.1 in cc e)
filter_stops name (Some r) filters patterns was word (ask.Revision kind) h = (ap (λ given. all_words (given >>= λ refs. Ok (shown_text (map (named_ref name) refs)))) h, took_nothing was)

-- a line more
pub one_line : (refs : List Tip) (i : ℕ) (d : Tip) (was now : Bytes) → i < length refs → was ≡ shown_text (map shown_tip (take i refs)) → now ≡ was ++ stored_ref (shown_tip (get_or refs i d))
    → now ≡ shown_text (map shown_tip (take (i + 1) refs))
one_line refs i d was now l e f =
    let x = get_or refs i d in
    let taken = ap (λ n. take n refs) (let n : i + 1 ≡ suc i = omega arith in n) ∙ take-suc refs i d l in
    f ∙ ap (λ t. t ++ stored_ref (shown_tip x)) e
    ∙ ap (λ t. shown_text (map shown_tip (take i refs)) ++ t) (sym (append-nil (stored_ref (shown_tip x))))
    ∙ sym (flat_map-append stored_ref (map shown_tip (take i refs)) (shown_tip x ∷ []))
    ∙ ap shown_text (sym (map-append shown_tip (take i refs) (x ∷ [])))
    ∙ ap (λ xs. shown_text (map shown_tip xs)) (sym taken)

pub all_lines : (refs : List Tip) (i : ℕ) → length refs ≤ i → take i refs ≡ refs
all_lines [] zero l = refl
all_lines [] (suc i) l = refl
all_lines (x ∷ xs) zero l = absurd (omega (arith, l))
all_lines (x ∷ xs) (suc i) l = ap (λ ys. x ∷ ys) (all_lines xs i (omega (arith, l)))

module _ (name : Kind → Bytes → Bytes) (namer : IsNamer name) (stands : ℕ → ℕ) where
  -- refs are printed by their names and those of their objects
  named_targets : (r : Records) → IsSound name r → (kept : List Tip) → AreTips stands kept r → map (named_ref name) (targets r kept) ≡ map shown_tip kept
  named_targets r s [] t = refl
  named_targets r s (x ∷ xs) t =
      ap (λ b. (x.name.now, b) ∷ map (named_ref name) (targets r xs)) (target_named name namer stands r s x t.0)
      ∙ ap (λ rest. shown_tip x ∷ rest) (named_targets r s xs t.1)

  pub kept_prints : (told : Option Records) (filters : List Filter) (patterns : List Bytes) (kept : List Tip) (was now : Option Taken) (answer : Result (Unit {0}) ToldFault) → IfSome told (IsSound name)
      → IfSome told (λ r. (kept_refs name (history_of r) filters patterns ≡ Ok (targets r kept)) × AreTips stands kept r) → PrintsText (shown_text (map shown_tip kept)) was now answer
      → IfSome told (λ r. Prints (kept_text name (history_of r) filters patterns) was now answer)
  kept_prints None filters patterns kept was now answer s k h = tt
  kept_prints (Some r) filters patterns kept was now answer s k h =
      given_text (kept_text name (history_of r) filters patterns) (shown_text (map shown_tip kept)) was now answer
      (ap (λ given. all_words (given >>= λ refs. Ok (shown_text (map (named_ref name) refs)))) k.0 ∙ ap (λ refs. Ok (shown_text refs)) (named_targets r s kept k.1)) h
