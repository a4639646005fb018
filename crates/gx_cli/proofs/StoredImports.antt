-- Imports, and the repository whose text is the store's next one.
use Rattle.std.proofs.Common.{◌≡◌, ℕ, zero, suc, ◌∙◌, refl, sym, ap, subst, inl, inr, Option, Some, None, Result, Ok, Err}
use Rattle.std.specs.Option.{option_map}
use Rattle.std.specs.Prelude.{IfSome}
use Rattle.gx_model.specs.declared.objects.Kind.{Kind}
use Rattle.gx_model.specs.declared.features.Features.{Features}
use Rattle.gx_model.specs.Texts.{Bytes}
use Rattle.gx_model.specs.Histories.{Records}
use Rattle.gx_model.specs.Records.Sound.{IsSound}
use Rattle.gx_text.specs.Devices.{Coming}
use Rattle.gx_import.specs.declared.report.Report.{Report}
use Rattle.gx_import.specs.declared.fault.ImportFault.{ImportFault}
use Rattle.gx_cli.specs.Again.{ImportsForms}
use Rattle.gx_cli.specs.Serving.{EndsImported, EndsWithText}
use Rattle.gx_cli.specs.Storing.{ImportsAgain, answer_of, next_after}
use Rattle.gx_cli.specs.declared.fault.CliFault.{CliFault}
use Rattle.gx_cli.specs.declared.fault.CliFault.TheVariants.{Import}
use Rattle.gx_cli.specs.declared.serving.Outcome.{Outcome}

-- after no checkpoint there is no next text
pub after_none : {X : Type 0} (n : ℕ) (new : X) → n ≡ 0 → None ≡ next_after n new
after_none n new e = ap (λ m. next_after m new) (sym e)

-- and after some there is one
pub after_some : {X : Type 0} (n : ℕ) (new : X) → (n ≡ 0 → ⊥) → Some new ≡ next_after n new
after_some zero new some = absurd (some refl)
after_some (suc n) new some = refl

module _ {N : Type 0} (new : N × Records) where
  next_records : (n : ℕ) → option_map (λ repo. repo.1) (next_after n new) ≡ next_after n new.1
  next_records zero = refl
  next_records (suc n) = refl

  next_named : (namer : N) → new.0 ≡ namer → (n : ℕ) → IfSome (next_after n new) (λ repo. repo.0 ≡ namer)
  next_named namer same zero = tt
  next_named namer same (suc n) = same

  module _ (n : ℕ) (next : Option (N × Records)) (left : next ≡ next_after n new) where
    -- what is left is the new repository
    pub left_records : option_map (λ repo. repo.1) next ≡ next_after n new.1
    left_records = ap (option_map (λ repo. repo.1)) left ∙ next_records n

    -- under its namer
    pub left_namer : (namer : N) → new.0 ≡ namer → IfSome next (λ repo. repo.0 ≡ namer)
    left_namer namer same = subst (λ x. IfSome x (λ repo. repo.0 ≡ namer)) (sym left) (next_named namer same n)

module _ {N : Type 0} (name : Kind → Bytes → Bytes) (asks : Features) (old : Records) (new : N × Records) (sound : IsSound name new.1) where
  -- an accepted import of an export into the empty store
  pub accepted_again : (report : Report) (coming : Option Coming) → ImportsForms name asks old new.1 coming (Ok report) → ImportsAgain name asks (Ok old) coming (answer_of (Some new, Ok report))
  accepted_again report None h = tt
  accepted_again report (Some coming) h = λ form exported leaves is links gives empty.
      inr (new.1, report, h form exported leaves is links gives (cc empty), sound, refl)

  -- a refused one, for want of memory or by the sink
  pub refused_again : (fault : ImportFault) (next : Option (N × Records)) → next ≡ next_after fault.checkpoints new → (coming : Option Coming) → ImportsForms name asks old new.1 coming (Err fault)
      → ImportsAgain name asks (Ok old) coming (answer_of (next, Err (Import fault)))
  refused_again fault next left None h = tt
  refused_again fault next left (Some coming) h = λ form exported leaves is links gives empty.
      let e = h form exported leaves is links gives (cc empty) in
      inl (inr (fault, e.0, ap (λ x. (x, Err (Import fault))) (left_records new fault.checkpoints next left ∙ ap (λ n. next_after n new.1) e.1)))

module _ {N A : Type 0} (name_of : N → Kind → Bytes → Bytes) (next : Option (N × Records)) (new : N × Records) (answer : Result Report CliFault) (o : Outcome A) (left : next ≡ Some new) where
  -- an accepted import ends with the text of what is left
  pub ended_accepted : (report : Report) → answer ≡ Ok report → EndsWithText (name_of new.0) new.1 0 None o
      → (namer : N) → IfSome next (λ repo. repo.0 ≡ namer) → EndsImported (name_of namer) (option_map (λ repo. repo.1) next) answer o
  ended_accepted report is text namer same =
      let named = subst (λ x. IfSome x (λ repo. repo.0 ≡ namer)) left same in
      let ends = subst (λ n. EndsWithText (name_of n) new.1 0 None o) named text in
      subst (λ x. EndsImported (name_of namer) (option_map (λ repo. repo.1) x) answer o) (sym left) (subst (λ a. EndsImported (name_of namer) (Some new.1) a o) (sym is) ends)

  -- and so does a refused one
  pub ended_refused : (fault : CliFault) → answer ≡ Err fault → EndsWithText (name_of new.0) new.1 1 (Some fault) o
      → (namer : N) → IfSome next (λ repo. repo.0 ≡ namer) → EndsImported (name_of namer) (option_map (λ repo. repo.1) next) answer o
  ended_refused fault is text namer same =
      let named = subst (λ x. IfSome x (λ repo. repo.0 ≡ namer)) left same in
      let ends = subst (λ n. EndsWithText (name_of n) new.1 1 (Some fault) o) named text in
      subst (λ x. EndsImported (name_of namer) (option_map (λ repo. repo.1) x) answer o) (sym left) (subst (λ a. EndsImported (name_of namer) (Some new.1) a o) (sym is) ends)
