-- What goes out of a plain text, by what opening it and rewriting it tell.
use Rattle.std.proofs.Common.{◌≡◌, [], Option, Some, None, Result, Ok, Err, refl, sym, ◌∙◌, subst}
use Rattle.std.specs.Prelude.{IfSome, IsOk}
use Rattle.std.specs.Result.{result_ok}
use Rattle.std.proofs.lemmas.Bool.{false≢true}
use Rattle.sha2.specs.Sha256.{sha256}
use Rattle.gx_model.specs.declared.objects.Kind.{Kind}
use Rattle.gx_model.specs.Histories.{Records}
use Rattle.gx_model.specs.Texts.{Bytes}
use Rattle.gx_model.specs.Texts.Sinks.{Taken, TookFront}
use Rattle.gx_model.specs.Stores.StoreReading.{Stored, store_of}
use Rattle.gx_model.proofs.Stores.StoreTexts.{ok_is}
use Rattle.gx_model.proofs.Texts.SentTexts.{took_nothing}
use Rattle.gx_growing.specs.GrowingText.{growing_text}
use Rattle.gx_kept.specs.Collecting.{Rewrites}
use Rattle.gx_kept.specs.Faults.{IsOnTheWay, Stops, of_look}
use Rattle.gx_kept.specs.declared.fault.KeptFault.{KeptFault}
use Rattle.gx_kept.specs.declared.fault.KeptFault.TheVariants.{Damaged, OutOfMemory, ReadFailed, WriteFailed}
use Rattle.gx_objects.specs.declared.fault.LookFault.{LookFault}
use Rattle.gx_objects.specs.declared.fault.LookFault.TheVariants as look
use Rattle.gx_plain.specs.Growing.{Grows}
use Rattle.gx_plain.specs.Plain.{told_by}
use Rattle.gx_plain.specs.Reading.{IsRefused}

-- an empty front of a text went out
none_went : (was : Option Taken) (text : Bytes) → TookFront was was text
none_went was text = ([], text, refl, took_nothing was)

module _ (name : Kind → Bytes → Bytes) (was : Option Taken) where
  -- what isn't opened isn't grown
  unopened : (text : Bytes) (why : LookFault) → (why ≡ look.Damaged → told_by name (Some text) ≡ None) → Grows name text was was (Err (of_look why))
  unopened text look.OutOfMemory h = λ r e. none_went was (growing_text sha256 r)
  unopened text look.ReadFailed h = λ r e. none_went was (growing_text sha256 r)
  unopened text look.Damaged h = (by (store_of name text) (h refl), refl)
    where
      by : (s : Stored Records) → result_ok s ≡ None → IsRefused s
      by (Ok r) e = absurd (cc)
      by (Err why) e = (why, refl)

  pub not_opened : (told : Option Bytes) (why : LookFault) → (why ≡ look.Damaged → told_by name told ≡ None) → IfSome told (λ text. Grows name text was was (Err (of_look why)))
  not_opened None why h = tt
  not_opened (Some text) why h = unopened text why h

  module _ (now : Option Taken) where
    -- what is opened is grown as it is rewritten
    rewritten : (text : Bytes) (result : Result (Unit {0}) KeptFault) → IsOk (store_of name text) → IfSome (told_by name (Some text)) (λ r. Rewrites name r was now result) → IsOnTheWay (told_by name (Some text)) result
        → Grows name text was now result
    rewritten text result ok sent way = by (store_of name text) refl ok sent way
      where
        of : (r : Records) (result : Result (Unit {0}) KeptFault) → store_of name text ≡ Ok r → Rewrites name r was now result → IsOnTheWay (Some r) result → Grows name text was now result
        of r (Ok u) e h w = (r, e, h)
        of r (Err OutOfMemory) e h w = λ s f. subst (λ (x : Records). Stops (growing_text sha256 x) was now OutOfMemory) (ok_is r s (sym e ∙ f)) h.text
        of r (Err ReadFailed) e h w = λ s f. subst (λ (x : Records). Stops (growing_text sha256 x) was now ReadFailed) (ok_is r s (sym e ∙ f)) h.text
        of r (Err WriteFailed) e h w = λ s f. subst (λ (x : Records). Stops (growing_text sha256 x) was now WriteFailed) (ok_is r s (sym e ∙ f)) h.text
        of r (Err Damaged) e h w = absurd (cc)

        by : (s : Stored Records) → store_of name text ≡ s → IsOk s → IfSome (result_ok s) (λ r. Rewrites name r was now result) → IsOnTheWay (result_ok s) result → Grows name text was now result
        by (Ok r) e o h w = of r result e h w
        by (Err why) e o h w = absurd (false≢true o)

    pub grown_so : (told : Option Bytes) (result : Result (Unit {0}) KeptFault) → IfSome told (λ text. IsOk (store_of name text)) → IfSome (told_by name told) (λ r. Rewrites name r was now result)
        → IsOnTheWay (told_by name told) result → IfSome told (λ text. Grows name text was now result)
    grown_so None result ok sent way = tt
    grown_so (Some text) result ok sent way = rewritten text result ok sent way
