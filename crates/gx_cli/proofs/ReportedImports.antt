-- Imports with a report of the refs that they change.
use Rattle.std.proofs.Common.{◌≡◌, ℕ, List, Option, Some, None, Result, Ok, Err, refl, sym, subst, inl, inr}
use Rattle.std.specs.declared.vec.Vec.{Vec}
use Rattle.gx_model.specs.declared.objects.Kind.{Kind}
use Rattle.gx_model.specs.declared.features.Features.{Features}
use Rattle.gx_model.specs.declared.store_faults.FileFault.{FileFault}
use Rattle.gx_model.specs.declared.store_faults.FileFault.TheVariants as file
use Rattle.gx_model.specs.Texts.{Bytes}
use Rattle.gx_model.specs.Histories.{Records}
use Rattle.gx_model.specs.Records.Publishing.{Ref}
use Rattle.gx_model.specs.Stores.StoreReading.{Stored}
use Rattle.gx_model.specs.Texts.Sinks.{Taken}
use Rattle.gx_text.specs.Devices.{Coming}
use Rattle.gx_lines.specs.Reads.{IsFaultOf}
use Rattle.gx_repo.specs.Reporting.{IsReport}
use Rattle.gx_import.specs.declared.report.Report.{Report}
use Rattle.gx_cli.specs.Reporting.{ReportsStored, Reports}
use Rattle.gx_cli.specs.Storing.{ImportsAgain}
use Rattle.gx_cli.specs.declared.fault.CliFault.{CliFault}
use Rattle.gx_cli.specs.declared.fault.CliFault.TheVariants as fault

-- beside the repository stands the report
pub with_changes : {N A : Type 0} (before : List Ref) (next : Option (N × Records)) (new : N × Records) (report : Vec ℕ A) (answer : Result Report CliFault) → next ≡ Some new
    → IsReport before new.1.refs report.items → Reports before (next, answer) (Some (new, report), answer)
with_changes before next new report answer is h = subst (λ n. Reports before (n, answer) (Some (new, report), answer)) (sym is) (inr ((report, refl, h), refl))

module _ {N : Type 0} (name_of : N → Kind → Bytes → Bytes) (namer : N) where
  -- no memory for what a text is read into
  memory_again : (asks : Features) (old : Records) (coming : Option Coming) → ImportsAgain (name_of namer) asks (Ok old) coming (None, Err (fault.Store file.OutOfMemory))
  memory_again asks old None = tt
  memory_again asks old (Some coming) = λ form exported leaves is links gives empty. inl (inl refl)

  -- a text that isn't read is none of the empty store
  unread_again : (asks : Features) (f why : FileFault) (coming : Option Coming) → ImportsAgain (name_of namer) asks (Err f) coming (None, Err (fault.Store why))
  unread_again asks f why None = tt
  unread_again asks f why (Some coming) = λ form exported leaves is links gives empty. absurd (cc empty)

  -- no memory for what the refs were, and nothing of the stream is read
  pub none_copied : {A : Type 0} (asks : Features) (old : Records) (coming : Option Coming) (was : Option Taken) → ReportsStored {A = A} name_of namer asks (Ok old) coming was was (None, Err fault.OutOfMemory)
  none_copied asks old coming was = ((None, Err (fault.Store file.OutOfMemory)), tt, inl (refl, refl), memory_again asks old coming, inl refl)

  -- a store's text isn't read
  pub none_read : (A : Type 0) (asks : Features) (stored : Stored Records) (why : FileFault) (coming : Option Coming) (was : Option Taken) → IsFaultOf why stored
      → ReportsStored {A = A} name_of namer asks stored coming was was (None, Err (fault.Store why))
  none_read A asks (Ok old) file.OutOfMemory coming was h = ((None, Err (fault.Store file.OutOfMemory)), tt, inl (refl, refl), memory_again asks old coming, inr (refl, refl))
  none_read A asks (Ok old) why coming was h = absurd (cc h)
  none_read A asks (Err f) file.OutOfMemory coming was h =
      ((None, Err (fault.Store file.OutOfMemory)), tt, (file.OutOfMemory, inl refl, refl, refl), unread_again asks f file.OutOfMemory coming, refl)
  none_read A asks (Err f) why coming was h = ((None, Err (fault.Store why)), tt, (why, inr (cc h), refl, refl), unread_again asks f why coming, refl)
