-- What adding an object tells, all of whose links are held.
use Rattle.std.proofs.Common.{◌≡◌, ℕ, true, false, Bool, sym, ap, ◌∙◌, refl, List, [], ◌∷◌, ◌++◌, Some, None, append-nil}
use Rattle.std.specs.Prelude.{Ok, Err, Result}
use Rattle.gx_model.specs.declared.objects.Kind.{Kind}
use Rattle.gx_model.specs.declared.store_faults.FileFault.{FileFault}
use Rattle.gx_model.specs.declared.store_faults.FileFault.TheVariants as fault
use Rattle.gx_model.specs.Texts.{Bytes}
use Rattle.gx_model.specs.Histories.{Record, record_for}
use Rattle.gx_model.specs.Records.RecordFaults.{is_bad_below, record_fault}
use Rattle.gx_model.proofs.Records.TakenRecords.{fine_body, fine_record, no_fault, nothing_against}
use Rattle.gx_object.specs.declared.name.Name.{Name}
use Rattle.gx_repo.specs.Records.{AddsRecord}
use Rattle.gx_repo.specs.declared.fault.AddFault.{AddFault}
use Rattle.gx_repo.specs.declared.fault.AddFault.TheVariants as add
use Rattle.gx_placed.specs.Places.{Extends}
use Rattle.gx_placed.specs.Steps.{IsReady, PutsLast, last_fault}

-- more stand behind
pub more_stand : (held now : List Record) (new : Record) (result : Result Name AddFault) → AddsRecord held now new result → Extends held now
more_stand held now new (Ok name) h = (new ∷ [], h.2)
more_stand held now new (Err add.OutOfMemory) h = ([], h ∙ sym (append-nil held))
more_stand held now new (Err add.BadObject) h = ([], h.1 ∙ sym (append-nil held))
more_stand held now new (Err add.Dangling) h = ([], h.1 ∙ sym (append-nil held))
more_stand held now new (Err add.DuplicateObject) h = ([], h.1 ∙ sym (append-nil held))

module _ (names : Kind → Bytes → Bytes) (held now : List Record) (new : Record) (ready : IsReady names held new) where
  -- it is the record of its kind and body
  as_named : record_for names new.kind new.body ≡ new
  as_named = λ i. record { name = sym ready.named i; kind = new.kind; body = new.body }

  -- only what is below it can be against it
  against_it : (f : FileFault) → record_fault held new ≡ Some f → is_bad_below held new.kind new.body ≡ true
  against_it f e = by (is_bad_below held new.kind new.body) refl
    where
      by : (b : Bool) → is_bad_below held new.kind new.body ≡ b → b ≡ true
      by true k = refl
      by false k =
          let z : None ≡ Some f = sym (fine_record held new (fine_body held new.kind new.body ready.is_one ready.links k) ready.free) ∙ e in
          absurd (cc)

  pub may_stand : {X : Type 0} (x : X) (place : ℕ) (name : Name) → AddsRecord held now (record_for names new.kind new.body) (Ok name) → PutsLast held now place new (Ok x)
  may_stand x place name h =
      ((nothing_against held new.kind new.body (no_fault held new (ap (record_fault held) (sym as_named) ∙ h.1)).0).2, h.2 ∙ ap (λ (r : Record). held ++ r ∷ []) as_named)

  pub may_not : (X : Type 0) (place : ℕ) (f : AddFault) → AddsRecord held now (record_for names new.kind new.body) (Err f) → PutsLast {X = X} held now place new (Err (last_fault place f))
  may_not X place add.OutOfMemory h = tt
  may_not X place add.BadObject h = (against_it fault.BadObject (ap (record_fault held) (sym as_named) ∙ h.0), refl, refl)
  may_not X place add.Dangling h = (against_it fault.Dangling (ap (record_fault held) (sym as_named) ∙ h.0), refl, refl)
  may_not X place add.DuplicateObject h = (against_it fault.DuplicateObject (ap (record_fault held) (sym as_named) ∙ h.0), refl, refl)
