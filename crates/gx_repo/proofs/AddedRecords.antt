-- What comes of a record of which nothing is known.
use Rattle.std.proofs.Common.{◌≡◌, inr, true, List, Option, None, Some, is_some, Result, Ok, Err, IsErrAnd, refl, sym, ap, subst}
use Rattle.gx_model.specs.declared.store_faults.FileFault.{FileFault}
use Rattle.gx_model.specs.declared.store_faults.FileFault.TheVariants as model
use Rattle.gx_model.specs.Histories.{Record}
use Rattle.gx_model.specs.Records.Growth.{put, put_under, record_named}
use Rattle.gx_model.specs.Records.RecordFaults.{content_fault, or_duplicate, record_fault}
use Rattle.gx_object.specs.declared.name.Name.{Name}
use Rattle.gx_repo.specs.declared.fault.AddFault.{AddFault}
use Rattle.gx_repo.specs.declared.fault.AddFault.TheVariants.{OutOfMemory, BadObject, Dangling, DuplicateObject}
use Rattle.gx_repo.specs.Records.{AddsRecord, HidesNoFaultOf, MayRefuseRecord}

-- what is against a body is against its record
pub against_record : (old : List Record) (r : Record) (f : FileFault) → content_fault old r.kind r.body ≡ Some f → record_fault old r ≡ Some f
unfolding record_fault
against_record old r f h = ap (λ o. or_duplicate o (is_some (record_named old r.name))) h

-- a record whose name is held is a duplicate, where nothing is against its body
pub duplicate : (old : List Record) (r : Record) → content_fault old r.kind r.body ≡ None → is_some (record_named old r.name) ≡ true → record_fault old r ≡ Some model.DuplicateObject
unfolding record_fault
duplicate old r h k = λ i. or_duplicate (h i) (k i)

-- otherwise nothing is against it
pub acceptable : (old : List Record) (r : Record) → content_fault old r.kind r.body ≡ None → record_named old r.name ≡ None → record_fault old r ≡ None
unfolding record_fault
acceptable old r h k = λ i. or_duplicate (h i) (is_some (k i))

-- a refusal for what is against a record, or for want of memory
refused_for : (old : List Record) (r : Record) (f : AddFault) → MayRefuseRecord old r f → AddsRecord old old r (Err f) × HidesNoFaultOf old r (Err f)
refused_for old r OutOfMemory h = (refl, inr h)
refused_for old r BadObject h = ((h, refl), tt)
refused_for old r Dangling h = ((h, refl), tt)
refused_for old r DuplicateObject h = ((h, refl), tt)

-- the same, passed on
pub room_refused : (old : List Record) (r : Record) (answer : Result Name AddFault) (f : AddFault) → IsErrAnd answer (λ y. y ≡ f) → MayRefuseRecord old r f
    → AddsRecord old old r answer × HidesNoFaultOf old r answer
room_refused old r (Ok n) f e h = absurd e
room_refused old r (Err y) f e h = refused_for old r y (subst (MayRefuseRecord old r) (sym e) h)

-- a put that is refused finds the name held
pub put_refused : (old : List Record) (r : Record) → put old r ≡ None → is_some (record_named old r.name) ≡ true
put_refused old r e = by (record_named old r.name) refl e
  where
    by : (o : Option Record) → record_named old r.name ≡ o → put_under o old r ≡ None → is_some (record_named old r.name) ≡ true
    by None f e = absurd (cc)
    by (Some s) f e = ap is_some f
