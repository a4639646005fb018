-- Where memory runs out for a record: it has its name, and nothing is against it that is told without memory.
use Rattle.std.proofs.Common.{◌≡◌, Bool, true, false, List, Option, Ok, Err, refl}
use Rattle.gx_model.specs.declared.objects.Kind.{Kind}
use Rattle.gx_model.specs.declared.store_faults.FileFault.{FileFault}
use Rattle.gx_model.specs.declared.store_faults.FileFault.TheVariants.{NameMismatch, OutOfMemory}
use Rattle.gx_model.specs.Histories.{Record, record_for}
use Rattle.gx_model.specs.Stores.StoreReading.{is_stated, only_if}
use Rattle.gx_model.specs.Texts.{Bytes}
use Rattle.gx_repo.specs.Records.{HidesNoFaultOf, add_fault}
use Rattle.gx_repo.specs.declared.fault.AddFault.{AddFault}
use Rattle.gx_repo.specs.declared.fault.AddFault.TheVariants as add
use Rattle.gx_file.specs.Wanting.{RunsOutFor}

-- a test that is passed holds
passed : (b : Bool) (f : FileFault) → only_if b f ≡ Ok tt → b ≡ true
passed true f e = refl
passed false f e = absurd (cc)

module _ (name : Kind → Bytes → Bytes) (rs : List Record) (stated : Option Bytes) (k : Kind) (body : Bytes) where
  -- A record that has the name that is stated, where one is, and isn't added for want of memory.
  pub runs_out : (fault : AddFault) → only_if (is_stated stated (name k body)) NameMismatch ≡ Ok tt → HidesNoFaultOf rs (record_for name k body) (Err fault)
      → add_fault fault ≡ OutOfMemory → RunsOutFor name rs stated k body
  runs_out add.OutOfMemory named h w = (passed (is_stated stated (name k body)) NameMismatch named, h)
  runs_out _ named h w = absurd (cc)
