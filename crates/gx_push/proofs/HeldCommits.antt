-- The commit of an object is held as one.
use Rattle.std.proofs.Common.{◌≡◌, Option, Some, None, refl}
use Rattle.std.specs.Prelude.{IsTrue, is_some}
use Rattle.gx_model.specs.declared.objects.Kind.{Kind}
use Rattle.gx_model.specs.declared.objects.Kind.TheVariants as kinds
use Rattle.gx_model.specs.Texts.{Bytes}
use Rattle.gx_model.specs.Objects.{IsNamer}
use Rattle.gx_model.specs.Histories.{Record, Records}
use Rattle.gx_model.specs.Records.Growth.{record_named}
use Rattle.gx_model.specs.Records.Lookups.{commit_named, commit_of_record}
use Rattle.gx_model.specs.Records.Sound.{Holds, IsSound}
use Rattle.gx_model.proofs.Records.HeldValues.{peeled_to}
use Rattle.gx_model.proofs.Records.PeeledRefs.{held_holds}

-- an object that has a commit is held
pub is_there : (r : Records) (n c : Bytes) → Some c ≡ commit_named r.records n → IsTrue (is_some (record_named r.records n))
is_there r n c e = by (record_named r.records n) e where
  by : (o : Option Record) → Some c ≡ elim o [ None ↦ None | Some held ↦ commit_of_record held.kind held.name held.body ] → IsTrue (is_some o)
  by None e = absurd (cc e)
  by (Some held) e = refl

pub commit_holds : (name : Kind → Bytes → Bytes) → IsNamer name → (r : Records) → IsSound name r → (n c : Bytes) → Some c ≡ commit_named r.records n → Holds r.records kinds.Commit c
commit_holds name namer r sound n c e = held_holds name namer r sound c (peeled_to name namer r sound n c (is_there r n c e) e).1
