-- What is answered of refs that are dropped by their lines. Source: git-update-ref(1), "delete".
use Rattle.std.specs.Prelude.{◌≡◌, [], List, None, Result, Ok, Err, not}
use Rattle.std.specs.Borrow.{Bor}
use Rattle.std.specs.BTreeSet.{BTreeSet}
use Rattle.std.specs.List.{filter}
use Rattle.gx_model.specs.Records.Publishing.{Ref}
use Rattle.gx_model.specs.Texts.{Bytes}
use Rattle.gx_repo.specs.Dropping.{IsAgainstNames, is_entered, unknown_behind}
use Rattle.gx_repo.specs.declared.fault.DropFault.{DropFault}
use Rattle.gx_left_refs.specs.declared.refs.LeftRefs.{LeftRefs}

-- an answer, without the refs that are left
abbrev pub answer_of : {A : Type 0} → Result (LeftRefs A) DropFault → Result (Unit {0}) DropFault
answer_of (Ok left) = Ok tt
answer_of (Err fault) = Err fault

-- the refs whose names aren't held in a set
abbrev pub not_entered : BTreeSet (Bor Bytes) → List Ref → List Ref
not_entered held refs = filter (λ ref. not (is_entered held ref.0)) refs

-- no name is unknown; or what the fault tells is against the names
abbrev pub TellsUnknown : {T : Type 0} → List Ref → List Bytes → Result T DropFault → Type 0
TellsUnknown refs names (Ok told) = unknown_behind refs [] names ≡ None
TellsUnknown refs names (Err fault) = IsAgainstNames refs names fault
