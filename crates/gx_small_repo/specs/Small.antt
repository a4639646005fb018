-- What is put into a small repository. Source: Pro Git, "Git Objects".
use Rattle.std.specs.Prelude.{◌≡◌, ◌≢◌, List, [], ◌∷◌, ◌++◌, Option, Some, None, Result, Ok, Err, IfErr, IfSome, IsTrue, map}
use Rattle.std.specs.FinMap.Entries.{is_sorted}
use Rattle.std.specs.List.{AllByRecursion}
use Rattle.std.specs.Map.{lookup}
use Rattle.std.specs.Option.{option_map}
use Rattle.gx_model.specs.declared.objects.Kind.{Kind}
use Rattle.gx_model.specs.declared.objects.Mode.{Mode}
use Rattle.gx_model.specs.Faults.{Given}
use Rattle.gx_model.specs.Histories.{Records, object_of}
use Rattle.gx_model.specs.Records.Growth.{record_named}
use Rattle.gx_model.specs.Records.Publishing.{Ref}
use Rattle.gx_model.specs.Records.Sound.{IsHeldAs}
use Rattle.gx_model.specs.Texts.{Bytes, byte_cmp, same_bytes}
use Rattle.gx_object.specs.declared.name.Name.{Name}
use Rattle.gx_repo.specs.Refs.{shown_update}
use Rattle.gx_repo.specs.declared.publishing.RefChange.{RefChange}
use Rattle.gx_rev.specs.RevFaults.{fault_of}
use Rattle.gx_rev.specs.declared.fault.RevFault.{RevFault}
use Rattle.gx_small_repo.specs.declared.fault.SmallFault.{SmallFault}
use Rattle.gx_small_repo.specs.declared.fault.SmallFault.TheVariants.{Damaged}
use Rattle.gx_stand_ins.specs.SmallRepositories.{IsSmallOf, base_name, stand_name}
use Rattle.gx_stand_ins.specs.declared.bodies.TheConstants.{NONCE}

-- a repository is a small one of what is told
abbrev pub IsSmallOfTold : Option Records → Records → Type 0
IsSmallOfTold told small = IfSome told (λ whole. IsSmallOf NONCE whole small)

-- the object of this name has this kind and body in what is told
abbrev pub IsBodyOfTold : Option Records → Kind → Bytes → Bytes → Type 0
IsBodyOfTold told of_kind called body = IfSome told (λ whole. Some (of_kind, body) ≡ option_map object_of (record_named whole.records called))

-- what an entry of this mode names is held in what is told
abbrev pub IsHeldByTold : Option Records → Mode → Name → Type 0
IsHeldByTold told mode called = IfSome told (λ whole. IsHeldAs whole.records mode called.bytes)

-- these are the refs of what is told
abbrev pub AreRefsOfTold : Option Records → List Ref → Type 0
AreRefsOfTold told refs = IfSome told (λ whole. refs ≡ whole.refs)

-- a record of this kind and body came last, under the name that it has in small repositories
pub record PutsAs (name : Kind → Bytes → Bytes) (old new : Records) (called : Bytes) (of_kind : Kind) (body : Bytes) : Type 0 where
  pub named : stand_name NONCE name of_kind body ≡ called
  pub records : new.records ≡ old.records ++ (record { name = called; kind = of_kind; body = body }) ∷ []
  pub refs : new.refs ≡ old.refs

-- only of what tells no repository it is answered that it is damaged
abbrev pub TellsDamage : {X : Type 0} → Option Records → Result X SmallFault → Type 0
TellsDamage told result = IfErr result (λ fault. fault ≡ Damaged → told ≡ None)

-- it isn't answered that something is damaged
abbrev pub IsNotOfDamage : {X : Type 0} → Result X SmallFault → Type 0
IsNotOfDamage result = IfErr result (λ fault. fault ≢ Damaged)

-- a ref is one of these
abbrev pub IsRefOf : List Ref → Ref → Type 0
IsRefOf refs ref = lookup (same_bytes ref.0) refs ≡ Some ref.1

-- where all refs were among these, all are
abbrev pub StayAmong : List Ref → List Ref → List Ref → Type 0
StayAmong refs old new = AllByRecursion (IsRefOf refs) old → AllByRecursion (IsRefOf refs) new

-- changes to these refs, where they stand in order
abbrev pub AreOf : List Ref → List RefChange → Type 0
AreOf refs changes = IsTrue (is_sorted byte_cmp refs) → AllByRecursion (IsRefOf refs) (map shown_update changes)

-- the name of what a base gives, or why it gives nothing
abbrev pub given_name : Result Name RevFault → Given Bytes
given_name (Ok name) = Ok name.bytes
given_name (Err fault) = Err (fault_of fault)

-- so the base of a revision gives
abbrev pub GivesBase : (Kind → Bytes → Bytes) → Bytes → Records → Result Name RevFault → Type 0
GivesBase name base repository given = base_name name repository base ≡ given_name given
