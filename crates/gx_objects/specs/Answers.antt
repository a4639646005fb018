-- What is answered of objects and refs, in words of the repository that they are of.
use Rattle.std.specs.Prelude.{◌≡◌, ℕ, ◌<◌, Bool, List, Option, Some, None, Result, IfErr, IfOk, IfSome, IsTrue, ⊤}
use Rattle.std.specs.Borrow.{Bor}
use Rattle.std.specs.FinMap.Entries.{is_sorted}
use Rattle.std.specs.List.{AllByRecursion, flat_map, list_all}
use Rattle.std.specs.Option.{option_map}
use Rattle.gx_model.specs.declared.objects.Kind.{Kind}
use Rattle.gx_model.specs.Histories.{Records, object_of}
use Rattle.gx_model.specs.Objects.{is_name}
use Rattle.gx_model.specs.Records.Growth.{record_named}
use Rattle.gx_model.specs.Records.Lookups.{first_named, records_begun_by}
use Rattle.gx_model.specs.Revisions.Denotation.{ref_names}
use Rattle.gx_model.specs.Stores.StoreText.{stored_ref}
use Rattle.gx_model.specs.Texts.{Bytes, byte_cmp}
use Rattle.gx_model.specs.Texts.RefNames.{is_ref_name}
use Rattle.gx_object.specs.Parts.{bytes_if}
use Rattle.gx_object.specs.declared.name.Name.{Name}
use Rattle.gx_store.specs.Prefixes.{prefix_of}
use Rattle.gx_store.specs.Stores.{place_named}
use Rattle.gx_store.specs.declared.prefix.Prefix.{Prefix}
use Rattle.gx_objects.specs.declared.fault.LookFault.{LookFault}
use Rattle.gx_objects.specs.declared.fault.LookFault.TheVariants.{Damaged, OutOfMemory, ReadFailed}
use Rattle.gx_objects.specs.declared.objects.Object.{Object}

-- what is answered holds of the repository that is told
abbrev pub Tells : {T : Type 0} → Option Records → (Records → T → Type 0) → Result T LookFault → Type 0
Tells told Fact result = IfSome told (λ r. IfOk result (Fact r))

-- only of what tells no repository it is answered that it is damaged
abbrev pub OnlyUntold : {T : Type 0} → Option Records → Result T LookFault → Type 0
OnlyUntold told result = IfErr result (λ fault. fault ≡ Damaged → told ≡ None)

-- a fault that needs neither memory nor a read
abbrev pub IsOfDamage : LookFault → Type 0
IsOfDamage OutOfMemory = ⊥
IsOfDamage ReadFailed = ⊥
IsOfDamage Damaged = ⊤

-- what is sure of its answers answers damage alone: no memory is wanted, and no read fails
abbrev pub OnlyDamaged : {T : Type 0} → Bool → Result T LookFault → Type 0
OnlyDamaged sure result = IsTrue sure → IfErr result IsOfDamage

-- a fault that needs no read
abbrev pub IsOfNoRead : LookFault → Type 0
IsOfNoRead ReadFailed = ⊥
IsOfNoRead fault = ⊤

-- of what is sure of its answers no read fails
abbrev pub NeverUnread : {T : Type 0} → Bool → Result T LookFault → Type 0
NeverUnread sure result = IsTrue sure → IfErr result IsOfNoRead

-- an object, without where its body stands
abbrev pub shown_object : Object → Kind × Bytes
shown_object object = (object.kind, object.body.now)

-- this is the object of a name
abbrev pub Holds : Bytes → Records → Option Object → Type 0
Holds called repository found = option_map shown_object found ≡ option_map object_of (record_named repository.records called)

-- an object that is shown has this name
abbrev pub IsNamed : (Kind → Bytes → Bytes) → Bytes → Option Object → Type 0
IsNamed name called found = IfSome found (λ object. name object.kind object.body.now ≡ called)

-- places go up with numbers below a count
abbrev pub GoesUp : (ℕ → ℕ) → ℕ → Type 0
GoesUp stands count = (i j : ℕ) → i < j → j < count → stands i < stands j

-- this is where the object of a name stands
abbrev pub StandsThere : (ℕ → ℕ) → Bytes → Records → Option ℕ → Type 0
StandsThere stands called repository found = found ≡ option_map stands (place_named repository.records called)

-- an object that is told stands at this place
abbrev pub StandsIfTold : Option Records → (ℕ → ℕ) → Bytes → ℕ → Type 0
StandsIfTold told stands called place = IfSome told (λ r. StandsThere stands called r (Some place))

-- this is the object of a name, which is held
abbrev pub IsHeldThere : Bytes → Records → Object → Type 0
IsHeldThere called repository found = Holds called repository (Some found)

-- this object has this name
abbrev pub IsNamedAs : (Kind → Bytes → Bytes) → Bytes → Object → Type 0
IsNamedAs name called object = name object.kind object.body.now ≡ called

-- this is the name that digits begin, where they begin one alone
abbrev pub FindsBegun : Bytes → Records → Prefix → Type 0
FindsBegun digits repository found = found ≡ prefix_of (records_begun_by repository.records digits)

-- these are the lines of a repository's refs
abbrev pub AreRefLines : Records → Bor Bytes → Type 0
AreRefLines repository lines = lines.now ≡ flat_map stored_ref repository.refs

-- refs as a repository may have them: in the order of their names, which are ref names, each with the name of an object
pub record AreRefs (refs : List (Bytes × Bytes)) : Type 0 where
  pub sorted : IsTrue (is_sorted byte_cmp refs)
  pub names : IsTrue (list_all (λ ref. is_ref_name ref.0) refs)
  pub objects : AllByRecursion (λ ref. IsTrue (is_name ref.1)) refs

-- a text that spells such refs
abbrev pub SpellsRefs : Bytes → Type 0
SpellsRefs text = (refs : List (Bytes × Bytes)) × (text ≡ flat_map stored_ref refs) × AreRefs refs

-- this is what the first ref of six names holds
abbrev pub FindsRef : Bytes → Records → Option Name → Type 0
FindsRef called repository found = bytes_if found ≡ first_named repository.refs (ref_names called)
