-- What has been reached of a store, by places, and what is still to be visited.
use Rattle.std.specs.Prelude.{◌≡◌, ◌<◌, ◌⊎◌, ℕ, suc, true, List, [], ◌∷◌, map, Option, None, Some, Result, Ok, Err, ⊤}
use Rattle.std.specs.List.{AllByRecursion}
use Rattle.gx_model.specs.declared.objects.Kind.{Kind}
use Rattle.gx_model.specs.declared.objects.Kind.TheVariants as kind
use Rattle.gx_model.specs.Histories.{Record, Records}
use Rattle.gx_model.specs.Pruning.{links_of}
use Rattle.gx_model.specs.Records.Growth.{record_named}
use Rattle.gx_model.specs.Records.Sound.{AnyByRecursion}
use Rattle.gx_model.specs.Texts.{Bytes}
use Rattle.gx_object.specs.declared.name.Name.{Name}
use Rattle.gx_objects.specs.Answers.{StandsThere}
use Rattle.gx_objects.specs.declared.fault.LookFault.{LookFault}
use Rattle.gx_objects.specs.declared.fault.LookFault.TheVariants.{OutOfMemory, ReadFailed, Damaged}
use Rattle.gx_repo.specs.declared.publishing.RefChange.{RefChange}
use Rattle.gx_reached.specs.Damages.{IsBad, Leads, Links}
use Rattle.gx_reached.specs.Links.{Link, no_blob, shown_link}
use Rattle.gx_reached.specs.declared.bad.Bad.{Bad}
use Rattle.gx_reached.specs.declared.damage.Cause.{Cause}
use Rattle.gx_reached.specs.declared.damage.Cause.TheVariants as causes
use Rattle.gx_reached.specs.declared.links.Link.{Link as GivenLink}

-- the names of the objects that refs hold
abbrev pub targets_of : List RefChange → List Bytes
targets_of refs = map (λ ref. ref.target.bytes) refs

-- these as links, which aren't to be blobs
abbrev pub tip_links : List RefChange → List Link
tip_links refs = map (λ ref. no_blob ref.target.bytes) refs

-- ---- places

-- all of these stand before a place
abbrev pub AreBelow : {X : Type 0} → ℕ → List (ℕ × X) → Type 0
AreBelow place those = AllByRecursion (λ one. one.0 < place) those

-- each of these stands behind those that follow it
abbrev pub Falls : {X : Type 0} → List (ℕ × X) → Type 0
Falls [] = ⊤
Falls (one ∷ others) = AreBelow one.0 others × Falls others

-- behind the place of the last one
abbrev pub behind_last : {X : Type 0} → List (ℕ × X) → ℕ
behind_last [] = 0
behind_last (x ∷ []) = suc x.0
behind_last (x ∷ y ∷ ys) = behind_last (y ∷ ys)

-- ---- of a repository

module _ (r : Records) where
  -- what the object of a name names has a property
  abbrev pub LinksHave : (Bytes → Type 0) → Bytes → Type 0
  LinksHave P called = (held : Record) → record_named r.records called ≡ Some held → AllByRecursion P (links_of held.kind held.body)

  -- the object of a link is a blob where it is to be one
  abbrev pub IsOfLink : Link → Type 0
  IsOfLink link = link.1 ≡ true → (held : Record) → record_named r.records link.0 ≡ Some held → held.kind ≡ kind.Blob

  -- the object of a link stands at a place
  abbrev pub IsStep : (ℕ → ℕ) → ℕ × GivenLink → Type 0
  IsStep stands step = StandsThere stands step.1.name.bytes r (Some step.0) × IsOfLink (shown_link step.1)

  -- the object of a link stands before a place
  abbrev pub IsBefore : (ℕ → ℕ) → ℕ → Link → Type 0
  IsBefore stands limit link = (place : ℕ) × StandsThere stands link.0 r (Some place) × (place < limit) × IsOfLink link

  -- objects of these names stand at their places
  abbrev pub AreStanding : (ℕ → ℕ) → List (ℕ × Name) → Type 0
  AreStanding stands order = AllByRecursion (λ one. StandsThere stands one.1.bytes r (Some one.0)) order

  -- the object of a name stands somewhere
  abbrev pub StandsSomewhere : (ℕ → ℕ) → Bytes → Type 0
  StandsSomewhere stands called = (place : ℕ) × StandsThere stands called r (Some place)

  -- this is where the object of a name stands; where none is told, it isn't saved
  abbrev pub IsPlaced : {A : Type 0} → (ℕ → ℕ) → Bytes → Bad A → Option ℕ → Type 0
  IsPlaced stands called bad (Some place) = StandsThere stands called r (Some place)
  IsPlaced stands called bad None = IsBad bad called

-- ---- what is to be visited

-- an object of this name is among them
abbrev pub Among : List (ℕ × Name) → Bytes → Type 0
Among order called = AnyByRecursion (λ one. one.1.bytes ≡ called) order

-- an object of this name is to be visited
abbrev pub InFront : List (ℕ × GivenLink) → Bytes → Type 0
InFront front called = AnyByRecursion (λ step. step.1.name.bytes ≡ called) front

-- an object is still to be visited, or isn't saved
abbrev pub Waits : {A : Type 0} → List (ℕ × GivenLink) → Bad A → Bytes → Type 0
Waits front bad called = InFront front called ⊎ IsBad bad called

-- one of these leads to the object of a name
abbrev pub IsLed : (Kind → Bytes → Bytes) → List Bytes → Bytes → Type 0
IsLed name tips called = AnyByRecursion (λ tip. Leads name tip called) tips

-- what is in front now was there, or is that of one of these links
abbrev pub OnlyAdds : List Link → List (ℕ × GivenLink) → List (ℕ × GivenLink) → Type 0
OnlyAdds links old new = (called : Bytes) → InFront new called → InFront old called ⊎ AnyByRecursion (λ link. link.0 ≡ called) links

-- what is in front now was there, or the object of a name names it
abbrev pub OnlyAddsLinks : (Kind → Bytes → Bytes) → Bytes → List (ℕ × GivenLink) → List (ℕ × GivenLink) → Type 0
OnlyAddsLinks name called old new = (other : Bytes) → InFront new other → InFront old other ⊎ Links name called other

-- What each of these objects names is among those behind it or has a property; but of those that are bad nothing is said.
abbrev pub IsClosed : Records → (Bytes → Type 0) → (Bytes → Type 0) → List (ℕ × Name) → Type 0
IsClosed r Bad Has [] = ⊤
IsClosed r Bad Has (one ∷ others) =
    (Bad one.1.bytes ⊎ LinksHave r (λ called. Among others called ⊎ Has called) one.1.bytes) × IsClosed r Bad Has others

-- These have been visited, the last one put first, and what they name, and what refs hold, has been or has a property.
pub record IsVisited (r : Records) (stands : ℕ → ℕ) (Bad Has : Bytes → Type 0) (tips : List Bytes) (order : List (ℕ × Name)) : Type 0 where
  pub standing : AreStanding r stands order
  pub closed : IsClosed r Bad Has order
  pub tips_are : AllByRecursion (λ called. Among order called ⊎ Has called) tips

-- what is in front stands at its places, and keeps what was there
pub record AddsTo (r : Records) (stands : ℕ → ℕ) (old new : List (ℕ × GivenLink)) : Type 0 where
  pub steps : AllByRecursion (IsStep r stands) new
  pub more : (called : Bytes) → InFront old called → InFront new called

-- each of these links is in front now, or isn't saved
pub record AddsAll {A : Type 0} (r : Records) (stands : ℕ → ℕ) (links : List Link) (old new : List (ℕ × GivenLink)) (bad : Bad A) : Type 0 where
  pub adds : AddsTo r stands old new
  pub all : AllByRecursion (λ link. Waits new bad link.0) links

-- so is what the object of a name names, unless that isn't saved
pub record AddsLinks {A : Type 0} (r : Records) (stands : ℕ → ℕ) (called : Bytes) (old new : List (ℕ × GivenLink)) (bad : Bad A) : Type 0 where
  pub adds : AddsTo r stands old new
  pub all : IsBad bad called ⊎ LinksHave r (Waits new bad) called

-- ---- causes

-- why an object isn't saved, by why it isn't told
abbrev pub TellsCause : LookFault → Cause → Type 0
TellsCause ReadFailed cause = cause ≡ causes.ReadFailed
TellsCause Damaged cause = cause ≡ causes.Damaged
TellsCause OutOfMemory cause = ⊥

-- the place that is answered, or why an object isn't saved, by what is answered of its place
abbrev pub TellsPlace : Result (Option ℕ) LookFault → Result ℕ Cause → Type 0
TellsPlace (Ok (Some place)) found = found ≡ Ok place
TellsPlace (Ok None) found = found ≡ Err causes.Missing
TellsPlace (Err fault) (Ok place) = ⊥
TellsPlace (Err fault) (Err cause) = TellsCause fault cause
