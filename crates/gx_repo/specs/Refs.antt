-- Refs and their changes without where their names lie in memory.
use Rattle.std.specs.Prelude.{◌≡◌, ℕ, Bool, List, length, map, Option, IsTrue, is_some}
use Rattle.std.specs.FinMap.Entries.{is_sorted}
use Rattle.std.specs.Borrow.{Bor}
use Rattle.std.specs.List.{filter, list_all}
use Rattle.std.specs.Ordering.{is_le}
use Rattle.std.specs.Map.{lookup}
use Rattle.std.specs.declared.vec.Vec.{Vec}
use Rattle.gx_model.specs.declared.objects.Kind.{Kind}
use Rattle.gx_model.specs.declared.objects.Kind.TheVariants as kind
use Rattle.gx_model.specs.Texts.{Bytes, byte_cmp, same_bytes}
use Rattle.gx_model.specs.Texts.RefNames.{tag_ref}
use Rattle.gx_model.specs.Objects.{IsTagText, TagParts}
use Rattle.gx_model.specs.Records.Lookups.{first_named}
use Rattle.gx_object.specs.declared.name.Name.{Name}
use Rattle.gx_repo.specs.declared.refs.Ref.{Ref}
use Rattle.gx_repo.specs.declared.publishing.RefChange.{RefChange}
use Rattle.gx_object.specs.Parts.{bytes_if}

-- a ref as it is held
abbrev pub shown_ref : {A : Type 0} → Ref A → Bytes × Bytes
shown_ref ref = (ref.name.items, ref.object.bytes)

-- an entry of a map from names to objects, as a ref
abbrev pub ref_of : {A : Type 0} → Vec ℕ A × Name → Bytes × Bytes
ref_of entry = (entry.0.items, entry.1.bytes)

-- a ref as it is shown
abbrev pub shown_lent_ref : Bor Bytes × Name → Bytes × Bytes
shown_lent_ref ref = (ref.0.now, ref.1.bytes)

-- a change that is asked for
abbrev pub shown_update : RefChange → Bytes × Bytes
shown_update change = (change.name.now, change.target.bytes)

-- these refs stand in the byte order of their names, each of which has its own
abbrev pub AreInOrder : {A : Type 0} → List (Ref A) → Type 0
AreInOrder refs = IsTrue (is_sorted byte_cmp (map shown_ref refs))

-- the object of the ref of this name
abbrev pub object_named : List (Bytes × Bytes) → Bytes → Option Bytes
object_named refs name = lookup (same_bytes name) refs

-- what is found is the object of the ref of this name
abbrev pub FindsObject : List (Bytes × Bytes) → Bytes → Option Name → Type 0
FindsObject refs name found = bytes_if found ≡ object_named refs name

-- what is found is the object of the first of these names that is a ref's
abbrev pub FindsFirst : List (Bytes × Bytes) → List Bytes → Option Name → Type 0
FindsFirst refs names found = bytes_if found ≡ first_named refs names

-- how many refs have this name or an earlier one, which is the place behind its own
abbrev pub place_behind : List (Bytes × Bytes) → Bytes → ℕ
place_behind refs name = length (filter (λ ref. is_le (byte_cmp ref.0 name)) refs)

-- a ref of this name is held
abbrev pub is_ref_held : List (Bytes × Bytes) → Bytes → Bool
is_ref_held refs name = is_some (object_named refs name)

-- each of these changes is one of a ref that is held
abbrev pub are_held : List (Bytes × Bytes) → List (Bytes × Bytes) → Bool
are_held refs changes = list_all (λ change. is_ref_held refs change.0) changes

-- a tag's body is that of a tag's parts
abbrev pub HasTagParts : Kind → Bytes → Type 0
HasTagParts of_kind body = of_kind ≡ kind.Tag → (parts : TagParts) × IsTagText parts body

-- what is answered tells whether a ref's name is made by the own name of the tag with this body
abbrev pub TellsOwnRef : Bytes → Bytes → Bool → Type 0
TellsOwnRef name body answer = (parts : TagParts) → IsTagText parts body → answer ≡ same_bytes name (tag_ref parts.name)
