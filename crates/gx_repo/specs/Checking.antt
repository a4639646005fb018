-- What a record of which nothing is known has against it, and how much room the entries of a tree take. Source: this project's own limit of 4,095 bytes for a path.
use Rattle.std.specs.Prelude.{◌≡◌, ℕ, max, ◌&&◌, if◌then◌else◌, List, [], ◌∷◌, Option, Some, None}
use Rattle.gx_model.specs.declared.objects.Kind.{Kind}
use Rattle.gx_model.specs.Texts.{Bytes}
use Rattle.gx_model.specs.Objects.{Entry, is_dir}
use Rattle.gx_model.specs.Histories.{Record}
use Rattle.gx_model.specs.Records.Growth.{record_named}
use Rattle.gx_model.specs.Records.RecordFaults.{content_fault, is_without_entries}
use Rattle.gx_repo.specs.declared.fault.AddFault.{AddFault}
use Rattle.gx_repo.specs.declared.fault.AddFault.TheVariants.{OutOfMemory, BadObject, Dangling}
use Rattle.gx_repo.specs.Records.{IsLinkedTree, add_fault}
use Rattle.gx_repo.specs.Rooms.{room_at}

-- the greater of two rooms; none where one is missing
abbrev pub wider : Option ℕ → Option ℕ → Option ℕ
wider None other = None
wider (Some here) None = None
wider (Some here) (Some there) = Some (max here there)

-- the room of what is at or below an entry; none where it names a tree without entries
abbrev pub entry_room : List Record → Entry → Option ℕ
entry_room records e =
    if is_dir e.mode && is_without_entries (record_named records e.name) then None
    else Some (room_at records e)

-- the greatest room of these entries; none where one of them names a tree without entries
abbrev pub widest : List Record → List Entry → Option ℕ
widest records [] = Some 0
widest records (e ∷ es) = wider (entry_room records e) (widest records es)

-- what is against a tree of which a link isn't held, by what is left of its entries: that, unless its body isn't canonical
abbrev pub fault_behind : Option (List Entry) → AddFault
fault_behind None = BadObject
fault_behind (Some left) = Dangling

-- this is against a body of this kind
abbrev pub IsAgainst : List Record → Kind → Bytes → AddFault → Type 0
IsAgainst records of_kind body fault = content_fault records of_kind body ≡ Some (add_fault fault)

-- this is against a body of this kind, or memory ran out: for a canonical tree alone whose links are held
abbrev pub MayRefuse : List Record → Kind → Bytes → AddFault → Type 0
MayRefuse records of_kind body OutOfMemory = IsLinkedTree records of_kind body
MayRefuse records of_kind body fault = IsAgainst records of_kind body fault
