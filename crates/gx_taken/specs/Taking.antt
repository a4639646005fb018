-- What a repository becomes by a text of refs and objects, or what is against its first item that isn't taken.
-- Source: git-for-each-ref(1), git-cat-file(1), "BATCH OUTPUT", and gitglossary(7), "ref" and "fast-forward".
use Rattle.std.specs.Prelude.{ℕ, ◌+◌, Bool, not, if◌then◌else◌, List, [], ◌∷◌, map, Option, None, Some, Result, Ok, Err}
use Rattle.std.specs.List.{fold}
use Rattle.std.specs.Map.{lookup}
use Rattle.std.specs.Option.{option_map}
use Rattle.gx_model.specs.declared.objects.Kind.{Kind}
use Rattle.gx_model.specs.Texts.{Bytes, same_bytes}
use Rattle.gx_model.specs.Histories.{Records}
use Rattle.gx_model.specs.Laws.RepositoryLaws.{with_records, with_refs}
use Rattle.gx_model.specs.Records.Growth.{record_named}
use Rattle.gx_model.specs.Records.HistoryOf.{commit_of_value, value_of_name}
use Rattle.gx_model.specs.Records.Lookups.{commit_named}
use Rattle.gx_model.specs.Records.Publishing.{Ref, with_change}
use Rattle.gx_model.specs.Revisions.Ranges.{reaches}
use Rattle.gx_model.specs.Stores.StoreReading.{is_target_of_kind}
use Rattle.gx_repo.specs.Dropping.{without}
use Rattle.gx_wide.specs.ObjectsTexts.{Item, ItemFault, items_of, object_item, ref_item}
use Rattle.gx_wide.specs.Placing.{BadObject, Dangling, NameHeld, NotFastForward, TakeFault, WrongKind, given_in, is_dropped}
use Rattle.gx_placed.specs.Placed.{placed_all}

-- an item isn't read, or what it gives isn't taken
pub data Refusal : Type 0 where
  unread : ItemFault → Refusal
  untaken : TakeFault → Refusal

-- ---- what items tell, each with its number, of which the first is told

-- what a ref is to hold
abbrev pub refs_told : ℕ → List Item → List (ℕ × Ref)
refs_told number [] = []
refs_told number (ref_item called ref ∷ items) = (number, (ref, called)) ∷ refs_told (number + 1) items
refs_told number (object_item of_kind called body ∷ items) = refs_told (number + 1) items

-- the name of an object that is given
abbrev pub names_told : ℕ → List Item → List (ℕ × Bytes)
names_told number [] = []
names_told number (ref_item called ref ∷ items) = names_told (number + 1) items
names_told number (object_item of_kind called body ∷ items) = (number, called) ∷ names_told (number + 1) items

-- the number of the first that gives the object of a name
abbrev pub number_named : List (ℕ × Bytes) → Bytes → ℕ
number_named [] called = 0
number_named (told ∷ others) called = if same_bytes told.1 called then told.0 else number_named others called

-- ---- refs

-- whether the one commit is the other or reaches it
abbrev pub has_commit : Records → Bytes → Bytes → Bool
has_commit r new old = reaches (commit_of_value (value_of_name r.records new)) (commit_of_value (value_of_name r.records old))

-- two commits, of which the second doesn't reach the first
abbrev pub lost_commit : Records → Option Bytes → Option Bytes → Option (Bytes × Bytes)
lost_commit r None new = None
lost_commit r (Some old) None = None
lost_commit r (Some old) (Some new) = if has_commit r new old then None else Some (old, new)

-- the same of what commits and tags name
abbrev pub lost_by : Records → Bytes → Bytes → Option (Bytes × Bytes)
lost_by r was next = lost_commit r (commit_named r.records was) (commit_named r.records next)

-- what is against the move of a ref that holds one object, or isn't there, to another
abbrev pub move_fault : Records → Ref → Option Bytes → Option TakeFault
move_fault r ref None = None
move_fault r ref (Some was) = option_map (λ lost. NotFastForward ref.0 lost.0 lost.1) (lost_by r was ref.1)

-- what is against an object in a ref, or against the ref's move to it: the object has to be there, and one that the ref may hold
abbrev pub set_fault : Bool → Records → Ref → Option TakeFault
set_fault force r ref = elim (record_named r.records ref.1) [
  | None ↦ Some (Dangling ref.0 ref.1)
  | Some held ↦
      if not (is_target_of_kind ref.0 held.kind held.body) then Some (WrongKind ref.0)
      else (if force then None else move_fault r ref (lookup (same_bytes ref.0) r.refs))
]

-- what is against a ref that is told of: nothing where it is to be dropped
abbrev pub ref_fault : Bool → Records → Ref → Option TakeFault
ref_fault force r ref = if is_dropped ref.1 then None else set_fault force r ref

-- what is against the first of them that is refused, by what is held before any is set
abbrev pub first_refused : Bool → Records → List (ℕ × Ref) → Option (ℕ × Refusal)
first_refused force r [] = None
first_refused force r (told ∷ others) = elim (ref_fault force r told.1) [
  | None ↦ first_refused force r others
  | Some fault ↦ Some (told.0, untaken fault)
]

-- the refs with what one is to hold, or without it
abbrev pub with_told : List Ref → Ref → List Ref
with_told refs ref = if is_dropped ref.1 then without (ref.0 ∷ []) refs else with_change refs ref

-- the same of all of them, in order
abbrev pub with_all_told : List Ref → List (ℕ × Ref) → List Ref
with_all_told refs told = fold with_told refs (map (λ it. it.1) told)

-- the repository with all of them, where none is refused
abbrev pub refs_taken : Records → List (ℕ × Ref) → Option (ℕ × Refusal) → Result Records (ℕ × Refusal)
refs_taken r told None = Ok (with_refs r (with_all_told r.refs told))
refs_taken r told (Some refused) = Err refused

-- ---- all of it

-- the object or the ref that a fault is about
abbrev pub subject : TakeFault → Bytes
subject (BadObject called) = called
subject (NameHeld called) = called
subject (Dangling from called) = from
subject (WrongKind ref) = ref
subject (NotFastForward ref old new) = ref

-- The repository with the objects placed, each behind what it names, and then the refs. Of an object that several items give the
-- first one is told.
unfoldable pub taken : Bool → Records → List Item → Result Records (ℕ × Refusal)
taken force r items = elim (placed_all (given_in items) r.records) [
  | Err fault ↦ Err (number_named (names_told 1 items) (subject fault), untaken fault)
  | Ok records ↦ refs_taken (with_records r records) (refs_told 1 items) (first_refused force (with_records r records) (refs_told 1 items))
]

-- the same of a text, whose items come first
abbrev pub text_taken : (Kind → Bytes → Bytes) → Bool → Records → Bytes → Result Records (ℕ × Refusal)
text_taken name force r text = elim (items_of name text) [
  | Err fault ↦ Err (fault.0, unread fault.1)
  | Ok items ↦ taken force r items
]
