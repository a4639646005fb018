-- What holds of a repository into which something was taken.
use Rattle.std.specs.Prelude.{◌≡◌, Bool, if◌then◌else◌, List, [], ◌∷◌, map, Option, None, Some, Ok}
use Rattle.std.specs.Map.{lookup}
use Rattle.gx_model.specs.Texts.{Bytes, same_bytes}
use Rattle.gx_model.specs.Histories.{Records}
use Rattle.gx_model.specs.Records.Publishing.{Ref}
use Rattle.gx_wide.specs.ObjectsTexts.{Item}
use Rattle.gx_wide.specs.Placing.{given_in, is_dropped}
use Rattle.gx_placed.specs.Placed.{placed_all}
use Rattle.gx_taken.specs.Taking.{refs_told, taken}

-- the object that is told of a ref, or that it is to be dropped
abbrev pub object_told : Bytes → Option Bytes
object_told called = if is_dropped called then None else Some called

-- what is told of a ref last, if anything is
abbrev pub told_last : List Ref → Bytes → Option (Option Bytes)
told_last [] ref = None
told_last (told ∷ others) ref = elim (told_last others ref) [
  | None ↦ if same_bytes ref told.0 then Some (object_told told.1) else None
  | Some object ↦ Some object
]

-- the object of a ref, where it held this one before
abbrev pub or_before : Option (Option Bytes) → Option Bytes → Option Bytes
or_before None before = before
or_before (Some object) before = object

-- each ref holds what is told of it last, and each other what it held
abbrev pub HoldTold : List Ref → List Ref → List Ref → Type 0
HoldTold before told now = (ref : Bytes) → lookup (same_bytes ref) now ≡ or_before (told_last told ref) (lookup (same_bytes ref) before)

-- where all is taken, the objects are placed, and refs hold what is told of them last
pub record GivesAll (r : Records) (items : List Item) (left : Records) : Type 0 where
  pub objects : placed_all (given_in items) r.records ≡ Ok left.records
  pub refs : HoldTold r.refs (map (λ it. it.1) (refs_told 1 items)) left.refs

abbrev pub WhereTaken : Type 0
WhereTaken = (force : Bool) (r : Records) (items : List Item) (left : Records) → taken force r items ≡ Ok left → GivesAll r items left
