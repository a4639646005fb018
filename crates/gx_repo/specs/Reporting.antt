-- The refs that differ between two times, and their report. Source: githooks(5), "post-receive".
use Rattle.std.specs.Prelude.{◌≡◌, ◌⊎◌, ◌+◌, ◌<◌, ⊤, if◌then◌else◌, length, List, ◌∷◌, [], ◌++◌, Option, None, Some, IsTrue, replicate}
use Rattle.std.specs.List.{flat_map}
use Rattle.std.specs.FinMap.Entries.{is_sorted}
use Rattle.std.specs.Map.{lookup}
use Rattle.std.specs.Option.{option_eq}
use Rattle.std.specs.Borrow.{Bor}
use Rattle.std.specs.Ordering.{is_lt}
use Rattle.gx_model.specs.Objects.{hex}
use Rattle.gx_model.specs.Records.Publishing.{Ref}
use Rattle.gx_model.specs.Texts.{Bytes, byte_cmp, same_bytes}
use Rattle.gx_object.specs.declared.name.Name.{Name}
use Rattle.gx_repo.specs.Refs.{object_named}
use Rattle.gx_object.specs.Parts.{bytes_if}

-- the objects that a ref held and holds
abbrev pub Objects : Type 0
Objects = Option Bytes × Option Bytes

-- a ref's objects at two times, where they differ
abbrev pub where_they_differ : Option Bytes → Option Bytes → Option Objects
where_they_differ old new = if option_eq same_bytes old new then None else Some (old, new)

-- the map from the names of the refs that differ to their objects, in the byte order of names
pub record AreChanges (old new : List Ref) (changes : List (Bytes × Objects)) : Type 0 where
  pub sorted : IsTrue (is_sorted byte_cmp changes)
  pub objects : (name : Bytes) → lookup (same_bytes name) changes ≡ where_they_differ (object_named old name) (object_named new name)

-- an object's digits, and forty zeros for none
abbrev pub digits_or_zeros : Option Bytes → Bytes
digits_or_zeros None = replicate 40 48
digits_or_zeros (Some object) = hex object

-- the line of a ref: what it held, what it holds, and its name
abbrev pub change_line : Bytes × Objects → Bytes
change_line change = digits_or_zeros change.1.0 ++ (32 ∷ (digits_or_zeros change.1.1 ++ (32 ∷ (change.0 ++ 10 ∷ []))))

-- a line for each ref that differs
pub record IsReport (old new : List Ref) (report : Bytes) : Type 0 where
  pub changes : List (Bytes × Objects)
  pub are : AreChanges old new changes
  pub text : report ≡ flat_map change_line changes

-- ---- calls

-- the line of a ref where its objects differ
abbrev pub line_where_they_differ : Bytes → Option Objects → Bytes
line_where_they_differ name None = []
line_where_they_differ name (Some objects) = change_line (name, objects)

-- a ref's objects at two times, where they differ
abbrev pub differing : Option Name → Option Name → Option Objects
differing old new = where_they_differ (bytes_if old) (bytes_if new)

-- the object of the first ref, where it has this name
abbrev pub object_first : List Ref → Bytes → Option Bytes
object_first [] name = None
object_first (r ∷ rs) name = if same_bytes r.0 name then Some r.1 else None

-- the refs without the first, where that has this name
abbrev pub behind : List Ref → Bytes → List Ref
behind [] name = []
behind (r ∷ rs) name = if same_bytes r.0 name then rs else r ∷ rs

-- the first ref has this name or a later one
abbrev pub IsFrom : Bytes → List Ref → Type 0
IsFrom name [] = ⊤
IsFrom name (r ∷ rs) = (name ≡ r.0) ⊎ IsTrue (is_lt (byte_cmp name r.0))

-- no ref has an earlier name than this, and one has this
abbrev pub IsNextName : List Ref → List Ref → Bytes → Type 0
IsNextName before after name = IsFrom name before × IsFrom name after × (length (behind before name) + length (behind after name) < length before + length after)

-- this is the first name of the refs, where there are some
abbrev pub IsNext : List Ref → List Ref → Option (Bor Bytes) → Type 0
IsNext before after None = (before ≡ []) × (after ≡ [])
IsNext before after (Some name) = IsNextName before after name.now
