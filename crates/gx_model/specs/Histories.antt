-- Histories, how a value is added to one, and the repositories that stand for one. Source: gitglossary(7), "object database" and "ref".
pub mod Edits
pub mod Files
pub mod Marks
pub mod Values
use Rattle.std.specs.Prelude.{◌≡◌, ℕ, zero, suc, Bool, false, if◌then◌else◌, List, [], ◌∷◌, ◌++◌, map, IsTrue, ⊤, ◌⊎◌}
use Rattle.std.specs.List.{fold, list_any, list_all, AllByRecursion}
use Rattle.std.specs.FinMap.Entries.{is_sorted}
use Rattle.gx_model.specs.declared.objects.Kind.{Kind}
use Rattle.gx_model.specs.Texts.{Bytes, byte_cmp, same_bytes}
use Rattle.gx_model.specs.Texts.RefNames.{is_ref_name, tag_ref}
use Rattle.gx_model.specs.Histories.Files.{FileMap, depth}
use Rattle.gx_model.specs.Histories.Values.{Commit, Tag, Value, blob_value, commit_value, files_of, is_proper, parts, same_value, sub_maps, tag_value, tree_value}
use Rattle.gx_model.specs.Records.{body_of, kind_of, name_of}

-- ---- adding a value

-- whether a value stands in a list
abbrev pub is_in : List Value → Value → Bool
is_in values value = list_any (same_value value) values

-- the value last, unless it stands there
abbrev pub with_one : List Value → Value → List Value
with_one values value = if is_in values value then values else values ++ value ∷ []

-- a file map whose paths have at most n components, after its sub-maps
abbrev pub with_tree_to : ℕ → List Value → FileMap Bytes → List Value
with_tree_to zero values files = with_one values (tree_value files)
with_tree_to (suc n) values files = with_one (fold (with_tree_to n) values (sub_maps files)) (tree_value files)

-- a file map, after its sub-maps
abbrev pub with_tree : List Value → FileMap Bytes → List Value
with_tree values files = with_tree_to (depth files) values files

-- a value, after what it lacks
abbrev pub with_value : List Value → Value → List Value
with_value values (blob_value bytes) = with_one values (blob_value bytes)
with_value values (tree_value files) = with_tree values files
with_value values (commit_value revision) = with_one (with_tree values (files_of revision)) (commit_value revision)
with_value values (tag_value tag) = with_one values (tag_value tag)

-- ---- histories

-- where a ref stands
pub data Target : Type 0 where
  at_commit : Commit → Target
  at_tag : Tag → Target

-- the value that a ref holds
abbrev pub value_at : Target → Value
value_at (at_commit revision) = commit_value revision
value_at (at_tag tag) = tag_value tag

-- what a repository means
pub record History : Type 0 where
  -- in order of first making
  pub values : List Value
  -- in byte order of names
  pub refs : List (Bytes × Target)

-- the history without values and refs
abbrev pub no_history : History
no_history = record { values = []; refs = [] }

-- the value stands among these
abbrev pub IsIn : List Value → Value → Type 0
IsIn [] value = ⊥
IsIn (w ∷ vs) value = (w ≡ value) ⊎ IsIn vs value

-- a value is made of another, through its parts
pub data Reaches : Value → Value → Type 0 where
  itself : (v : Value) → Reaches v v
  through : {u : Value} (v w : Value) → IsIn (parts v) w → Reaches w u → Reaches v u

-- each of these values is new, and its parts stand before it
abbrev pub IsClosedAfter : List Value → List Value → Type 0
IsClosedAfter before [] = ⊤
IsClosedAfter before (v ∷ vs) =
    (is_in before v ≡ false) × AllByRecursion (IsIn before) (parts v) × IsClosedAfter (before ++ v ∷ []) vs

-- the values of a history: each new, proper, and after its parts
pub record IsWhole (values : List Value) : Type 0 where
  pub closed : IsClosedAfter [] values
  pub proper : IsTrue (list_all is_proper values)

-- a tag's own name makes its ref
abbrev pub IsRefOf : Bytes → Target → Type 0
IsRefOf ref (at_commit revision) = ⊤
IsRefOf ref (at_tag tag) = ref ≡ tag_ref tag.name

-- a history's values are whole, and its refs are in order, have ref names, and stand at its commits and at tags of their own
pub record IsHistory (history : History) : Type 0 where
  pub proper : IsTrue (list_all is_proper history.values)
  pub closed : IsClosedAfter [] history.values
  pub sorted : IsTrue (is_sorted byte_cmp history.refs)
  pub ref_names : IsTrue (list_all (λ ref. is_ref_name ref.0) history.refs)
  pub held : AllByRecursion (λ ref. IsIn history.values (value_at ref.1)) history.refs
  pub own : AllByRecursion (λ ref. IsRefOf ref.0 ref.1) history.refs

-- ---- repositories

-- an object that is held
pub record Record : Type 0 where
  pub name : Bytes
  pub kind : Kind
  pub body : Bytes

-- its kind and body
abbrev pub object_of : Record → Kind × Bytes
object_of held = (held.kind, held.body)

-- a repository: its objects in the order in which they were put, and its refs by their names
pub record Records : Type 0 where
  pub records : List Record
  pub refs : List (Bytes × Bytes)

-- the repository without objects and refs, which is that of an empty store
abbrev pub empty_repository : Records
empty_repository = record { records = []; refs = [] }

-- no two names are equal
abbrev pub AreDistinct : List Bytes → Type 0
AreDistinct [] = ⊤
AreDistinct (n ∷ ns) = (list_any (same_bytes n) ns ≡ false) × AreDistinct ns

module _ (name : Kind → Bytes → Bytes) where
  -- a kind and a body, under their name
  abbrev pub record_for : Kind → Bytes → Record
  record_for of_kind body = record { name = name of_kind body; kind = of_kind; body = body }

  -- the canonical record of a value
  abbrev pub record_of : Value → Record
  record_of value = record { name = name_of name value; kind = kind_of name value; body = body_of name value }

  -- each record is that of the value at its place, names are distinct, and each ref holds the name of its value
  pub record StandsFor (repository : Records) (meant : History) : Type 0 where
    pub history : IsHistory meant
    pub records : repository.records ≡ map record_of meant.values
    pub distinct : AreDistinct (map (λ held. held.name) repository.records)
    pub refs : repository.refs ≡ map (λ ref. (ref.0, name_of name (value_at ref.1))) meant.refs
