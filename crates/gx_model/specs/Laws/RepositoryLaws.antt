-- The laws of repositories: their histories, how both grow, and what names, walks and refs find in both.
-- Source: gitglossary(7), "object database", and gitrevisions(7).
use Rattle.std.specs.Prelude.{◌≡◌, ◌↔◌, true, IsTrue, List, ◌∷◌, ◌++◌, map, Some, None, Ok}
use Rattle.std.specs.List.{list_all, fold, AllByRecursion}
use Rattle.std.specs.Option.{option_map}
use Rattle.std.specs.FinMap.Entries.{is_sorted}
use Rattle.gx_model.specs.declared.objects.Kind.{Kind}
use Rattle.gx_model.specs.declared.objects.Kind.TheVariants as kind
use Rattle.gx_model.specs.Texts.{Bytes, byte_cmp}
use Rattle.gx_model.specs.Texts.RefNames.{is_ref_name}
use Rattle.gx_model.specs.Texts.Paths.{Path, is_short}
use Rattle.gx_model.specs.Histories.Files.{FileMap}
use Rattle.gx_model.specs.Histories.Values.{Value, blobs_of, is_content, is_proper, parts, tree_value}
use Rattle.gx_model.specs.Objects.{Entry, IsTreeText}
use Rattle.gx_model.specs.Records.{kind_of, name_of, named_map, tree_name}
use Rattle.gx_model.specs.Histories.{History, IsIn, Record, Records, StandsFor, record_of, with_one, with_tree, with_value}
use Rattle.gx_model.specs.Records.HistoryOf.{contents_of, files_of_entries, history_of, named_values, target_in, value_in, value_of_name}
use Rattle.gx_model.specs.Records.Sound.{HasShortPaths, IsHeldAs, IsLinked, IsNamedMap, IsSound, IsTarget}
use Rattle.gx_model.specs.Records.Growth.{AreReady, all_trees, clashes, put, put_all, record_named, tree_records, with_values}
use Rattle.gx_model.specs.Records.Walks.{place_in, walked}
use Rattle.gx_model.specs.Records.Lookups.{commit_name_of, commit_named, first_named, records_begun_by}
use Rattle.gx_model.specs.Revisions.{Revision}
use Rattle.gx_model.specs.Revisions.Denotation.{Shown, begun_by, denoted, find_ref, object, ref_names, submodule}

-- a repository stands for one history at most
abbrev pub StandsForOne : (Kind → Bytes → Bytes) → Type 0
StandsForOne name = (repository : Records) (history other : History) → StandsFor name repository history → StandsFor name repository other → history ≡ other

-- a sound repository stands for the history that is read from it, and whatever stands for a history is sound
pub record HistoriesOf (name : Kind → Bytes → Bytes) : Type 0 where
  pub stands : (repository : Records) → IsSound name repository → StandsFor name repository (history_of repository)
  pub sound : (repository : Records) (history : History) → StandsFor name repository history → IsSound name repository
  pub one : (repository : Records) (history : History) → StandsFor name repository history → history ≡ history_of repository

-- the values of a repository's history
abbrev pub values_of : Records → List Value
values_of repository = (history_of repository).values

-- a repository with these records
abbrev pub with_records : Records → List Record → Records
with_records repository records = record { records = records; refs = repository.refs }

-- a repository with these refs
abbrev pub with_refs : Records → List (Bytes × Bytes) → Records
with_refs repository refs = record { records = repository.records; refs = refs }

-- ---- growth

-- with these records the repository is sound, and its history has these values, too
pub record Grew (name : Kind → Bytes → Bytes) (repository : Records) (values : List Value) (records : List Record) : Type 0 where
  pub sound : IsSound name (with_records repository records)
  pub history : history_of (with_records repository records) ≡ record { values = fold with_one (values_of repository) values; refs = (history_of repository).refs }

-- putting the records of values whose parts stand adds the values, unless one clashes
pub record PutsGrow (name : Kind → Bytes → Bytes) : Type 0 where
  pub adds : (repository : Records) → IsSound name repository → (values : List Value) → AreReady (values_of repository) values
      → put_all repository.records (map (record_of name) values) ≡ option_map (map (record_of name)) (with_values name (values_of repository) values)
  pub grew : (repository : Records) → IsSound name repository → (values : List Value) → AreReady (values_of repository) values
      → (records : List Record) → put_all repository.records (map (record_of name) values) ≡ Some records → Grew name repository values records
  pub clash : (values held : List Value) → with_values name held values ≡ None
      → (before : List Value) × (value : Value) × (after : List Value) × (values ≡ before ++ value ∷ after) × (clashes name (fold with_one held before) value ≡ true)
  pub one : (repository : Records) → IsSound name repository → (value : Value) → IsTrue (is_proper value) → AllByRecursion (IsIn (values_of repository)) (parts value)
      → (records : List Record) → put repository.records (record_of name value) ≡ Some records
      → IsSound name (with_records repository records) × (history_of (with_records repository records) ≡ record { values = with_one (values_of repository) value; refs = (history_of repository).refs })
  -- this is how a history adds a value whose parts it has; a file map needs its files' bytes alone
  pub alone : (repository : Records) → IsSound name repository → (value : Value) → AllByRecursion (IsIn (values_of repository)) (parts value)
      → ((files : FileMap Bytes) → value ≡ tree_value files → ⊥) → with_value (values_of repository) value ≡ with_one (values_of repository) value

-- a map of names is that of this file map, whose trees can be added one after the other, and so it is added
pub record NamesTree (name : Kind → Bytes → Bytes) (repository : Records) (names files : FileMap Bytes) : Type 0 where
  pub content : IsTrue (is_content files)
  pub named : named_map name files ≡ names
  pub known : AllByRecursion (IsIn (values_of repository)) (blobs_of files)
  pub records : tree_records name names ≡ map (record_of name) (map tree_value (all_trees files))
  pub ready : AreReady (values_of repository) (map tree_value (all_trees files))
  pub added : fold with_one (values_of repository) (map tree_value (all_trees files)) ≡ with_tree (values_of repository) files

-- a map of names is that of a file map; putting its records, sub-maps first, adds that
abbrev pub TreesGrow : (Kind → Bytes → Bytes) → Type 0
TreesGrow name = (repository : Records) → IsSound name repository → (names : FileMap Bytes) → IsNamedMap repository.records names → NamesTree name repository names (contents_of (named_values repository.records) names)

-- ---- bodies and paths

-- the value is proper, its parts stand, and this is its record
pub record IsLinkedValue (name : Kind → Bytes → Bytes) (repository : Records) (of_kind : Kind) (body : Bytes) (value : Value) : Type 0 where
  pub proper : IsTrue (is_proper value)
  pub known : AllByRecursion (IsIn (values_of repository)) (parts value)
  pub recorded : record_of name value ≡ record { name = name of_kind body; kind = of_kind; body = body }

-- a canonical body whose links are held, with no path too long, is that of a value whose parts stand
abbrev pub LinksTell : (Kind → Bytes → Bytes) → Type 0
LinksTell name =
    (repository : Records) → IsSound name repository → (of_kind : Kind) (body : Bytes) → IsLinked repository.records of_kind body
    → HasShortPaths repository.records (record { name = name of_kind body; kind = of_kind; body = body }) → IsLinkedValue name repository of_kind body (value_in (named_values repository.records) of_kind body)

-- whether a tree has a path that is too long is told by the file map that its entries give
abbrev pub ShortPathsTell : (Kind → Bytes → Bytes) → Type 0
ShortPathsTell name =
    (repository : Records) → IsSound name repository → (entries : List Entry) (body : Bytes) → IsTreeText entries body → AllByRecursion (λ entry. IsHeldAs repository.records entry.mode entry.name) entries
    → IsTrue (list_all (λ file. is_short file.0) (files_of_entries (named_values repository.records) entries)) ↔ HasShortPaths repository.records (record { name = name kind.Tree body; kind = kind.Tree; body = body })

-- a walk down tree records gives what the whole map has
abbrev pub WalksTell : (Kind → Bytes → Bytes) → Type 0
WalksTell name =
    (repository : Records) → IsSound name repository → (files : FileMap Bytes) → IsIn (values_of repository) (tree_value files)
    → (path : Path) → walked repository.records (tree_name name files) path ≡ place_in name files path

-- ---- names, answers and look-ups

-- names and values give each other
pub record NamesTell (name : Kind → Bytes → Bytes) : Type 0 where
  pub same : (repository : Records) → IsSound name repository → (value other : Value) → IsIn (values_of repository) value → IsIn (values_of repository) other
      → (name_of name value ≡ name_of name other) ↔ (value ≡ other)
  pub of_record : (repository : Records) → IsSound name repository → (called : Bytes) (held : Record) → record_named repository.records called ≡ Some held
      → IsIn (values_of repository) (value_of_name repository.records called) × (record_of name (value_of_name repository.records called) ≡ held)
  pub of_value : (repository : Records) → IsSound name repository → (value : Value) → IsIn (values_of repository) value
      → (record_named repository.records (name_of name value) ≡ Some (record_of name value)) × (value_of_name repository.records (name_of name value) ≡ value)

-- what is answered for these two is one: a kind and a name, or a submodule's digits
abbrev pub AreOneAnswer : (Kind → Bytes → Bytes) → Shown → Shown → Type 0
AreOneAnswer name (object value) (object other) = (kind_of name value ≡ kind_of name other) × (name_of name value ≡ name_of name other)
AreOneAnswer name (submodule digits) (submodule others) = digits ≡ others
AreOneAnswer name _ _ = ⊥

-- what revisions give is told by what is answered for it
pub record AnswersTell (name : Kind → Bytes → Bytes) : Type 0 where
  pub held : (repository : Records) → IsSound name repository → (revision : Revision) (value : Value) → denoted name (history_of repository) revision ≡ Ok (object value) → IsIn (values_of repository) value
  pub one : (repository : Records) → IsSound name repository → (revision other : Revision) (shown seen : Shown)
      → denoted name (history_of repository) revision ≡ Ok shown → denoted name (history_of repository) other ≡ Ok seen → AreOneAnswer name shown seen ↔ (shown ≡ seen)

-- refs, digits and names find the same among records as in the history
pub record RecordsFind (name : Kind → Bytes → Bytes) : Type 0 where
  pub refs : (repository : Records) (ref : Bytes)
      → find_ref (history_of repository) ref ≡ option_map (λ target. target_in (value_of_name repository.records target)) (first_named repository.refs (ref_names ref))
  pub digits : (repository : Records) → IsSound name repository → (digits : Bytes) → map (record_of name) (begun_by name (history_of repository) digits) ≡ records_begun_by repository.records digits
  pub commits : (repository : Records) → IsSound name repository → (value : Value) → IsIn (values_of repository) value → commit_named repository.records (name_of name value) ≡ commit_name_of name value

-- other refs, and fewer records
pub record PartsChange (name : Kind → Bytes → Bytes) : Type 0 where
  pub refs : (repository : Records) → IsSound name repository → (refs : List (Bytes × Bytes)) → IsTrue (is_sorted byte_cmp refs) → IsTrue (list_all (λ ref. is_ref_name ref.0) refs)
      → AllByRecursion (λ ref. IsTarget repository.records ref.0 ref.1) refs → IsSound name (with_refs repository refs) × (values_of (with_refs repository refs) ≡ values_of repository)
  pub first : (front rest : List Record) (refs : List (Bytes × Bytes)) → IsSound name (record { records = front ++ rest; refs = refs }) → AllByRecursion (λ ref. IsTarget front ref.0 ref.1) refs
      → IsSound name (record { records = front; refs = refs })
      × ((values : List Value) × (values_of (record { records = front ++ rest; refs = refs }) ≡ values_of (record { records = front; refs = refs }) ++ values))
