-- Sound repositories: what holds of the records and refs, said without a history. Source: Pro Git, "Git Objects", and git-check-ref-format(1).
use Rattle.std.specs.Prelude.{◌≡◌, ◌≢◌, ◌⊎◌, List, [], ◌∷◌, ◌++◌, map, IsTrue, ⊤}
use Rattle.std.specs.List.{AllByRecursion, list_all}
use Rattle.std.specs.FinMap.Entries.{is_sorted}
use Rattle.gx_model.specs.declared.objects.Kind.{Kind}
use Rattle.gx_model.specs.declared.objects.Kind.TheVariants as kind
use Rattle.gx_model.specs.declared.objects.Mode.{Mode}
use Rattle.gx_model.specs.declared.objects.Mode.TheVariants.{Gitlink, Dir}
use Rattle.gx_model.specs.Texts.{Bytes, byte_cmp}
use Rattle.gx_model.specs.Texts.RefNames.{is_ref_name, tag_ref}
use Rattle.gx_model.specs.Texts.Paths.{Path, is_short}
use Rattle.gx_model.specs.Histories.Files.{FileMap, is_file_map}
use Rattle.gx_model.specs.Objects.{CommitParts, Entry, IsCommitText, IsTagText, IsTreeText, TagParts, is_name}
use Rattle.gx_model.specs.Histories.{AreDistinct, Record, Records}

-- some element passes
abbrev pub AnyByRecursion : {X : Type 0} → (X → Type 0) → List X → Type 0
AnyByRecursion P [] = ⊥
AnyByRecursion P (x ∷ xs) = P x ⊎ AnyByRecursion P xs

-- a record of this kind and name
abbrev pub Holds : List Record → Kind → Bytes → Type 0
Holds records kind name = AnyByRecursion (λ held. (held.kind ≡ kind) × (held.name ≡ name)) records

-- what is held stays held
abbrev pub Keeps : List Record → List Record → Type 0
Keeps old new = (of_kind : Kind) (called : Bytes) → Holds old of_kind called → Holds new of_kind called

-- a directory's tree is held and has entries; a gitlink is no link
abbrev pub IsHeldAs : List Record → Mode → Bytes → Type 0
IsHeldAs records Gitlink name = ⊤
IsHeldAs records Dir name = AnyByRecursion (λ held. (held.kind ≡ kind.Tree) × (held.name ≡ name) × (held.body ≢ [])) records
IsHeldAs records _ name = Holds records kind.Blob name

-- the body of a tree whose entries are held
abbrev pub IsTree : List Record → Bytes → Type 0
IsTree records body = (entries : List Entry) × IsTreeText entries body × AllByRecursion (λ entry. IsHeldAs records entry.mode entry.name) entries

-- the body of a commit whose tree and parents are held
abbrev pub IsCommit : List Record → Bytes → Type 0
IsCommit records body = (parts : CommitParts) × IsCommitText parts body × Holds records kind.Tree parts.tree × AllByRecursion (Holds records kind.Commit) parts.parents

-- the body of a tag whose commit is held
abbrev pub IsTag : List Record → Bytes → Type 0
IsTag records body = (parts : TagParts) × IsTagText parts body × Holds records kind.Commit parts.object

-- a canonical body whose links are among these records
abbrev pub IsLinked : List Record → Kind → Bytes → Type 0
IsLinked records kind.Blob body = ⊤
IsLinked records kind.Tree body = IsTree records body
IsLinked records kind.Commit body = IsCommit records body
IsLinked records kind.Tag body = IsTag records body

-- each record's links are earlier records
abbrev pub IsLinkedAfter : List Record → List Record → Type 0
IsLinkedAfter before [] = ⊤
IsLinkedAfter before (r ∷ rs) = IsLinked before r.kind r.body × IsLinkedAfter (before ++ r ∷ []) rs

-- a path of a file below these entries
pub data HasPath (records : List Record) : List Entry → Path → Type 0 where
  here : {es : List Entry} (e : Entry) → AnyByRecursion (λ x. x ≡ e) es → e.mode ≢ Dir → HasPath records es (e.component ∷ [])
  below : {es : List Entry} {p : Path} (e : Entry) (fs : List Entry) → AnyByRecursion (λ x. x ≡ e) es → e.mode ≡ Dir
      → AnyByRecursion (λ r. (r.kind ≡ kind.Tree) × (r.name ≡ e.name) × IsTreeText fs r.body) records → HasPath records fs p → HasPath records es (e.component ∷ p)

-- a commit, or a tag whose own name makes this ref
abbrev pub IsTarget : List Record → Bytes → Bytes → Type 0
IsTarget records ref name =
    Holds records kind.Commit name
    ⊎ AnyByRecursion (λ held. (held.kind ≡ kind.Tag) × (held.name ≡ name) × ((parts : TagParts) × IsTagText parts held.body × (ref ≡ tag_ref parts.name))) records

-- no path below a tree is too long
abbrev pub HasShortPaths : List Record → Record → Type 0
HasShortPaths records held = (entries : List Entry) (path : Path) → held.kind ≡ kind.Tree → IsTreeText entries held.body → HasPath records entries path → IsTrue (is_short path)

-- names are the namer's and distinct, bodies are canonical and link to earlier records, no path is too long,
-- and the refs are in order, have ref names, and hold commits and tags of their own
pub record IsSound (name : Kind → Bytes → Bytes) (repository : Records) : Type 0 where
  pub named : AllByRecursion (λ held. held.name ≡ name held.kind held.body) repository.records
  pub distinct : AreDistinct (map (λ held. held.name) repository.records)
  pub linked : IsLinkedAfter [] repository.records
  pub paths : AllByRecursion (HasShortPaths repository.records) repository.records
  pub sorted : IsTrue (is_sorted byte_cmp repository.refs)
  pub ref_names : IsTrue (list_all (λ ref. is_ref_name ref.0) repository.refs)
  pub held : AllByRecursion (λ ref. IsTarget repository.records ref.0 ref.1) repository.refs

-- a map of names whose files, where they are no gitlinks, name held blobs
pub record IsNamedMap (records : List Record) (map_of_names : FileMap Bytes) : Type 0 where
  pub file_map : IsTrue (is_file_map map_of_names)
  pub files : AllByRecursion (λ entry. entry.1.0 ≢ Dir) map_of_names
  pub names : IsTrue (list_all (λ entry. is_name entry.1.1) map_of_names)
  pub held : AllByRecursion (λ entry. IsHeldAs records entry.1.0 entry.1.1) map_of_names
