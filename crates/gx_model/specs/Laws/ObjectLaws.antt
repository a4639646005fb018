-- The laws of trees, commits and tags as objects. Source: Pro Git, "Git Objects", and gitglossary(7), "tree object".
use Rattle.std.specs.Prelude.{◌≡◌, ◌≢◌, true, false, List, [], ◌∷◌, map, IsTrue}
use Rattle.std.specs.List.{AllByRecursion}
use Rattle.gx_model.specs.declared.objects.Kind.{Kind}
use Rattle.gx_model.specs.Texts.{Bytes, byte_cmp}
use Rattle.gx_model.specs.Texts.Paths.{Path, is_component, path_cmp}
use Rattle.gx_model.specs.Histories.Files.{FileMap}
use Rattle.gx_model.specs.Histories.Values.{Value, is_content, parts, tree_value}
use Rattle.gx_model.specs.Objects.{CommitParts, Entry, IsCommitText, IsTagText, IsTreeText, TagParts, entry_key, is_canonical, is_dir}
use Rattle.gx_model.specs.Records.{entries, name_of, named_map, tree_body}
use Rattle.gx_model.specs.Histories.{AreDistinct, IsIn}

-- ---- bodies

-- a canonical body is that of one set of parts only
pub record BodiesTellParts : Type 0 where
  pub trees : (listed others : List Entry) (body : Bytes) → IsTreeText listed body → IsTreeText others body → listed ≡ others
  pub commits : (commit other : CommitParts) (body : Bytes) → IsCommitText commit body → IsCommitText other body → commit ≡ other
  pub tags : (tag other : TagParts) (body : Bytes) → IsTagText tag body → IsTagText other body → tag ≡ other

-- ---- trees

-- the entries of a file map are canonical
abbrev pub TreesAreCanonical : (Kind → Bytes → Bytes) → Type 0
TreesAreCanonical name = (files : FileMap Bytes) → IsTrue (is_content files) → IsTrue (is_canonical (entries name (named_map name files)))

-- a path of a file at this entry, or below it where it is a directory's
abbrev pub IsAtOrBelow : Entry → Path → Type 0
IsAtOrBelow entry [] = ⊥
IsAtOrBelow entry (c ∷ []) = (c ≡ entry.component) × (is_dir entry.mode ≡ false)
IsAtOrBelow entry (c ∷ d ∷ p) = (c ≡ entry.component) × (is_dir entry.mode ≡ true)

-- the order of a tree's entries is the byte order of the whole paths at and below them
abbrev pub EntriesStandInPathOrder : Type 0
EntriesStandInPathOrder =
    (entry other : Entry) (path another : Path) → IsTrue (is_component entry.component) → IsTrue (is_component other.component) → entry.component ≢ other.component
    → IsAtOrBelow entry path → IsAtOrBelow other another → path_cmp path another ≡ byte_cmp (entry_key entry) (entry_key other)

-- two file maps with one body are one, where what is below them stands among values that their names tell apart
abbrev pub TreesTellMaps : (Kind → Bytes → Bytes) → Type 0
TreesTellMaps name =
    (values : List Value) → AreDistinct (map (name_of name) values) → (files others : FileMap Bytes) → IsTrue (is_content files) → IsTrue (is_content others)
    → AllByRecursion (IsIn values) (parts (tree_value files)) → AllByRecursion (IsIn values) (parts (tree_value others))
    → tree_body name (named_map name files) ≡ tree_body name (named_map name others) → files ≡ others
