-- The canonical record of a value: its kind and body, and the name of these. Source: Pro Git, "Git Objects".
pub mod Growth
pub mod HistoryOf
pub mod Lookups
pub mod Publishing
pub mod RecordFaults
pub mod Sound
pub mod Walks
use Rattle.std.specs.Prelude.{ℕ, zero, suc, List, [], ◌∷◌, map, Option, None, Some, codes}
use Rattle.std.specs.List.{flat_map}
use Rattle.gx_model.specs.declared.objects.Kind.{Kind}
use Rattle.gx_model.specs.declared.objects.Kind.TheVariants as kind
use Rattle.gx_model.specs.declared.objects.Mode.{Mode}
use Rattle.gx_model.specs.declared.objects.Mode.TheVariants.{Gitlink, Dir}
use Rattle.gx_model.specs.Texts.{Bytes}
use Rattle.gx_model.specs.Histories.Files.{FileMap, Leaf, depth, file_at, first_components, sub_map}
use Rattle.gx_model.specs.Histories.Values.{Commit, Commits, Tag, Value, blob_value, commit, commit_value, files_of, more, none, parents_of, tag_value, text_of, tree_value}
use Rattle.gx_model.specs.Objects.{CommitParts, Entry, commit_text, hex, line, tag_text, tree_text, unhex}

module _ (name : Kind → Bytes → Bytes) where
  -- the name of a file's content: a gitlink's digits are its name
  abbrev pub content_name : Mode → Bytes → Bytes
  content_name Gitlink digits = unhex digits
  content_name _ bytes = name kind.Blob bytes

  -- names in place of contents
  abbrev pub named_map : FileMap Bytes → FileMap Bytes
  named_map files = map (λ entry. (entry.0, (entry.1.0, content_name entry.1.0 entry.1.1))) files

  -- what an entry is and names: a file, or else the directory of this name
  abbrev pub node : Option (Leaf Bytes) → Bytes → Leaf Bytes
  node (Some leaf) tree = leaf
  node None tree = (Dir, tree)

  -- the entry of a component
  abbrev pub entry : Bytes → Leaf Bytes → Entry
  entry component leaf = record { mode = leaf.0; component = component; name = leaf.1 }

  -- the entries of a map of names are its first components, a directory by this name of its sub-map
  abbrev pub tree_entries : (FileMap Bytes → Bytes) → FileMap Bytes → List Entry
  tree_entries dir_name files = map (λ component. entry component (node (file_at files (component ∷ [])) (dir_name (sub_map files (component ∷ []))))) (first_components files)

  -- the entries of a map of names whose directories are nested at most n deep
  abbrev pub entries_to : ℕ → FileMap Bytes → List Entry
  entries_to zero files = tree_entries (λ below. name kind.Tree []) files
  entries_to (suc n) files = tree_entries (λ below. name kind.Tree (tree_text (entries_to n below))) files

  -- the entries of a map of names
  abbrev pub entries : FileMap Bytes → List Entry
  entries files = entries_to (depth files) files

  -- the body of a map of names
  abbrev pub tree_body : FileMap Bytes → Bytes
  tree_body files = tree_text (entries files)

  -- the name of a file map
  abbrev pub tree_name : FileMap Bytes → Bytes
  tree_name files = name kind.Tree (tree_body (named_map files))

  abbrev mutual
    pub commit_body : Commit → Bytes
    commit_body (commit files parents text) = commit_text (record { tree = tree_name files; parents = names_of parents; text = text })

    pub names_of : Commits → List Bytes
    names_of none = []
    names_of (more c cs) = name kind.Commit (commit_body c) ∷ names_of cs

  -- the parts of a commit's body
  abbrev pub parts_of_commit : Commit → CommitParts
  parts_of_commit revision = record { tree = tree_name (files_of revision); parents = names_of (parents_of revision); text = text_of revision }

  -- the parent lines of a commit
  abbrev pub parent_lines : Commits → Bytes
  parent_lines parents = flat_map (λ parent. line (codes "parent") (hex parent)) (names_of parents)

  -- the body of a tag
  abbrev pub tag_body : Tag → Bytes
  tag_body tag = tag_text (record { object = name kind.Commit (commit_body tag.target); name = tag.name; tagger = tag.tagger; message = tag.message })

  -- the kind of a value
  abbrev pub kind_of : Value → Kind
  kind_of (blob_value bytes) = kind.Blob
  kind_of (tree_value files) = kind.Tree
  kind_of (commit_value revision) = kind.Commit
  kind_of (tag_value tag) = kind.Tag

  -- the body of a value
  abbrev pub body_of : Value → Bytes
  body_of (blob_value bytes) = bytes
  body_of (tree_value files) = tree_body (named_map files)
  body_of (commit_value revision) = commit_body revision
  body_of (tag_value tag) = tag_body tag

  -- the name of a value
  abbrev pub name_of : Value → Bytes
  name_of value = name (kind_of value) (body_of value)
