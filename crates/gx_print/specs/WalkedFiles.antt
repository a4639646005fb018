-- The files of a held tree, as a walk comes to them, with a text before their paths: the path of the directory, and its slash.
-- Source: git-ls-tree(1), `-r`.
use Rattle.std.specs.Prelude.{◌≡◌, ◌≢◌, if◌then◌else◌, [], ◌∷◌, ◌++◌, Ok, IsTrue}
use Rattle.std.specs.List.{AllByRecursion}
use Rattle.gx_model.specs.declared.objects.Kind.{Kind}
use Rattle.gx_model.specs.declared.objects.Kind.TheVariants as kinds
use Rattle.gx_model.specs.declared.objects.Mode.TheVariants.{Dir}
use Rattle.gx_model.specs.Histories.Files.{FileMap, Leaf}
use Rattle.gx_model.specs.Objects.{Entry as TreeEntry, is_dir}
use Rattle.gx_model.specs.Records.{named_map}
use Rattle.gx_model.specs.Records.HistoryOf.{files_of_tree, placed, value_of_name}
use Rattle.gx_model.specs.Records.RecordFaults.{is_held}
use Rattle.gx_model.specs.Histories.{Records}
use Rattle.gx_model.specs.Texts.{Bytes}
use Rattle.gx_model.specs.Texts.Paths.{Path, parts_of, path_of, path_text}
use Rattle.gx_print.specs.Listings.{entry_line}

-- a text is that of a path
abbrev pub IsPathText : Bytes → Type 0
IsPathText text = path_of text ≡ Ok (parts_of text)

-- the line of a file of a map of names, with this text before its path
abbrev pub line_below : Bytes → Path × Leaf Bytes → Bytes
line_below front file = entry_line (record { mode = file.1.0; component = front ++ path_text file.0; name = file.1.1 })

-- with this text before it, each path of a map is that of a file
abbrev pub HavePaths : Bytes → FileMap Bytes → Type 0
HavePaths front files = AllByRecursion (λ file. IsPathText (front ++ path_text file.0)) files

module _ (name : Kind → Bytes → Bytes) (repository : Records) where
  -- the files of the tree of this name, by the names of their contents
  abbrev pub files_in : Bytes → FileMap Bytes
  files_in tree = named_map name (files_of_tree (value_of_name repository.records tree))

  -- what is at or below an entry that is and names this
  abbrev pub files_named : Leaf Bytes → FileMap Bytes
  files_named leaf = if is_dir leaf.0 then files_in leaf.1 else ([], leaf) ∷ []

  -- the files at or below an entry of a tree
  abbrev pub files_of_entry : TreeEntry → FileMap Bytes
  files_of_entry entry = placed entry.component (files_named (entry.mode, entry.name))

  -- a directory's tree is held; there are files at or below the entry, and with this text before it the path of each is one
  pub record IsWithin (front : Bytes) (entry : TreeEntry) : Type 0 where
    pub tree : entry.mode ≡ Dir → IsTrue (is_held repository.records kinds.Tree entry.name)
    pub some : files_named (entry.mode, entry.name) ≢ []
    pub paths : HavePaths front (files_of_entry entry)
