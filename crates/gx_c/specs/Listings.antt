-- The entries of a tree, as git-ls-tree(1) prints them with `-z`.
-- Source: git-ls-tree(1), "OUTPUT FORMAT".
use Rattle.std.specs.Prelude.{[], ◌∷◌, ◌++◌, Ok}
use Rattle.std.specs.List.{flat_map}
use Rattle.gx_model.specs.declared.objects.Kind.{Kind}
use Rattle.gx_model.specs.Faults.{Given, ◌>>=◌}
use Rattle.gx_model.specs.Histories.{History}
use Rattle.gx_model.specs.Histories.Files.{FileMap}
use Rattle.gx_model.specs.Objects.{Entry}
use Rattle.gx_model.specs.Records.{entries, named_map}
use Rattle.gx_model.specs.Revisions.{revision_of}
use Rattle.gx_model.specs.Revisions.Denotation.{files_in, value_denoted}
use Rattle.gx_model.specs.Texts.{Bytes}
use Rattle.gx_rev.specs.Entries.{entry_head}

-- an entry: its mode, its kind, its name's digits, and behind a TAB its component as it is, with a NUL behind it
abbrev pub listed : Entry → Bytes
listed entry = entry_head entry.mode entry.name ++ entry.component ++ 0 ∷ []

module _ (name : Kind → Bytes → Bytes) where
  -- the entries of the tree of a file map, in Git's order
  abbrev pub tree_listed : FileMap Bytes → Bytes
  tree_listed files = flat_map listed (entries name (named_map name files))

  -- those of the tree that the text of a revision gives
  abbrev pub listing_of : History → Bytes → Given Bytes
  listing_of h revision = (revision_of revision >>= λ r. value_denoted name h r >>= files_in) >>= λ files. Ok (tree_listed files)
