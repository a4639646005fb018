-- What a walk over a tree's files comes to, with this text before the paths of files, and the lines of these.
use Rattle.std.specs.Prelude.{◌≢◌, IsTrue, List, []}
use Rattle.std.specs.List.{AllByRecursion, flat_map}
use Rattle.gx_model.specs.declared.objects.Kind.{Kind}
use Rattle.gx_model.specs.declared.objects.Kind.TheVariants as kinds
use Rattle.gx_model.specs.Histories.{Records}
use Rattle.gx_model.specs.Objects.{Entry}
use Rattle.gx_model.specs.Records.RecordFaults.{is_held}
use Rattle.gx_model.specs.Texts.{Bytes}
use Rattle.gx_print.specs.WalkedFiles.{HavePaths, IsWithin, files_in, files_of_entry, line_below}

module _ (name : Kind → Bytes → Bytes) (front : Bytes) (repository : Records) where
  -- a directory's tree is held and has files, and the path of each is one
  pub record IsBelow (tree : Bytes) : Type 0 where
    pub held : IsTrue (is_held repository.records kinds.Tree tree)
    pub some : files_in name repository tree ≢ []
    pub paths : HavePaths front (files_in name repository tree)

  -- each entry is within the directory
  abbrev pub AreWithin : List Entry → Type 0
  AreWithin entries = AllByRecursion (IsWithin name repository front) entries

  -- the lines of the files at or below an entry
  abbrev pub entry_lines : Entry → Bytes
  entry_lines entry = flat_map (line_below front) (files_of_entry name repository entry)

  -- and of those of several
  abbrev pub all_lines : List Entry → Bytes
  all_lines entries = flat_map entry_lines entries
