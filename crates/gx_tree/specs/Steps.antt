-- What stands at a component after an edit below it.
use Rattle.std.specs.Prelude.{[], ◌∷◌, Option, Some, None}
use Rattle.gx_model.specs.Texts.{Bytes}
use Rattle.gx_model.specs.Texts.Paths.{Path}
use Rattle.gx_model.specs.Histories.Files.{FileMap}
use Rattle.gx_model.specs.Histories.Edits.{removed, with_all, without_line}
use Rattle.gx_tree.specs.Nodes.{Kept, Level, file, folder, kept_map, others, with_kept}
use Rattle.gx_tree.specs.Lists.{below}

-- with these files below a path that is not the root, in place of what is in line with it
abbrev pub grafted : Path → FileMap Bytes → FileMap Bytes → FileMap Bytes
grafted p g f = with_all (below p g) (without_line p f)

-- the files of a directory, and none of a file
abbrev pub files_of : Option Kept → FileMap Bytes
files_of None = []
files_of (Some (file x)) = []
files_of (Some (folder f)) = f

-- with k at the path
abbrev pub kept_grafted : Path → Kept → Option Kept → Kept
kept_grafted [] k o = k
kept_grafted (c ∷ p) k o = folder (grafted (c ∷ p) (kept_map k) (files_of o))

abbrev pub folder_if_any : FileMap Bytes → Option Kept
folder_if_any [] = None
folder_if_any (e ∷ f) = Some (folder (e ∷ f))

abbrev pub kept_removed : Path → Option Kept → Option Kept
kept_removed p None = None
kept_removed [] (Some k) = None
kept_removed (c ∷ p) (Some (file x)) = Some (file x)
kept_removed (c ∷ p) (Some (folder f)) = folder_if_any (removed f (c ∷ p))

-- with what is kept at c, or nothing there
abbrev pub replaced : Bytes → Option Kept → Level → Level
replaced c None es = others c es
replaced c (Some k) es = with_kept c k es
