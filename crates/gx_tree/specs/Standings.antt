-- What a path leads to.
use Rattle.std.specs.Prelude.{[], ◌∷◌, Option, Some, None}
use Rattle.gx_model.specs.Texts.{Bytes}
use Rattle.gx_model.specs.Texts.Paths.{Path}
use Rattle.gx_model.specs.Histories.Files.{FileMap, Leaf, file_at, sub_map}
use Rattle.gx_tree.specs.declared.path_tree.Found.{Found}
use Rattle.gx_tree.specs.declared.path_tree.Found.TheVariants.{File, Directory}

pub data Standing : Type 0 where
  a_file : Leaf Bytes → Standing
  a_directory : Standing

abbrev pub standing_of : Found → Standing
standing_of (File m n) = a_file (m, n.bytes)
standing_of Directory = a_directory

-- a file, or a directory where some files are below
abbrev pub standing_by : Option (Leaf Bytes) → FileMap Bytes → Option Standing
standing_by (Some x) below = Some (a_file x)
standing_by None [] = None
standing_by None (e ∷ below) = Some a_directory

-- the root is always a directory
abbrev pub standing_at : FileMap Bytes → Path → Option Standing
standing_at f [] = Some a_directory
standing_at f (c ∷ p) = standing_by (file_at f (c ∷ p)) (sub_map f (c ∷ p))
