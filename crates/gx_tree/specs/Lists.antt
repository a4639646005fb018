-- The list of a tree's files.
use Rattle.std.specs.Prelude.{◌≡◌, Bool, List, ◌++◌, map}
use Rattle.std.specs.List.{list_all}
use Rattle.gx_model.specs.Texts.{Bytes}
use Rattle.gx_model.specs.Texts.Paths.{Path, is_short}
use Rattle.gx_model.specs.Histories.Files.{FileMap}
use Rattle.gx_model.specs.declared.objects.Mode.{Mode}
use Rattle.gx_object.specs.declared.name.Name.{Name}

-- a listed file, as an entry of a file map
abbrev pub shown_listed : Path × Mode × Name → Path × (Mode × Bytes)
shown_listed t = (t.0, (t.1, t.2.bytes))

-- the same files below a path
abbrev pub below : Path → FileMap Bytes → FileMap Bytes
below p f = map (λ e. (p ++ e.0, e.1)) f

-- whether each path is short enough
abbrev pub are_short : FileMap Bytes → Bool
are_short f = list_all (λ e. is_short e.0) f

-- these files are listed behind those that were
abbrev pub AppendsFiles : FileMap Bytes → List (Path × Mode × Name) → List (Path × Mode × Name) → Type 0
AppendsFiles f old new = map shown_listed new ≡ map shown_listed old ++ f
