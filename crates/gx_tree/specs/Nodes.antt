-- What a directory keeps, one level at a time: at each component a file, or a directory by its file map.
use Rattle.std.specs.Prelude.{◌≡◌, ◌≢◌, ℕ, ◌+◌, Bool, false, true, not, if◌then◌else◌, List, [], ◌∷◌, ◌++◌, length, IsTrue, ⊤, Option, None, Some}
use Rattle.std.specs.List.{filter, flat_map, list_all, AllByRecursion}
use Rattle.std.specs.Map.{lookup}
use Rattle.std.specs.Ordering.{nat_cmp, is_lt}
use Rattle.std.specs.Cmp.Lexicographic.{slice_cmp}
use Rattle.std.specs.FinMap.Entries.{is_sorted}
use Rattle.gx_model.specs.declared.objects.Mode.TheVariants.{Dir}
use Rattle.gx_model.specs.Texts.{Bytes, same_bytes}
use Rattle.gx_model.specs.Texts.Paths.{Path, is_component, path_cmp}
use Rattle.gx_model.specs.Histories.Files.{FileMap, Leaf}
use Rattle.gx_model.specs.Records.HistoryOf.{placed}

pub data Kept : Type 0 where
  file : Leaf Bytes → Kept
  folder : FileMap Bytes → Kept

-- a directory's entries
abbrev pub Level : Type 0
Level = List (Bytes × Kept)

-- the files of what is kept, where a file itself has the path of no components
abbrev pub kept_map : Kept → FileMap Bytes
kept_map (file x) = ([], x) ∷ []
kept_map (folder f) = f

-- the files of what may be kept
abbrev pub map_if : Option Kept → FileMap Bytes
map_if None = []
map_if (Some k) = kept_map k

-- the files below a directory's entries
abbrev pub files : Level → FileMap Bytes
files = flat_map (λ e. placed e.0 (kept_map e.1))

-- what is kept at a component
abbrev pub kept_at : Bytes → Level → Option Kept
kept_at c = lookup (same_bytes c)

-- a slash follows a directory's component
abbrev pub mark : Kept → Bytes
mark (file x) = []
mark (folder f) = 47 ∷ []

abbrev pub is_folder : Kept → Bool
is_folder (file x) = false
is_folder (folder f) = true

-- the text by which entries are ordered
abbrev pub key : Bytes → Kept → Bytes
key c k = c ++ mark k

-- whether an entry comes after a text
abbrev pub precedes : Bytes → Bytes × Kept → Bool
precedes text e = is_lt (slice_cmp nat_cmp text (key e.0 e.1))

-- whether c with k comes first
abbrev pub comes_before : Bytes → Kept → Bytes × Kept → Bool
comes_before c k = precedes (key c k)

-- another component, and later
abbrev pub IsAfter : Bytes × Kept → Bytes × Kept → Type 0
IsAfter e f = (same_bytes e.0 f.0 ≡ false) × IsTrue (comes_before e.0 e.1 f)

-- a path of at least one component
abbrev pub is_inner_path : Path → Bool
is_inner_path [] = false
is_inner_path (c ∷ p) = list_all is_component (c ∷ p)

-- the file map of a directory, though its paths may be longer than a path may be
pub record IsInner (f : FileMap Bytes) : Type 0 where
  pub paths : IsTrue (list_all (λ e. is_inner_path e.0) f)
  pub sorted : IsTrue (is_sorted path_cmp f)

-- a file is no directory, and a directory below another has a file
abbrev pub IsKept : Kept → Type 0
IsKept (file x) = x.0 ≢ Dir
IsKept (folder f) = (f ≢ []) × IsInner f

abbrev pub IsKeptAt : Option Kept → Type 0
IsKeptAt None = ⊤
IsKeptAt (Some k) = IsKept k

-- each entry has a component, and stands before the later ones
abbrev pub IsLevel : Level → Type 0
IsLevel [] = ⊤
IsLevel (e ∷ es) = IsTrue (is_component e.0) × IsKept e.1 × AllByRecursion (IsAfter e) es × IsLevel es

-- the entries but for that of c
abbrev pub others : Bytes → Level → Level
others c = filter (λ e. not (same_bytes c e.0))

-- with an entry at its place in the order
abbrev pub inserted : Bytes → Kept → Level → Level
inserted c k [] = (c, k) ∷ []
inserted c k (e ∷ es) = if comes_before c k e then (c, k) ∷ e ∷ es else e ∷ inserted c k es

-- with k at c, in place of what stood there
abbrev pub with_kept : Bytes → Kept → Level → Level
with_kept c k es = inserted c k (others c es)

-- how many components stand in a file map
abbrev pub components : FileMap Bytes → ℕ
components [] = 0
components (e ∷ f) = length e.0 + components f
