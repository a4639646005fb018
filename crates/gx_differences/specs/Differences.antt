-- What differs between the files of two trees, by the names of what the files hold.
use Rattle.std.specs.Prelude.{◌≡◌, ◌≢◌, ◌++◌, ◌∷◌, ℕ, List, [], map, Option, Some, None, IsTrue, ⊤}
use Rattle.std.specs.List.{AllByRecursion}
use Rattle.gx_model.specs.declared.objects.Kind.{Kind}
use Rattle.gx_model.specs.declared.objects.Mode.TheVariants.{Dir}
use Rattle.gx_model.specs.Changes.{changed_files, gone_paths}
use Rattle.gx_model.specs.Histories.Files.{FileMap, Leaf}
use Rattle.gx_model.specs.Histories.{Records}
use Rattle.gx_model.specs.Records.{named_map}
use Rattle.gx_model.specs.Records.Sound.{IsHeldAs}
use Rattle.gx_model.specs.Texts.{Bytes}
use Rattle.gx_model.specs.Texts.Paths.{Path, is_component, is_short}
use Rattle.gx_object.specs.declared.name.Name.{Name}
use Rattle.gx_rev.specs.Objects.{files_at}
use Rattle.gx_tree.specs.Lists.{below}
use Rattle.gx_tree.specs.Nodes.{IsKept, Level, files}
use Rattle.gx_export.specs.Compared.{IsBelowIf, IsPairBelow, paths_below}
use Rattle.gx_export.specs.declared.pairs.Pair.{Pair}
use Rattle.gx_questions.specs.declared.fault.AskFault.{AskFault}
use Rattle.gx_questions.specs.declared.fault.AskFault.TheVariants.{OutOfMemory, ReadFailed, Damaged, Revision}
use Rattle.gx_differences.specs.declared.differences.ChangedFile.{ChangedFile}
use Rattle.gx_differences.specs.declared.differences.Differences.{Differences}

-- files with their paths, and the names of what they hold
abbrev pub shown_files : {A : Type 0} → List (ChangedFile A) → FileMap Bytes
shown_files changed = map (λ file. (file.path, (file.mode, file.name.bytes))) changed

-- the files of a tree that may be there, by these names
abbrev pub names_if : (Kind → Bytes → Bytes) → Records → Option Name → FileMap Bytes
names_if name repository None = []
names_if name repository (Some tree) = named_map name (files_at repository tree)

-- this is what differs between two trees that may be there
pub record AreDifferences {A : Type 0} (name : Kind → Bytes → Bytes) (old new : Option Name) (repository : Records) (found : Differences A) : Type 0 where
  pub gone : found.gone.items ≡ gone_paths (names_if name repository old) (names_if name repository new)
  pub changed : shown_files found.files.items ≡ changed_files (names_if name repository old) (names_if name repository new)

-- what a file names is held, and it is no directory
pub record IsHeldFile (repository : Records) (e : Path × Leaf Bytes) : Type 0 where
  pub file : e.1.0 ≢ Dir
  pub held : IsHeldAs repository.records e.1.0 e.1.1

abbrev pub HaveFiles : {A : Type 0} → List (ChangedFile A) → Records → Type 0
HaveFiles changed repository = AllByRecursion (IsHeldFile repository) (shown_files changed)

-- ---- what is added

-- these files and these paths stand behind those that were found before
pub record AddsFile {A : Type 0} (changed : FileMap Bytes) (gone : List Path) (before after : Differences A) : Type 0 where
  pub paths : after.gone.items ≡ before.gone.items ++ gone
  pub files : shown_files after.files.items ≡ shown_files before.files.items ++ changed

-- what differs between two maps of names, below a path
abbrev pub AddsBetween : {A : Type 0} → Path → FileMap Bytes → FileMap Bytes → Differences A → Differences A → Type 0
AddsBetween front f g before after = AddsFile (below front (changed_files f g)) (paths_below front (gone_paths f g)) before after

module _ (name : Kind → Bytes → Bytes) (room : ℕ) (front : Path) where
  -- the files of two trees that may be there; below the root they aren't both without files
  pub record AreFiles (old new : Option Bytes) (repository : Records) (f g : FileMap Bytes) : Type 0 where
    pub olds : IsBelowIf name repository room front old f
    pub news : IsBelowIf name repository room front new g
    pub some : front ≢ [] → f ≡ [] → g ≡ [] → ⊥

  abbrev pub AreTrees : Option Bytes → Option Bytes → Records → Type 0
  AreTrees old new repository = (f : FileMap Bytes) × ((g : FileMap Bytes) × AreFiles old new repository f g)

  -- what differs between their files is added
  abbrev pub ComparesTrees : {A : Type 0} → Option Bytes → Option Bytes → Differences A → Differences A → Records → Type 0
  ComparesTrees old new before after repository =
      (f g : FileMap Bytes) → IsBelowIf name repository room front old f → IsBelowIf name repository room front new g → AddsBetween front f g before after

  -- what two such trees have at one component: no directory is without files
  pub record IsPairAt (pair : Pair) (repository : Records) (p : Level × Level) : Type 0 where
    pub held : IsPairBelow name repository room front pair p
    pub olds : AllByRecursion (λ e. IsKept e.1) p.0
    pub news : AllByRecursion (λ e. IsKept e.1) p.1

  abbrev pub ArePair : Pair → Records → Type 0
  ArePair pair repository = (p : Level × Level) × IsPairAt pair repository p

  abbrev pub ComparesPair : {A : Type 0} → Pair → Differences A → Differences A → Records → Type 0
  ComparesPair pair before after repository =
      (p : Level × Level) → IsPairBelow name repository room front pair p → AddsBetween front (files p.0) (files p.1) before after

-- ---- paths

-- memory wants, or a component below a path gives no path
abbrev pub IsNoChild : Path → Bytes → AskFault → Type 0
IsNoChild front component OutOfMemory = ⊤
IsNoChild front component Damaged = IsTrue (is_component component) → IsTrue (is_short (front ++ component ∷ [])) → ⊥
IsNoChild front component ReadFailed = ⊥
IsNoChild front component (Revision fault) = ⊥
