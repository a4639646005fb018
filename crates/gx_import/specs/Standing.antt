-- How what an import holds stands to the state of its replay: names in place of values that stand in the history.
use Rattle.std.specs.Prelude.{◌≡◌, ◌⊎◌, ◌||◌, ℕ, Bool, false, nat_eq, is_some, List, [], ◌++◌, Option, Some, None, Result, IsTrue, IfOk, IfSome, ⊤}
use Rattle.std.specs.List.{AllByRecursion, list_all}
use Rattle.std.specs.Map.{lookup}
use Rattle.std.specs.Option.{option_map_or}
use Rattle.std.specs.FinMap.Entries.{is_sorted}
use Rattle.gx_model.specs.declared.objects.Kind.{Kind}
use Rattle.gx_model.specs.declared.objects.Mode.{Mode}
use Rattle.gx_model.specs.Texts.{Bytes, byte_cmp, same_bytes}
use Rattle.gx_model.specs.Texts.RefNames.{is_ref_name, tag_ref}
use Rattle.gx_model.specs.Histories.Values.{Commit, Tag, Value, blob_of, files_of, is_leaf}
use Rattle.gx_model.specs.Records.{content_name, named_map}
use Rattle.gx_model.specs.Histories.{IsIn, Record, Records, Target}
use Rattle.gx_model.specs.Records.HistoryOf.{history_of}
use Rattle.gx_model.specs.Replay.{State}
use Rattle.gx_object.specs.declared.name.Name.{Name}
use Rattle.gx_tree.specs.Homes.{IfThere}
use Rattle.gx_tree.specs.Loaded.{AreLoaded, AreLoadedAnywhere}
use Rattle.gx_tree.specs.Named.{NamedTree, IsAtHome}
use Rattle.gx_repo.specs.Repositories.{Repository}
use Rattle.gx_import.specs.Marks.{object_at}
use Rattle.gx_import.specs.Objects.{IsCommitOf, IsOf, IsTagOf}
use Rattle.gx_import.specs.Rows.{AreBoth, AreRows, has_row}
use Rattle.gx_import.specs.declared.marks.Marks.{Marks}
use Rattle.gx_import.specs.declared.branches.Tip.{Tip}
use Rattle.gx_import.specs.declared.tables.Tables.{Tables}

-- these records, and more behind them
abbrev pub Extends : List Record → List Record → Type 0
Extends old new = (rest : List Record) × (new ≡ old ++ rest)

-- records may come behind those that stand, and nothing else changes
pub record OnlyAdds {N : Type 0} (old new : Repository N) : Type 0 where
  pub namer : new.0 ≡ old.0
  pub refs : new.1.refs ≡ old.1.refs
  pub extends : Extends old.1.records new.1.records

-- a branch of this name was published with a commit
abbrev pub is_published : {A : Type 0} → List (Bytes × Tip A) → Bytes → Bool
is_published branches called = option_map_or (λ tip. tip.was_published) (lookup (same_bytes called) branches) false

-- where a branch stands behind a checkpoint
abbrev pub published_tip : {A : Type 0} → Tip A → Tip A
published_tip tip = record tip { was_published = tip.was_published || is_some tip.commit }

-- where a branch of this name stands that moves, among these branches
abbrev pub tip_at : {A : Type 0} → Option Name → Option NamedTree → List (Bytes × Tip A) → Bytes → Tip A
tip_at commit files branches called = record { commit = commit; files = files; was_published = is_published branches called }

-- The refs that were published, each once: they are the branches that were published with a commit, and tags.
pub record ArePublished {A : Type 0} (refs : List (Bytes × Target)) (tags : List (Bytes × Tag)) (branches : List (Bytes × Tip A)) : Type 0 where
  pub sorted : IsTrue (is_sorted byte_cmp refs)
  pub branch : (called : Bytes) → IsTrue (is_published branches called) → IsTrue (has_row refs called)
  pub either : (called : Bytes) → IsTrue (has_row refs called) → IsTrue (is_published branches called || has_row tags called)

module _ (name : Kind → Bytes → Bytes) where
  -- the objects of marks are their values
  abbrev pub AreMarks : {A : Type 0} → List Value → List (ℕ × Value) → Marks A → Type 0
  AreMarks values marked marks = (number : ℕ) → AreBoth (IsOf name values) (lookup (nat_eq number) marked) (object_at marks number)

  -- in this state a name is that of a file's content of this mode, whose bytes stand in the history
  pub record IsContentName (before : State) (given : State × Bytes) (mode : Mode) (called : Name) : Type 0 where
    pub same : given.0 ≡ before
    pub leaf : IsTrue (is_leaf mode given.1)
    pub named : called.bytes ≡ content_name name mode given.1
    pub known : IfSome (blob_of mode given.1) (IsIn before.history.values)

  -- a tree has the files of a commit, by their names
  abbrev pub HasFilesOf : Commit → NamedTree → Type 0
  HasFilesOf revision tree = tree.files ≡ named_map name (files_of revision)

  -- files at hand are those of the commit
  abbrev pub AreTipFiles : Option Commit → Option NamedTree → Type 0
  AreTipFiles revision None = ⊤
  AreTipFiles None (Some tree) = ⊥
  AreTipFiles (Some revision) (Some tree) = HasFilesOf revision tree

  -- where a branch stands
  pub record IsTip {A : Type 0} (values : List Value) (revision : Option Commit) (tip : Tip A) : Type 0 where
    pub commit : AreBoth (IsCommitOf name values) revision tip.commit
    pub files : AreTipFiles revision tip.files

  -- the repository and the tables of an import stand for the state of a replay
  pub record Stands {A : Type 0} (repository : Records) (tables : Tables A) (state : State) : Type 0 where
    pub history : history_of repository ≡ state.history
    pub marks : AreMarks state.history.values state.marks tables.marks
    pub branches : AreRows (IsTip state.history.values) state.branches tables.branches
    pub tags : AreRows (IsTagOf name state.history.values) state.tags tables.tags
    pub ref_names : IsTrue (list_all (λ branch. is_ref_name branch.0) state.branches)
    pub own : AllByRecursion (λ tag. tag.0 ≡ tag_ref tag.1.name) state.tags
    pub forced : state.is_forced ≡ tables.is_forced
    pub published : ArePublished state.published state.tags tables.branches

  -- a state that comes after another stands for the repository and the tables, and no progress came between them
  pub record Follows {A : Type 0} (repository : Records) (tables : Tables A) (before : State) (state : State) : Type 0 where
    pub stands : Stands repository tables state
    pub progress : state.progress ≡ before.progress
    pub held : state.held ≡ before.held

-- what is left of a branch where its files may have been taken
abbrev pub IsTaken : {A : Type 0} → Tip A → Tip A → Type 0
IsTaken old new =
    (new.commit ≡ old.commit) × (new.was_published ≡ old.was_published) × ((new.files ≡ old.files) ⊎ (new.files ≡ None))

-- a branch stands at this commit, and has these files at hand
abbrev pub HasFiles : {A : Type 0} → Tip A → Name → NamedTree → Type 0
HasFiles tip called files = (tip.commit ≡ Some called) × (tip.files ≡ Some files)

-- these files were those of this commit, at a branch of this name
abbrev pub WereFiles : {A : Type 0} → List (Bytes × Tip A) → Bytes → Name → NamedTree → Type 0
WereFiles {A} branches branch called files = (tip : Tip A) × (lookup (same_bytes branch) branches ≡ Some tip) × HasFiles tip called files

-- these files are those of this commit, at some branch
abbrev pub AreAtSomeBranch : {A : Type 0} → List (Bytes × Tip A) → Name → NamedTree → Type 0
AreAtSomeBranch branches called files = (branch : Bytes) × WereFiles branches branch called files

-- the files at hand at each branch are at home among these records, and the trees that are loaded are loaded from them
pub record AreTipsAtHome {A : Type 0} (name : Kind → Bytes → Bytes) (rs : List Record) (tables : Tables A) : Type 0 where
  pub tips : AllByRecursion (λ row. IfThere IsAtHome name rs row.1.files) tables.branches
  pub loaded : AreLoaded name rs tables.loaded

module _ {N : Type 0} (names : N → Kind → Bytes → Bytes) (repository : Repository N) {A : Type 0} where
  -- the repository and the tables stand for some state of a replay
  abbrev pub StandsForSome : Tables A → Type 0
  StandsForSome tables = (s : State) × Stands (names repository.0) repository.1 tables s

  -- the tables stand for each state that they stood for
  abbrev pub KeepsStanding : Tables A → Tables A → Type 0
  KeepsStanding old new = (s : State) → Stands (names repository.0) repository.1 old s → Stands (names repository.0) repository.1 new s

  -- what is at hand at the branches, and what is loaded, is at home in the repository
  abbrev pub HasTipsAtHome : Tables A → Type 0
  HasTipsAtHome tables = AreTipsAtHome (names repository.0) repository.1.records tables

  -- the files at hand at each branch are at home in the repository, where they were
  abbrev pub TipsStayAtHome : Tables A → Tables A → Type 0
  TipsStayAtHome old new = HasTipsAtHome old → HasTipsAtHome new

  -- where the files at hand at each branch are at home in the repository, the files that are given are
  abbrev pub GivesFilesAtHome : {E : Type 0} → Tables A → Result NamedTree E → Type 0
  GivesFilesAtHome tables answer = HasTipsAtHome tables → IfOk answer (IsAtHome (names repository.0) repository.1.records)

-- the files are at home in the new repository, where they were in the old one
abbrev pub StayAtHome : {N : Type 0} → (N → Kind → Bytes → Bytes) → Repository N → Repository N → NamedTree → NamedTree → Type 0
StayAtHome names old new was now = IsAtHome (names old.0) old.1.records was → IsAtHome (names old.0) new.1.records now

-- no marks, no branches, no tags, and nothing loaded but what stands in any repository
pub record AreEmpty {A : Type 0} (tables : Tables A) : Type 0 where
  pub marks : (number : ℕ) → object_at tables.marks number ≡ None
  pub branches : tables.branches ≡ []
  pub tags : tables.tags ≡ []
  pub loaded : AreLoadedAnywhere tables.loaded
