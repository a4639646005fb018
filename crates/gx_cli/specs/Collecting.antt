-- What a store answers once the objects are gone that no ref reaches, and how much went.
-- Source: git-gc(1) and git-prune(1).
use Rattle.std.specs.Prelude.{◌≡◌, ◌⊎◌, ℕ, ◌+◌, ◌&&◌, false, nat_eq, length, List, [], ◌∷◌, Option, None, Result, Ok, Err, Some, IsTrue, ⊤}
use Rattle.std.specs.List.{AllByRecursion, filter, list_any}
use Rattle.std.specs.declared.vec.Vec.{Vec}
use Rattle.gx_model.specs.declared.objects.Kind.{Kind}
use Rattle.gx_model.specs.Texts.{Bytes, same_bytes}
use Rattle.gx_model.specs.Histories.{History, IsIn, Reaches, Records, Target}
use Rattle.gx_model.specs.Histories.Values.{Value}
use Rattle.gx_model.specs.Laws.ExportLaws.{IsReached}
use Rattle.gx_model.specs.Laws.PruningLaws.{GivesReached, HasReached, IsPruned}
use Rattle.gx_model.specs.Objects.Naming.{name_in}
use Rattle.gx_model.specs.Pruning.{pruned}
use Rattle.gx_model.specs.Records.{name_of}
use Rattle.gx_model.specs.Records.HistoryOf.{history_of}
use Rattle.gx_model.specs.Records.Sound.{IsSound}
use Rattle.gx_model.specs.Revisions.{AllParents, Alone, Apart, Between, RangeWord, Revision, WithAncestors, WithoutAncestors, WithoutOne}
use Rattle.gx_model.specs.Revisions.Denotation.{are_digits, denoted, find_ref}
use Rattle.gx_model.specs.Revisions.Ranges.{listed}
use Rattle.gx_model.specs.Stores.StoreReading.{Stored}
use Rattle.gx_model.specs.declared.store_faults.FileFault.{FileFault}
use Rattle.gx_model.specs.declared.store_faults.FileFault.TheVariants as file
use Rattle.gx_object.specs.Commits.{bytes_of_names}
use Rattle.gx_object.specs.declared.name.Name.{Name}
use Rattle.gx_repo.specs.Pruning.{is_kept_beside, pruned_beside, weight}
use Rattle.gx_repo.specs.declared.pruning.Pruned.{Pruned}
use Rattle.gx_cli.specs.declared.fault.CliFault.{CliFault}
use Rattle.gx_cli.specs.declared.fault.CliFault.TheVariants.{Keep, OutOfMemory, Store}

-- ---- names to keep

-- a line's name before those of the lines behind it
abbrev pub name_before : Option Bytes → Result (List Bytes) ℕ → Result (List Bytes) ℕ
name_before None rest = Err 1
name_before (Some name) (Ok names) = Ok (name ∷ names)
name_before (Some name) (Err number) = Err (number + 1)

-- the names that lines of 40 digits give, or the number, from 1, of the first line that isn't that
abbrev pub kept_names : List Bytes → Result (List Bytes) ℕ
kept_names [] = Ok []
kept_names (l ∷ lines) = name_before (name_in l) (kept_names lines)

-- these names are given, or a line that is none is told; memory may run out whatever the lines are
abbrev pub GivesNames : {A : Type 0} → Result (List Bytes) ℕ → Result (Vec Name A) CliFault → Type 0
GivesNames given (Ok names) = given ≡ Ok (bytes_of_names names.items)
GivesNames given (Err OutOfMemory) = ⊤
GivesNames given (Err (Keep number)) = given ≡ Err number
GivesNames given (Err fault) = ⊥

-- ---- what went, and what is left

-- so many objects went, with so many bytes in their bodies
pub record HaveGone (old new : Records) (gone : Pruned) : Type 0 where
  pub objects : gone.objects + length new.records ≡ length old.records
  pub bytes : gone.bytes + weight new.records ≡ weight old.records

module _ (name : Kind → Bytes → Bytes) where
  -- A ref that is found gives what refs reach, unless its name could be an object's. A revision whose base gives that shows what
  -- it showed, be it a fault, and ranges of such revisions list what they listed.
  pub record AnswersAlike (old new : Records) : Type 0 where
    pub by_ref : (base : Bytes) (target : Target) → find_ref (history_of old) base ≡ Some target → (are_digits name base && nat_eq (length base) 40) ≡ false
        → GivesReached name (history_of old) base
    pub revisions : (revision : Revision) → GivesReached name (history_of old) revision.base → denoted name (history_of new) revision ≡ denoted name (history_of old) revision
    pub ranges : (words : List RangeWord) → AllByRecursion (HasReached name (history_of old)) words → listed name (history_of new) words ≡ listed name (history_of old) words

  -- A repository with the objects alone that its refs reach is sound. Its history has exactly the values that refs reach, in
  -- their order, under the same refs, and it answers as before.
  pub record IsCollected (old new : Records) : Type 0 where
    pub left : new ≡ pruned old
    pub sound : IsSound name new
    pub history : IsPruned (history_of old) (history_of new)
    pub answers : AnswersAlike old new

  -- a base is the name of a ref that is found, and couldn't be an object's
  abbrev pub IsOfRef : History → Bytes → Type 0
  IsOfRef history base = (target : Target) × (find_ref history base ≡ Some target) × ((are_digits name base && nat_eq (length base) 40) ≡ false)

  -- the bases of a word's revisions are
  abbrev pub HasRefs : History → RangeWord → Type 0
  HasRefs history (WithAncestors r) = IsOfRef history r.base
  HasRefs history (WithoutAncestors r) = IsOfRef history r.base
  HasRefs history (Between a b) = IsOfRef history a.base × IsOfRef history b.base
  HasRefs history (Apart a b) = IsOfRef history a.base × IsOfRef history b.base
  HasRefs history (AllParents r) = IsOfRef history r.base
  HasRefs history (Alone r) = IsOfRef history r.base
  HasRefs history (WithoutOne r n) = IsOfRef history r.base

  -- a revision by a ref shows what it showed, be it a fault, and ranges of such revisions list what they listed
  pub record AnswersByRefs (old new : Records) : Type 0 where
    pub revisions : (revision : Revision) → IsOfRef (history_of old) revision.base → denoted name (history_of new) revision ≡ denoted name (history_of old) revision
    pub ranges : (words : List RangeWord) → AllByRecursion (HasRefs (history_of old)) words → listed name (history_of new) words ≡ listed name (history_of old) words

  -- the history with the values alone whose objects the refs or the objects of these names reach
  abbrev pub kept_history : List Bytes → Records → History
  kept_history names old = record { values = filter (λ value. is_kept_beside names old (name_of name value)) (history_of old).values; refs = (history_of old).refs }

  -- A repository with the objects alone that its refs or the objects of these names reach is sound. Its history has their values,
  -- in their order, under the same refs. So it has what refs reach, and the objects of these names with all that they reach, and
  -- it answers by refs as before.
  pub record IsCollectedBeside (names : List Bytes) (old new : Records) : Type 0 where
    pub left : new ≡ pruned_beside names old
    pub sound : IsSound name new
    pub history : history_of new ≡ kept_history names old
    pub reached : (value : Value) → IsReached (history_of old) value → IsIn (history_of new).values value
    pub named : (held value : Value) → IsIn (history_of old).values held → IsTrue (list_any (same_bytes (name_of name held)) names) → Reaches held value → IsIn (history_of new).values value
    pub answers : AnswersByRefs old new

module _ {N : Type 0} (name_of : N → Kind → Bytes → Bytes) (namer : N) where
  -- what is left of a repository, and how much went, unless memory ran out; without names no more is left than refs reach
  abbrev pub CollectsOpened : List Bytes → Records → Result ((N × Records) × Pruned) CliFault → Type 0
  CollectsOpened names old (Ok answer) =
      (answer.0.0 ≡ namer) × IsCollectedBeside (name_of namer) names old answer.0.1 × HaveGone old answer.0.1 answer.1 × (names ≡ [] → IsCollected (name_of namer) old answer.0.1)
  CollectsOpened names old (Err fault) = fault ≡ OutOfMemory

  -- the same of the store that a text was read as
  abbrev pub CollectsStored : List Bytes → Stored Records → Result ((N × Records) × Pruned) CliFault → Type 0
  CollectsStored names (Ok old) answer = (answer ≡ Err (Store file.OutOfMemory)) ⊎ CollectsOpened names old answer
  CollectsStored names (Err f) answer = (why : FileFault) × ((why ≡ file.OutOfMemory) ⊎ (f ≡ why)) × (answer ≡ Err (Store why))

  -- what is left besides what names of lines keep, or the number of the first line that is no name
  abbrev pub CollectsNamed : Result (List Bytes) ℕ → Stored Records → Result ((N × Records) × Pruned) CliFault → Type 0
  CollectsNamed (Ok names) stored answer = (answer ≡ Err OutOfMemory) ⊎ CollectsStored names stored answer
  CollectsNamed (Err number) stored answer = (answer ≡ Err OutOfMemory) ⊎ (answer ≡ Err (Keep number))
