-- Marks of objects that are listed, by their numbers.
use Rattle.std.specs.Prelude.{◌≡◌, ℕ, ◌<◌, Bool, ◌&&◌, not, List, [], ◌∷◌, drop, length, map, slice_get, Some, Result, Ok, Err, ⊤}
use Rattle.std.specs.List.{AllByRecursion, flat_map}
use Rattle.gx_model.specs.declared.objects.Kind.{Kind}
use Rattle.gx_model.specs.Histories.{AreDistinct, Record}
use Rattle.gx_model.specs.Laws.StoreLaws.{IsBody}
use Rattle.gx_model.specs.Pruning.{links_of}
use Rattle.gx_model.specs.Records.Publishing.{Ref}
use Rattle.gx_model.specs.Stores.StoreText.{stored_ref}
use Rattle.gx_model.specs.Texts.{Bytes}
use Rattle.gx_objects.specs.Answers.{AreRefs}
use Rattle.gx_store.specs.Marked.{first_mark}
use Rattle.gx_repo.specs.Pruning.{MarksNames, objects_held}
use Rattle.gx_listed.specs.Listings.{HaveHeads, Listed, number_named}

-- besides those that were, the objects of these names are marked, where each object that is listed has a name of its own
abbrev pub MarksHeld : List Listed → List Bytes → List Bool → List Bool → Type 0
MarksHeld listed names old new = (records : List Record) → HaveHeads listed records → AreDistinct (map (λ held. held.name) records) → MarksNames records names old new

abbrev pub MarksListed : {E : Type 0} → List Listed → List Bytes → List Bool → List Bool → Result (Unit {0}) E → Type 0
MarksListed listed names old new (Ok done) = MarksHeld listed names old new
MarksListed listed names old new (Err fault) = ⊤

-- the object of a name has a number below a limit
abbrev pub IsBelow : List Listed → ℕ → Bytes → Type 0
IsBelow listed limit called = (number : ℕ) × (number_named listed called ≡ Some number) × (number < limit)

-- what is refused is no canonical body, or one that names an object that has no such number
abbrev pub RefusesOthers : {X E : Type 0} → List Listed → ℕ → Kind → Bytes → Result X E → Type 0
RefusesOthers listed limit kind body (Ok x) = ⊤
RefusesOthers listed limit kind body (Err fault) = IsBody kind body → AllByRecursion (IsBelow listed limit) (links_of kind body) → ⊥

-- ---- refs

-- the objects that refs hold are marked, of which these are the lines
abbrev pub MarksTips : {E : Type 0} → List Listed → Bytes → List Bool → List Bool → Result (Unit {0}) E → Type 0
MarksTips listed lines old new result = (refs : List Ref) → AreRefs refs → lines ≡ flat_map stored_ref refs → MarksListed listed (objects_held refs) old new result

-- what is refused are refs of which one holds an object that isn't listed
abbrev pub RefusesTips : {X E : Type 0} → List Listed → Bytes → Result X E → Type 0
RefusesTips listed lines (Ok x) = ⊤
RefusesTips listed lines (Err fault) = (refs : List Ref) → AreRefs refs → lines ≡ flat_map stored_ref refs → AllByRecursion (IsBelow listed (length listed)) (objects_held refs) → ⊥

-- ---- one object

-- besides those that were, the objects are marked that the record of a number names
abbrev pub SpreadsAt : List Record → ℕ → List Bool → List Bool → Type 0
SpreadsAt records number old new = (held : Record) → slice_get records number ≡ Some held → MarksNames records (links_of held.kind held.body) old new

-- ---- marks without others

-- the marks that don't stand in another list, too
abbrev pub without_marks : List Bool → List Bool → List Bool
without_marks [] others = []
without_marks (mark ∷ marks) others = (not (first_mark others) && mark) ∷ without_marks marks (drop 1 others)
