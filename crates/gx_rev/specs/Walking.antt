-- What range words include and exclude, as marks, and what a walk answers.
use Rattle.std.specs.Prelude.{◌≡◌, ℕ, Bool, not, ◌&&◌, IfErr, IsOk, List, [], map, reverse, Result, Ok, Err, slice_index_or, false}
use Rattle.std.specs.List.{filter, filter_map, list_any}
use Rattle.std.specs.declared.vec.Vec.{Vec}
use Rattle.gx_model.specs.declared.faults.Fault.{Fault}
use Rattle.gx_model.specs.declared.faults.Fault.TheVariants as model
use Rattle.gx_model.specs.declared.objects.Kind.{Kind}
use Rattle.gx_model.specs.Texts.{Bytes}
use Rattle.gx_model.specs.Faults.{IsFaultOf}
use Rattle.gx_model.specs.Histories.Values.{Commit, commit_of, commit_value}
use Rattle.gx_model.specs.Records.HistoryOf.{history_of}
use Rattle.gx_model.specs.Records.{name_of}
use Rattle.gx_model.specs.Revisions.{RangeWord}
use Rattle.gx_model.specs.Histories.{Records}
use Rattle.gx_model.specs.Histories.Marks.{marks_of}
use Rattle.gx_model.specs.Laws.RangeLaws.{is_excluded}
use Rattle.gx_model.specs.Laws.RepositoryLaws.{values_of}
use Rattle.gx_model.specs.Revisions.Ranges.{Word, WordFault, listed, span, word_denoted, words_denoted}
use Rattle.gx_object.specs.declared.name.Name.{Name}
use Rattle.gx_rev.specs.declared.fault.RevFault.{RevFault}
use Rattle.gx_rev.specs.declared.fault.RevFault.TheVariants.{OutOfMemory}
use Rattle.gx_rev.specs.declared.fault.WalkFault.{WalkFault}
use Rattle.gx_rev.specs.RevFaults.{fault_of}
use Rattle.gx_rev.specs.Tips.{AddsTips, AreTips}

-- to these two lists of tips come those of what a word includes and of what it excludes; or why it is refused
abbrev pub MarksWord : (Kind → Bytes → Bytes) → Records → RangeWord → List Bool × List Bool → List Bool × List Bool → Result (Unit {0}) RevFault → Type 0
MarksWord name repository asked old new (Ok _) = (word : Word) × (word_denoted name (history_of repository) asked ≡ Ok word)
    × AddsTips repository (span word).included old.0 new.0 × AddsTips repository (span word).excluded old.1 new.1
MarksWord name repository asked old new (Err e) = IsFaultOf (fault_of e) (word_denoted name (history_of repository) asked)

-- the places that the one list marks and the other doesn't
abbrev pub AreWithout : List Bool → List Bool → List Bool → Type 0
AreWithout new marks others = (place : ℕ) → slice_index_or new place false ≡ (slice_index_or marks place false && not (slice_index_or others place false))

-- The names are those of the commits that pass the one test and not the other, the newest made first, where these are marked.
abbrev pub AreListed : {A : Type 0} → (Kind → Bytes → Bytes) → Records → List Bool → List Bool → Vec Name A → Type 0
AreListed name repository included excluded names = (wanted unwanted : Commit → Bool)
    → included ≡ marks_of wanted (values_of repository) → excluded ≡ marks_of unwanted (values_of repository)
    → map (λ called. called.bytes) names.items
    ≡ map (λ made. name_of name (commit_value made))
    (filter (λ made. wanted made && not (unwanted made)) (reverse (filter_map commit_of (values_of repository))))

-- a word's number and its fault; want of memory is of no word
abbrev pub IsWordFault : ℕ → Fault → Result (List Bytes) WordFault → Type 0
IsWordFault word model.OutOfMemory given = word ≡ 0
IsWordFault word f given = given ≡ Err (record { word = word; fault = f })

-- memory may want only where no word is refused
abbrev pub WordsComeFirst : {A B : Type 0} → Result A WalkFault → Result B WordFault → Type 0
WordsComeFirst result given = IfErr result (λ fault. fault.kind ≡ OutOfMemory → IsOk given)

-- the names that are listed, or the first word that is refused
abbrev pub GivesNames : {A : Type 0} → Result (Vec Name A) WalkFault → Result (List Bytes) WordFault → Type 0
GivesNames (Ok names) given = given ≡ Ok (map (λ called. called.bytes) names.items)
GivesNames (Err e) given = IsWordFault e.word (fault_of e.kind) given

-- the fault of a word, and want of memory
abbrev pub refused_at : ℕ → RevFault → WalkFault
refused_at word OutOfMemory = record { word = 0; kind = OutOfMemory }
refused_at word kind = record { word = word; kind = kind }

-- whether some word includes a commit
abbrev pub is_included : List Word → Commit → Bool
is_included words made = list_any (λ word. (span word).included made) words

module _ (name : Kind → Bytes → Bytes) (repository : Records) (asked : List RangeWord) where
  -- the commits that words include and those that they exclude are marked; or the first word that is refused
  abbrev pub MarksOfWords : List Bool → List Bool → Result (Unit {0}) WalkFault → Type 0
  MarksOfWords included excluded (Ok _) = (words : List Word) × (words_denoted name (history_of repository) asked ≡ Ok words)
      × (included ≡ marks_of (is_included words) (values_of repository)) × (excluded ≡ marks_of (is_excluded words) (values_of repository))
  MarksOfWords included excluded (Err e) = IsWordFault e.word (fault_of e.kind) (listed name (history_of repository) asked)

  -- the same marks as they are answered
  abbrev pub MarksWords : {A : Type 0} → Result (Vec Bool A × Vec Bool A) WalkFault → Type 0
  MarksWords (Ok marks) = MarksOfWords marks.0.items marks.1.items (Ok tt)
  MarksWords (Err e) = MarksOfWords [] [] (Err e)

  -- the same, by tips
  abbrev pub TipsOfWords : List Bool → List Bool → Result (Unit {0}) WalkFault → Type 0
  TipsOfWords included excluded (Ok _) = (words : List Word) × (words_denoted name (history_of repository) asked ≡ Ok words)
      × AreTips repository (is_included words) included × AreTips repository (is_excluded words) excluded
  TipsOfWords included excluded (Err e) = IsWordFault e.word (fault_of e.kind) (listed name (history_of repository) asked)
