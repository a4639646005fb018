-- What is told of the paths at which two revisions differ.
use Rattle.std.specs.Prelude.{◌≡◌, Bool, true, false, List, Option, Result, Ok, Err, ⊤}
use Rattle.gx_model.specs.declared.objects.Kind.{Kind}
use Rattle.gx_model.specs.Faults.{Given, ◌>>=◌}
use Rattle.gx_model.specs.Histories.{History, Records}
use Rattle.gx_model.specs.Histories.Files.{FileMap}
use Rattle.gx_model.specs.Records.{named_map}
use Rattle.gx_model.specs.Records.HistoryOf.{named_values}
use Rattle.gx_model.specs.Texts.{Bytes}
use Rattle.gx_model.specs.Texts.Sinks.{Taken, Took}
use Rattle.gx_asks.specs.declared.question.DiffForm.{DiffForm}
use Rattle.gx_asks.specs.declared.question.DiffForm.TheVariants.{Patch}
use Rattle.gx_asks.specs.declared.question.DiffOptions.{DiffOptions}
use Rattle.gx_differences.specs.Listed.{Standing, differing}
use Rattle.gx_diff.specs.Lines.{diff_text, ends_well}
use Rattle.gx_diff.specs.Paths.{asked_of}
use Rattle.gx_object.specs.declared.name.Name.{Name}
use Rattle.gx_patch.specs.Patches.{ArePatches, IsPatch}
use Rattle.gx_rev.specs.Objects.{files_at}
use Rattle.gx_print.specs.Stored.{Refusal, files_of_word, of_word}
use Rattle.gx_told.specs.Printing.{Prints, PrintsText}
use Rattle.gx_told.specs.declared.fault.ToldFault.{ToldFault}

-- what two words give, or the refusal of the first of them that gives nothing
abbrev pub both_words : {X Y Z : Type 0} → Given X → Given Y → (X → Y → Z) → Result Z Refusal
both_words (Ok x) (Ok y) give = Ok (give x y)
both_words (Ok x) (Err fault) give = Err (of_word 2 fault)
both_words (Err fault) y give = Err (of_word 1 fault)

module _ (name : Kind → Bytes → Bytes) where
  -- what differs between two maps of files, by the names of what these hold, of the paths that are asked for
  abbrev pub asked_between : List Bytes → FileMap Bytes → FileMap Bytes → List Standing
  asked_between asked old new = asked_of asked (differing (named_map name old) (named_map name new))

  -- what differs between the trees that two words give as revisions
  abbrev pub differing_words : History → Bytes → Bytes → List Bytes → Result (List Standing) Refusal
  differing_words h old new asked = both_words (files_of_word name h old) (files_of_word name h new) (asked_between asked)

-- ---- what is printed

abbrev pub is_patch : DiffForm → Bool
is_patch Patch = true
is_patch form = false

module _ (repository : Records) where
  -- the patch of a path is printed
  abbrev pub PrintsPatch : Standing → Option Taken → Option Taken → Result (Unit {0}) ToldFault → Type 0
  PrintsPatch s was now answer = (text : Bytes) × IsPatch (named_values repository.records) s text × PrintsText text was now answer

  -- the patches of these paths are printed
  abbrev pub PrintsPatches : List Standing → Option Taken → Option Taken → Result (Unit {0}) ToldFault → Type 0
  PrintsPatches ss was now answer = (text : Bytes) × ArePatches (named_values repository.records) ss text × PrintsText text was now answer

  module _ (options : DiffOptions) where
    -- a text is what is printed of what differs: the patches, or what tells of the paths
    abbrev pub IsTextBy : Bool → List Standing → Bytes → Type 0
    IsTextBy true ss text = ArePatches (named_values repository.records) ss text
    IsTextBy false ss text = text ≡ diff_text options ss

    abbrev pub IsText : List Standing → Bytes → Type 0
    IsText ss text = IsTextBy (is_patch options.form) ss text

    -- the same, where it isn't refused
    abbrev pub IsGivenText : Result (List Standing) Refusal → Bytes → Type 0
    IsGivenText (Ok ss) text = IsText ss text
    IsGivenText (Err refusal) text = ⊤

    -- The text went out, and the answer is that of what differs. Or the refusal is answered and nothing went out, or the text
    -- was stopped.
    abbrev pub TellsDiff : Result (List Standing) Refusal → Option Taken → Option Taken → Result Bool ToldFault → Type 0
    TellsDiff given was now (Ok answer) =
        (ss : List Standing) × (given ≡ Ok ss) × (answer ≡ ends_well options ss) × ((text : Bytes) × IsText ss text × Took was now text)
    TellsDiff given was now (Err fault) = (text : Bytes) × IsGivenText given text × Prints (given >>= λ ss. Ok text) was now (Err fault)

    -- the same of what was found
    abbrev pub TellsFound : List Standing → Option Taken → Option Taken → Result Bool ToldFault → Type 0
    TellsFound ss was now (Ok answer) = (answer ≡ ends_well options ss) × ((text : Bytes) × IsText ss text × Took was now text)
    TellsFound ss was now (Err fault) = (text : Bytes) × IsText ss text × PrintsText text was now (Err fault)

    -- and of what differs between two held trees
    abbrev pub TellsTrees : (Kind → Bytes → Bytes) → Name → Name → List Bytes → Option Taken → Option Taken → Result Bool ToldFault → Type 0
    TellsTrees name old new asked =
        TellsFound (asked_between name asked (files_at repository old) (files_at repository new))

-- the same of what was found, in another form than a patch
abbrev pub TellsText : DiffOptions → List Standing → Option Taken → Option Taken → Result Bool ToldFault → Type 0
TellsText options ss was now (Ok answer) = (answer ≡ ends_well options ss) × Took was now (diff_text options ss)
TellsText options ss was now (Err fault) = PrintsText (diff_text options ss) was now (Err fault)
