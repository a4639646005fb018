-- What `log` prints of a store, also where its words come from a source. Source: git-log(1), and git-rev-list(1), `--stdin`.
use Rattle.std.specs.Prelude.{◌≡◌, ℕ, Bool, true, false, not, List, [], ◌∷◌, ◌++◌, Option, Some, None, Result, Ok, Err}
use Rattle.std.specs.List.{flat_map}
use Rattle.gx_model.specs.declared.objects.Kind.{Kind}
use Rattle.gx_model.specs.Faults.{◌>>=◌}
use Rattle.gx_model.specs.Histories.{History, Records}
use Rattle.gx_model.specs.Histories.Values.{Commit}
use Rattle.gx_model.specs.Records.HistoryOf.{history_of}
use Rattle.gx_model.specs.Objects.{hex}
use Rattle.gx_model.specs.Revisions.{RangeWord}
use Rattle.gx_model.specs.Texts.{Bytes}
use Rattle.gx_model.specs.Texts.Sinks.{Taken}
use Rattle.gx_text.specs.Devices.{Coming}
use Rattle.gx_stream.specs.Heard.{heard}
use Rattle.gx_batch.specs.Lines.{lines_from}
use Rattle.gx_batch.specs.declared.ending.LineEnding.TheVariants.{Lf}
use Rattle.gx_object.specs.declared.name.Name.{Name}
use Rattle.gx_asks.specs.declared.question.LogFormat.{LogFormat}
use Rattle.gx_asks.specs.declared.question.LogFormat.TheVariants.{Names}
use Rattle.gx_asks.specs.declared.question.LogOptions.{LogOptions}
use Rattle.gx_print.specs.Logs.{chosen, commits_logged, commits_text, entries_text, log_text}
use Rattle.gx_print.specs.Stored.{Printed, all_words}
use Rattle.gx_ranges.specs.Listings.{StillLists}
use Rattle.gx_ranges.specs.declared.walking.CommitWalk.{CommitWalk}
use Rattle.gx_told.specs.Choosing.{StillTakes, choice_of}
use Rattle.gx_told.specs.Printing.{Prints, PrintsText}
use Rattle.gx_told.specs.declared.fault.ToldFault.{ToldFault}
use Rattle.gx_told.specs.declared.fault.ToldFault.TheVariants.{OutOfMemory, ReadFailed}

module _ (name : Kind → Bytes → Bytes) (options : LogOptions) where
  -- what is printed of the commits that ranges list
  abbrev pub ranges_text : History → List RangeWord → Printed
  ranges_text h ws = all_words (commits_logged name h options.all ws >>= λ commits. Ok (commits_text name options (chosen name options commits)))

  -- What is printed where a source brings words, too, behind those that are given, and then it ends or fails. Where it fails,
  -- nothing is.
  abbrev pub LogsRead : Records → List Bytes → Bool → Option Taken → Option Taken → Result (Unit {0}) ToldFault → Type 0
  LogsRead repository words fails was now (Err ReadFailed) = (fails ≡ true) × (now ≡ was)
  LogsRead repository words fails was now (Err OutOfMemory) = Prints (log_text name options (history_of repository) words) was now (Err OutOfMemory)
  LogsRead repository words fails was now answer = (fails ≡ false) × Prints (log_text name options (history_of repository) words) was now answer

  -- What is printed of a repository, and where they are asked for the lines of a source are words, too: of one that tells nothing
  -- those of some text.
  abbrev pub LogsFrom : Bool → Records → List Bytes → Option Coming → Option Taken → Option Taken → Result (Unit {0}) ToldFault → Type 0
  LogsFrom false repository words coming was now answer = Prints (log_text name options (history_of repository) words) was now answer
  LogsFrom true repository words None was now answer = (c : Coming) × LogsRead repository (words ++ lines_from Lf c) c.fails was now answer
  LogsFrom true repository words (Some c) was now answer = LogsRead repository (words ++ lines_from Lf (heard c)) (heard c).fails was now answer

-- ---- a walk

-- of the commits that a walk still lists those that are chosen are printed, or how many they are
abbrev pub PrintsWalk : {A : Type 0} → (Kind → Bytes → Bytes) → (ℕ → ℕ) → LogOptions → CommitWalk A → Option Taken → Option Taken → Records → Result (Unit {0}) ToldFault → Type 0
PrintsWalk name stands options walk was now repository result =
    (commits : List Commit) → StillLists stands repository walk commits → PrintsText (commits_text name options (chosen name options commits)) was now result

-- the commits that are still to be taken are printed
abbrev pub PrintsTaken : {A : Type 0} → (Kind → Bytes → Bytes) → (ℕ → ℕ) → LogOptions → CommitWalk A → Option Taken → Option Taken → Records → Result (Unit {0}) ToldFault → Type 0
PrintsTaken name stands options walk was now repository result =
    (commits : List Commit) → StillTakes name stands repository walk (choice_of options) commits → PrintsText (entries_text name options commits) was now result

-- ---- names alone

-- whether nothing but names is asked for
abbrev pub is_of_names : LogFormat → Bool → Bool
is_of_names Names parents = not parents
is_of_names format parents = false

abbrev pub are_names : LogOptions → Bool
are_names options = is_of_names options.format options.parents

-- the digits of a name in a line
abbrev pub name_line : Bytes → Bytes
name_line called = hex called ++ 10 ∷ []

-- names, each in a line
abbrev pub name_lines : List Name → Bytes
name_lines names = flat_map (λ called. name_line called.bytes) names
