-- What a line of a batch with commands asks, and how a text that is printed answers it.
-- Source: git-cat-file(1), "--batch-command", which has `contents`, `info` and `flush`. git ends at a line that it doesn't know; here the
-- next one is answered.
use Rattle.std.specs.Prelude.{◌-◌, Bool, true, false, nat_eq, if◌then◌else◌, List, [], ◌∷◌, ◌++◌, length, drop, codes, Option, Some, None, Ok, Err}
use Rattle.std.specs.Fmt.{decimal}
use Rattle.std.specs.List.{starts_with}
use Rattle.std.specs.Map.{lookup}
use Rattle.std.specs.Option.{option_map}
use Rattle.gx_model.specs.declared.faults.Fault.{Fault}
use Rattle.gx_model.specs.Objects.{line}
use Rattle.gx_model.specs.Texts.{Bytes, cut_at, same_bytes}
use Rattle.gx_asks.specs.declared.question.CommitFilter.{CommitFilter}
use Rattle.gx_asks.specs.declared.question.LogFormat.TheVariants.{Names}
use Rattle.gx_asks.specs.declared.question.LogOptions.{LogOptions}
use Rattle.gx_print.specs.Stored.{Printed, of_word}
use Rattle.gx_print.specs.Words.{word_at, words_in}
use Rattle.gx_print.specs.declared.asked.Asked.{Asked as Line}
use Rattle.gx_print.specs.declared.asked.Asked.TheVariants as asks

-- ---- what a line asks

-- the object of a revision with its bytes, or by its line alone; that what was answered goes out; what a command of gx prints of these
-- words; or none of them
pub data Asked : Type 0 where
  contents : Bytes → Asked
  info : Bytes → Asked
  flush : Asked
  refs : Asked
  ls : Bool → Bytes → Asked
  archive : Bytes → Asked
  log : List Bytes → Asked
  rev_parse : List Bytes → Asked
  unknown : Asked

-- `ls` with what stands behind it: a revision, and behind `-r ` one whose files are asked for
abbrev pub ls_by : Bytes → Asked
ls_by rest = if starts_with nat_eq rest (codes "-r ") then ls true (drop 3 rest) else (if same_bytes rest (codes "-r") then unknown else ls false rest)

-- the commands that stand alone
abbrev pub commands_alone : List (Bytes × Asked)
commands_alone = (codes "flush", flush) ∷ (codes "refs", refs) ∷ []

-- the commands that have something behind them: a revision, which is the rest of the line, or words
abbrev pub commands_with : List (Bytes × (Bytes → Asked))
commands_with =
    (codes "contents", contents) ∷ (codes "info", info) ∷ (codes "ls", ls_by) ∷ (codes "archive", archive) ∷ (codes "log", λ rest. log (words_in rest))
    ∷ (codes "rev-parse", λ rest. rev_parse (words_in rest)) ∷ []

abbrev pub or_unknown : Option Asked → Asked
or_unknown (Some asked) = asked
or_unknown None = unknown

-- what a command asks, alone, or with what stands behind it
abbrev pub asked_alone : Bytes → Asked
asked_alone command = or_unknown (lookup (same_bytes command) commands_alone)

abbrev pub asked_with : Bytes → Bytes → Asked
asked_with command rest = or_unknown (option_map (λ ask. ask rest) (lookup (same_bytes command) commands_with))

-- what a line asks: its first space stands behind its command
abbrev pub asked_by : Bytes → Option (Bytes × Bytes) → Asked
asked_by text None = asked_alone text
asked_by text (Some p) = asked_with p.0 p.1

abbrev pub asked_of : Bytes → Asked
asked_of text = asked_by text (cut_at 32 text)

-- what a line asks, as the code has it
abbrev pub shown_asked : Line → Asked
shown_asked (asks.Contents revision) = contents revision.now
shown_asked (asks.Info revision) = info revision.now
shown_asked asks.Flush = flush
shown_asked asks.Refs = refs
shown_asked (asks.List recursive revision) = ls recursive revision.now
shown_asked (asks.Archive revision) = archive revision.now
shown_asked (asks.Log rest) = log (words_in rest.now)
shown_asked (asks.Names rest) = rev_parse (words_in rest.now)
shown_asked asks.Unknown = unknown

-- ---- what is answered

-- a text behind a line of its command and its length, and an LF behind it
abbrev pub printed_answer : Bytes → Bytes → Bytes
printed_answer command text = line command (decimal (length text)) ++ (text ++ 10 ∷ [])

-- what a command prints of these words, or the word that is refused, and why, as that is told
abbrev pub answered_by : (Fault → Bytes) → Bytes → List Bytes → Printed → Bytes
answered_by reason command words (Ok text) = printed_answer command text
answered_by reason command words (Err (of_word number fault)) = line (word_at words number) (reason fault)

-- no commit is left out
abbrev pub all_commits : CommitFilter
all_commits = record { merges = false; no_merges = false; since = None; until = None }

-- the options of `log` in a line
abbrev pub no_options : LogOptions
no_options =
    record { reverse = false; only = all_commits; skip = None; max_count = None; count = false; parents = false; all = false; stdin = false; format = Names }
