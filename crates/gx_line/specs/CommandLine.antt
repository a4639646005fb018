-- The command line of gx: what clap is told of it, and what a line says of the words that clap took.
use Rattle.std.specs.Prelude.{◌≡◌, ◌⊎◌, ⊤, ℕ, Bool, true, false, not, List, [], ◌∷◌, ◌++◌, map, Option, Some, None, Result, IfOk, codes, IsSomeAnd, option_map, unwrap_or}
use Rattle.std.specs.Borrow.{Bor}
use Rattle.std.specs.Str.Parse.{ParsesUnsigned}
use Rattle.std.specs.declared.num.ParseIntError.{ParseIntError}
use Rattle.clap.specs.Words.{App, ReadsOne, Row, Rule, Text, all_of, app_of, first_of, new_app, one_of, subcommand_of, takes, with_rule, with_subcommand}
use Rattle.clap.specs.declared.builder.command.Command.{Command}
use Rattle.clap.specs.declared.builder.command.Command.TheViews.{out-Command as fields_of}
use Rattle.clap.specs.declared.error.kind.ErrorKind.{ErrorKind}
use Rattle.clap.specs.declared.error.kind.ErrorKind.TheVariants as kind
use Rattle.gx_line.specs.Arguments as rules
use Rattle.gx_asks.specs.declared.change.Change.{Change as ChangeAsked}
use Rattle.gx_asks.specs.declared.change.Change.TheVariants.{Init, Grow, Import, Objects, Push, Drop, SetRef, Put, Gc}
use Rattle.gx_asks.specs.declared.change.RefChange.{RefChange}
use Rattle.gx_asks.specs.declared.question.BatchForm.{BatchForm}
use Rattle.gx_asks.specs.declared.question.BatchForm.TheVariants as form
use Rattle.gx_asks.specs.declared.question.CommitFilter.{CommitFilter}
use Rattle.gx_asks.specs.declared.question.DiffForm.{DiffForm}
use Rattle.gx_asks.specs.declared.question.DiffForm.TheVariants as diff
use Rattle.gx_asks.specs.declared.question.DiffOptions.{DiffOptions}
use Rattle.gx_asks.specs.declared.question.ExportForm.{ExportForm}
use Rattle.gx_asks.specs.declared.question.ExportForm.TheVariants.{Changes, FullTree}
use Rattle.gx_asks.specs.declared.question.LogFormat.{LogFormat}
use Rattle.gx_asks.specs.declared.question.LogFormat.TheVariants.{Names, Oneline, Raw, Subject, Author, Dates}
use Rattle.gx_asks.specs.declared.question.LogOptions.{LogOptions}
use Rattle.gx_asks.specs.declared.question.Question.{Question}
use Rattle.gx_asks.specs.declared.question.RefFilter.{RefFilter}
use Rattle.gx_asks.specs.declared.question.RefTest.{RefTest}
use Rattle.gx_asks.specs.declared.question.RefTest.TheVariants.{PointsAt, Contains, NoContains, Merged, NoMerged}
use Rattle.gx_asks.specs.declared.question.Question.TheVariants.{Refs, RefsThat, Show, Ls, Archive, Names as Named, Log, Diff, MergeBase, IsAncestor, Batch, Export, ExportRange}
use Rattle.gx_asks.specs.declared.trial.Trial.{Trial}
use Rattle.gx_asks.specs.declared.trial.Trial.TheVariants.{Blobs, Try, Check, Adapt, Where, WhereFault}
use Rattle.gx_line.specs.declared.command_line.Line.{Line}
use Rattle.gx_line.specs.declared.command_line.Line.TheVariants.{Ask, Bundle, Change, Stream, Verify}
use Rattle.gx_line.specs.declared.fault.LineFault.{LineFault}
use Rattle.gx_line.specs.declared.fault.LineFault.TheVariants.{OutOfMemory, Status}

-- ---- commands

-- a command with one more command under it
abbrev pub under : App → App → App
under a b = with_subcommand a b.top

abbrev pub top : App
top = record { top = record (new_app (codes "gx")).top { no_binary_name = true; subcommand_required = true }; subs = [] }

-- a command whose first word is the store file
abbrev pub file_command : Text → App
file_command name = with_rule (new_app name) rules.file

-- a command with the features that can be asked for as if its stream began with them
abbrev pub with_features : App → App
with_features a = with_rule (with_rule a rules.done) rules.force

abbrev pub try_command : App
try_command = with_rule (with_features (with_rule (new_app (codes "try")) rules.revision)) rules.explain

abbrev pub check_command : App
check_command = with_rule (with_features (new_app (codes "check"))) rules.explain

abbrev pub adapt_command : App
adapt_command = with_rule (new_app (codes "adapt")) rules.drop_signatures

-- a command that writes a store file, and may have to wait for another one that does
abbrev pub with_wait : App → App
with_wait a = with_rule a rules.wait

abbrev pub init_command : App
init_command = with_wait (with_rule (file_command (codes "init")) rules.growing)

abbrev pub grow_command : App
grow_command = with_wait (file_command (codes "grow"))

abbrev pub verify_command : App
verify_command = with_rule (file_command (codes "verify")) rules.salvage

-- the commands that make a store, or look at it as a whole
abbrev pub with_whole_commands : App → App
with_whole_commands a = under (under (under a init_command) grow_command) verify_command

-- what an import can be asked to tell
abbrev pub telling_import : App
telling_import = with_rule (with_rule (with_features (file_command (codes "import"))) rules.report) rules.explain

abbrev pub import_command : App
import_command = with_wait (with_rule (with_rule telling_import rules.push) rules.objects)

abbrev pub drop_command : App
drop_command = with_wait (with_rule (with_rule (file_command (codes "drop")) rules.refs) rules.stdin)

-- which refs are set, and to what
abbrev pub changed_command : App
changed_command =
    with_rule (with_rule (with_rule (file_command (codes "set-ref")) rules.changed_ref) rules.new_value) rules.old_value

abbrev pub set_ref_command : App
set_ref_command = with_wait (with_rule (with_rule changed_command rules.changes_read) rules.force)

abbrev pub put_command : App
put_command = with_wait (with_rule (file_command (codes "put")) rules.expect_stamp)

abbrev pub gc_command : App
gc_command = with_wait (with_rule (with_rule (file_command (codes "gc")) rules.report) rules.keep)

abbrev pub export_command : App
export_command = with_rule (with_rule (with_rule (file_command (codes "export")) rules.changes) rules.no_done) rules.sent_ranges

abbrev pub bundle_command : App
bundle_command = with_rule (with_rule (with_rule (with_rule (file_command (codes "bundle")) rules.told_ranges) rules.all) rules.head) rules.pack

abbrev pub where_command : App
where_command =
    with_rule (with_rule (with_rule (with_rule (new_app (codes "where")) rules.place) rules.fault) (rules.bound rules.done))
    (rules.bound rules.force)

abbrev pub show_command : App
show_command = with_rule (file_command (codes "show")) rules.revision

abbrev pub ls_command : App
ls_command = with_rule (with_rule (file_command (codes "ls")) rules.revision) rules.recursive

abbrev pub archive_command : App
archive_command = with_rule (with_rule (file_command (codes "archive")) rules.revision) rules.prefix

abbrev pub batch_command : App
batch_command =
    with_rule (with_rule (with_rule (with_rule (file_command (codes "batch")) rules.check) rules.commands) rules.format) rules.nul

-- which commits log lists
abbrev pub chosen_command : App
chosen_command =
    with_rule (with_rule (with_rule (with_rule (file_command (codes "log")) rules.ranges) rules.all) rules.stdin) rules.max_count

-- which of these it keeps
abbrev pub filtered_command : App
filtered_command =
    with_rule (with_rule (with_rule (with_rule (with_rule chosen_command rules.merges) rules.no_merges) rules.since) rules.until) rules.skip

-- and how
abbrev pub log_command : App
log_command = with_rule (with_rule (with_rule (with_rule filtered_command rules.reverse) rules.count) rules.parents) rules.format

abbrev pub rev_parse_command : App
rev_parse_command = with_rule (file_command (codes "rev-parse")) (rules.words (codes "rev"))

-- which revisions are asked for their ancestors
abbrev pub compared_command : App
compared_command = with_rule (with_rule (file_command (codes "merge-base")) rules.revision) rules.others

abbrev pub merge_base_command : App
merge_base_command = with_rule (with_rule (with_rule compared_command rules.all) rules.octopus) rules.is_ancestor

-- what is compared
abbrev pub told_command : App
told_command = with_rule (with_rule (with_rule (file_command (codes "diff")) rules.old_revision) rules.new_revision) rules.paths

-- what is printed of it
abbrev pub formed_command : App
formed_command =
    with_rule (with_rule (with_rule (with_rule told_command rules.name_status) rules.name_only) rules.raw) rules.diff_count

-- the lines that change are printed of it
abbrev pub patched_command : App
patched_command = with_rule formed_command rules.patch

-- and how
abbrev pub diff_command : App
diff_command = with_rule (with_rule (with_rule patched_command rules.quiet) rules.exit_code) rules.nul

-- what clap was told of a command, none of whose arguments are for the commands below it, too
abbrev pub IsMade : Command → App → Type 0
IsMade made a = (app_of made ≡ a) × ((fields_of made).has_globals ≡ false)

-- the same, unless there was no memory for it
abbrev pub Makes : {E : Type 0} → Result Command E → App → Type 0
Makes result a = IfOk result (λ made. IsMade made a)

-- an argument more for what was made so far, unless there was no memory for it
abbrev pub AddsArgument : {E : Type 0} → Result Command E → Rule → Result Command E → Type 0
AddsArgument made rule result = (a : App) → Makes made a → Makes result (with_rule a rule)

-- one more command under what was made so far, unless there was no memory for it
abbrev pub AddsCommand : {E : Type 0} → Result Command E → Result Command E → Result Command E → Type 0
AddsCommand made sub result = (a b : App) → Makes made a → Makes sub b → Makes result (under a b)

-- the commands that read a stream and keep nothing
abbrev pub with_stream_commands : App → App
with_stream_commands a =
    under (under (under (under (under a (new_app (codes "blobs"))) try_command) check_command) adapt_command) where_command

-- how refs have to stand to revisions
abbrev pub tested_command : App → App
tested_command a =
    with_rule (with_rule (with_rule (with_rule (with_rule a (rules.text (codes "points-at"))) (rules.text (codes "contains")))
    (rules.text (codes "no-contains"))) (rules.text (codes "merged"))) (rules.text (codes "no-merged"))

abbrev pub refs_command : App
refs_command = tested_command (with_rule (file_command (codes "refs")) rules.patterns)

-- the commands on a store as a whole
abbrev pub with_store_commands : App → App
with_store_commands a =
    under (under (under (under (under (under (under (under (with_whole_commands a) import_command) drop_command) set_ref_command)
    put_command) gc_command) export_command) bundle_command) refs_command

-- the commands that show objects
abbrev pub with_tree_commands : App → App
with_tree_commands a = under (under (under (under a show_command) ls_command) archive_command) batch_command

-- the commands with a list of words
abbrev pub with_commit_commands : App → App
with_commit_commands a = under (under (under (under a log_command) rev_parse_command) merge_base_command) diff_command

-- the whole command line of gx, as clap is told of it
abbrev pub gx : App
gx = with_commit_commands (with_tree_commands (with_store_commands (with_stream_commands top)))

-- ---- what a line says

abbrev pub IsWord : Text → List Row → Bor Text → Type 0
IsWord id rows word = first_of id rows ≡ Some word.now

abbrev pub AreWords : Text → List Row → List (Bor Text) → Type 0
AreWords id rows words = all_of id rows ≡ Some (map (λ s. s.now) words)

-- no word where none is given
abbrev pub AreAnyWords : Text → List Row → List (Bor Text) → Type 0
AreAnyWords id rows words = unwrap_or (all_of id rows) [] ≡ map (λ s. s.now) words

abbrev pub IsOption : Text → List Row → Option (Bor Text) → Type 0
IsOption id rows text = first_of id rows ≡ option_map (λ s. s.now) text

-- the empty text where none is given
abbrev pub IsText : Text → List Row → Bor Text → Type 0
IsText id rows text = first_of id rows ≡ Some text.now ⊎ ((first_of id rows ≡ None) × (text.now ≡ []))

-- a flag is set where clap has "true" for it, and nowhere else
abbrev pub IsFlag : Text → List Row → Bool → Type 0
IsFlag id rows true = one_of id rows ≡ Some (codes "true")
IsFlag id rows false = one_of id rows ≡ Some (codes "true") → ⊥

-- no number where none is given, and otherwise the one that is written
abbrev pub IsNumber : Text → List Row → Option ℕ → Type 0
IsNumber id rows number = (one_of id rows ≡ None → number ≡ None)
    × ((text : Text) → one_of id rows ≡ Some text
    → ReadsOne {E = ParseIntError} (λ bytes read. ParsesUnsigned 64 10 bytes read) text number)

-- the word that asks for a format
abbrev pub format_word : LogFormat → Option Text
format_word Names = None
format_word Oneline = Some (codes "oneline")
format_word Raw = Some (codes "raw")
format_word Subject = Some (codes "subject")
format_word Author = Some (codes "author")
format_word Dates = Some (codes "dates")

abbrev pub IsLogFormat : List Row → LogFormat → Type 0
IsLogFormat rows format = first_of (codes "format") rows ≡ format_word format

-- which commits are listed
abbrev pub AreChosen : List Row → LogOptions → Type 0
AreChosen rows options = IsFlag (codes "all") rows options.all
    × (IsFlag (codes "stdin") rows options.stdin × IsNumber (codes "max-count") rows options.max_count)

-- which of these are kept
abbrev pub IsFilter : List Row → CommitFilter → Type 0
IsFilter rows only = IsFlag (codes "merges") rows only.merges × (IsFlag (codes "no-merges") rows only.no_merges
    × (IsNumber (codes "since") rows only.since × IsNumber (codes "until") rows only.until))

-- how they are listed
abbrev pub AreListed : List Row → LogOptions → Type 0
AreListed rows options = IsNumber (codes "skip") rows options.skip × (IsFlag (codes "count") rows options.count
    × (IsFlag (codes "reverse") rows options.reverse × (IsFlag (codes "parents") rows options.parents × IsLogFormat rows options.format)))

abbrev pub AreLogOptions : List Row → LogOptions → Type 0
AreLogOptions rows options = AreChosen rows options × (IsFilter rows options.only × AreListed rows options)

-- what is asked for of merge bases
abbrev pub AreBaseFlags : List Row → Bool → Bool → Bool → Type 0
AreBaseFlags rows is_ancestor octopus all = IsFlag (codes "is-ancestor") rows is_ancestor
    × (IsFlag (codes "octopus") rows octopus × IsFlag (codes "all") rows all)

-- what is printed of what differs
abbrev pub IsDiffForm : List Row → DiffForm → Type 0
IsDiffForm rows diff.Quiet = IsFlag (codes "quiet") rows true
IsDiffForm rows diff.Count = IsFlag (codes "quiet") rows false × IsFlag (codes "count") rows true
IsDiffForm rows diff.Raw = IsFlag (codes "quiet") rows false × (IsFlag (codes "count") rows false × IsFlag (codes "raw") rows true)
IsDiffForm rows diff.Paths = IsFlag (codes "quiet") rows false × (IsFlag (codes "count") rows false
    × (IsFlag (codes "raw") rows false × IsFlag (codes "name-only") rows true))
IsDiffForm rows diff.Patch = IsFlag (codes "quiet") rows false × (IsFlag (codes "count") rows false
    × (IsFlag (codes "raw") rows false × (IsFlag (codes "name-only") rows false × IsFlag (codes "patch") rows true)))
IsDiffForm rows diff.Status = IsFlag (codes "quiet") rows false × (IsFlag (codes "count") rows false
    × (IsFlag (codes "raw") rows false × (IsFlag (codes "name-only") rows false × IsFlag (codes "patch") rows false)))

abbrev pub AreDiffOptions : List Row → DiffOptions → Type 0
AreDiffOptions rows options = IsDiffForm rows options.form
    × (IsFlag (codes "nul") rows options.nul × IsFlag (codes "exit-code") rows options.exit_code)

abbrev pub AreFeatures : List Row → Bool → Bool → Type 0
AreFeatures rows done force = IsFlag (codes "done") rows done × IsFlag (codes "force") rows force

-- so many seconds are waited at most
abbrev pub IsWait : List Row → Option ℕ → Type 0
IsWait rows wait = IsNumber (codes "wait") rows wait

-- what an import is asked to tell
abbrev pub AreTold : List Row → Bool → Bool → Type 0
AreTold rows report explain = IsFlag (codes "report") rows report × IsFlag (codes "explain") rows explain

-- a stream is imported, and not refs and objects
abbrev pub HasStream : List Row → Type 0
HasStream rows = IsFlag (codes "objects") rows false

-- a ref is set, or what standard input tells
abbrev pub IsRefChange : List Row → Option RefChange → Type 0
IsRefChange rows None = IsFlag (codes "stdin") rows true
IsRefChange rows (Some change) = IsFlag (codes "stdin") rows false × (IsWord (codes "ref") rows change.name
    × (IsWord (codes "new") rows change.new × IsOption (codes "old") rows change.old))

abbrev pub IsForm : List Row → ExportForm → Type 0
IsForm rows FullTree = IsFlag (codes "changes") rows false × IsFlag (codes "no-done") rows false
IsForm rows (Changes done) = IsFlag (codes "changes") rows true × IsFlag (codes "no-done") rows (not done)

abbrev pub IsBatchForm : List Row → BatchForm → Type 0
IsBatchForm rows form.Bytes = IsFlag (codes "check") rows false × IsFlag (codes "command") rows false
IsBatchForm rows form.Check = IsFlag (codes "check") rows true × IsFlag (codes "command") rows false
IsBatchForm rows form.Commands = IsFlag (codes "check") rows false × IsFlag (codes "command") rows true

-- a test of refs with the revision that is given for it, where one is
abbrev pub filter_given : RefTest → Option Text → List (RefTest × Text)
filter_given test None = []
filter_given test (Some revision) = (test, revision) ∷ []

-- the tests of refs that are given, in this order
abbrev pub filters_given : List Row → List (RefTest × Text)
filters_given rows =
    filter_given PointsAt (first_of (codes "points-at") rows) ++ filter_given Contains (first_of (codes "contains") rows)
    ++ filter_given NoContains (first_of (codes "no-contains") rows) ++ filter_given Merged (first_of (codes "merged") rows)
    ++ filter_given NoMerged (first_of (codes "no-merged") rows)

abbrev pub shown_filter : RefFilter → RefTest × Text
shown_filter filter = (filter.test, filter.revision.now)

abbrev pub AreFilters : List Row → List RefFilter → Type 0
AreFilters rows filters = map shown_filter filters ≡ filters_given rows

-- a question is the command `name` with the options and words that clap found for it
unfoldable pub Asks : Text → List Row → Question → Type 0
Asks name rows Refs = (name ≡ codes "refs") × (AreFilters rows [] × AreAnyWords (codes "pattern") rows [])
Asks name rows (RefsThat filters patterns) = (name ≡ codes "refs")
    × (AreFilters rows filters.items × AreAnyWords (codes "pattern") rows patterns.items)
Asks name rows (Show revision) = (name ≡ codes "show") × IsWord (codes "rev") rows revision
Asks name rows (Ls recursive revision) = (name ≡ codes "ls") × (IsFlag (codes "recursive") rows recursive × IsWord (codes "rev") rows revision)
Asks name rows (Archive prefix revision) = (name ≡ codes "archive") × (IsText (codes "prefix") rows prefix × IsWord (codes "rev") rows revision)
Asks name rows (Named revisions) = (name ≡ codes "rev-parse") × AreWords (codes "rev") rows revisions.items
Asks name rows (Log options ranges) = (name ≡ codes "log") × (AreLogOptions rows options × AreAnyWords (codes "range") rows ranges.items)
Asks name rows (Diff options old new paths) = (name ≡ codes "diff") × (AreDiffOptions rows options
    × (IsWord (codes "before") rows old × (IsWord (codes "after") rows new × AreAnyWords (codes "path") rows paths.items)))
Asks name rows (MergeBase octopus all revision others) = (name ≡ codes "merge-base") × (AreBaseFlags rows false octopus all
    × (IsWord (codes "rev") rows revision × AreWords (codes "other") rows others.items))
Asks name rows (IsAncestor revision descendant) = (name ≡ codes "merge-base") × (IsFlag (codes "is-ancestor") rows true
    × (IsWord (codes "rev") rows revision × AreWords (codes "other") rows (descendant ∷ [])))
Asks name rows (Batch form format nul) = (name ≡ codes "batch") × (IsBatchForm rows form
    × (IsOption (codes "format") rows format × IsFlag (codes "nul") rows nul))
Asks name rows (Export form) = (name ≡ codes "export") × (IsForm rows form × (all_of (codes "range") rows ≡ None))
Asks name rows (ExportRange done ranges) = (name ≡ codes "export") × (IsForm rows (Changes done) × AreWords (codes "range") rows ranges.items)

-- so is a change
unfoldable pub Alters : Text → List Row → ChangeAsked → Type 0
Alters name rows (Init growing) = (name ≡ codes "init") × IsFlag (codes "growing") rows growing
Alters name rows Grow = name ≡ codes "grow"
Alters name rows (Import done force report explain) = (name ≡ codes "import") × (AreFeatures rows done force
    × (AreTold rows report explain × (HasStream rows × (first_of (codes "push") rows ≡ None))))
Alters name rows (Objects force report explain) = (name ≡ codes "import") × (AreFeatures rows false force
    × (AreTold rows report explain × (IsFlag (codes "objects") rows true × (first_of (codes "push") rows ≡ None))))
Alters name rows (Push push done report explain) = (name ≡ codes "import") × (AreFeatures rows done false
    × (AreTold rows report explain × (HasStream rows × IsWord (codes "push") rows push)))
Alters name rows (Drop refs stdin) = (name ≡ codes "drop") × (IsFlag (codes "stdin") rows stdin × AreAnyWords (codes "ref") rows refs.items)
Alters name rows (SetRef change force) = (name ≡ codes "set-ref") × (IsRefChange rows change × IsFlag (codes "force") rows force)
Alters name rows (Put stamp) = (name ≡ codes "put") × IsWord (codes "expect-stamp") rows stamp
Alters name rows (Gc report keep) = (name ≡ codes "gc") × (IsFlag (codes "report") rows report × IsOption (codes "keep") rows keep)

-- and what is asked of a stream
unfoldable pub Tries : Text → List Row → Trial → Type 0
Tries name rows Blobs = name ≡ codes "blobs"
Tries name rows (Try revision done force explain) = (name ≡ codes "try") × (AreFeatures rows done force
    × (IsFlag (codes "explain") rows explain × IsWord (codes "rev") rows revision))
Tries name rows (Check done force explain) = (name ≡ codes "check")
    × (AreFeatures rows done force × IsFlag (codes "explain") rows explain)
Tries name rows (Adapt drop_signatures) = (name ≡ codes "adapt") × IsFlag (codes "drop-signatures") rows drop_signatures
Tries name rows (Where command) = (name ≡ codes "where")
    × (IsFlag (codes "fault") rows false × IsNumber (codes "number") rows (Some command))
Tries name rows (WhereFault done force) = (name ≡ codes "where") × (IsFlag (codes "fault") rows true × AreFeatures rows done force)

-- the line is the command `name` with the options and words that clap found for it
unfoldable pub Says : Text → List Row → Line → Type 0
Says name rows (Ask file question) = IsWord (codes "file") rows file × Asks name rows question
Says name rows (Change file wait change) = IsWord (codes "file") rows file × (IsWait rows wait × Alters name rows change)
Says name rows (Stream trial) = Tries name rows trial
Says name rows (Verify file salvage) = (name ≡ codes "verify") × (IsOption (codes "salvage") rows salvage × IsWord (codes "file") rows file)
Says name rows (Bundle file ranges all head pack) =
    (name ≡ codes "bundle") × (IsWord (codes "file") rows file × (AreAnyWords (codes "range") rows ranges.items
    × (IsFlag (codes "all") rows all × (IsOption (codes "head") rows head × IsFlag (codes "pack") rows pack))))

-- the commands that read a stream and keep nothing
abbrev pub stream_names : List Text
stream_names = codes "blobs" ∷ codes "try" ∷ codes "check" ∷ codes "adapt" ∷ codes "where" ∷ []

-- the commands that change a store
abbrev pub change_names : List Text
change_names = codes "init" ∷ codes "grow" ∷ codes "import" ∷ codes "drop" ∷ codes "set-ref" ∷ codes "put" ∷ codes "gc" ∷ []

-- the commands that have to do with a store as a whole, and neither change it nor ask a question of it
abbrev pub whole_names : List Text
whole_names = codes "verify" ∷ codes "bundle" ∷ []

-- the name is none of these
abbrev pub IsNoneOf : List Text → Text → Type 0
IsNoneOf [] name = ⊤
IsNoneOf (x ∷ xs) name = (name ≡ x → ⊥) × IsNoneOf xs name

-- the line is what clap reads from the words
abbrev pub IsReadFrom : List Text → Line → Type 0
IsReadFrom ws line = IsSomeAnd (subcommand_of gx ws) (λ p. Says p.0 p.1 line)

-- ---- why there is no line

-- clap takes the words, and they give a line: memory ran out
abbrev pub RefusesNoLine : List Text → LineFault → Type 0
RefusesNoLine ws fault = (line : Line) → IsReadFrom ws line → takes gx ws ≡ true → fault ≡ OutOfMemory

-- memory ran out, or the fault has this cause
abbrev pub HasCause : Type 0 → LineFault → Type 0
HasCause cause OutOfMemory = ⊤
HasCause cause (Status status text) = cause

-- no line is the command `name` with what clap found for it, unless memory ran out
abbrev pub IsRefused : Text → List Row → LineFault → Type 0
IsRefused name rows fault = HasCause ((line : Line) → Says name rows line → ⊥) fault

-- --no-done stands without --changes
abbrev pub HasNoForm : List Row → Type 0
HasNoForm rows = IsFlag (codes "changes") rows false × IsFlag (codes "no-done") rows true

-- --command stands beside --check
abbrev pub HasNoBatchForm : List Row → Type 0
HasNoBatchForm rows = IsFlag (codes "check") rows true × IsFlag (codes "command") rows true

-- --is-ancestor stands before another number of words than one
abbrev pub HasNoDescendant : List Row → Type 0
HasNoDescendant rows = (word : Bor Text) → AreWords (codes "other") rows (word ∷ []) → ⊥

-- there is no --stdin, and neither a ref with what it becomes
abbrev pub HasNoRefChange : List Row → Type 0
HasNoRefChange rows = IsFlag (codes "stdin") rows false
    × (first_of (codes "ref") rows ≡ None ⊎ (first_of (codes "new") rows ≡ None))

-- the word asks for no format
abbrev pub HasNoFormat : Option Text → Type 0
HasNoFormat word = (format : LogFormat) → word ≡ format_word format → ⊥

-- help and the version were asked for, and all else is a line that isn't accepted
abbrev pub status_of : ErrorKind → ℕ
status_of kind.DisplayHelp = 0
status_of kind.DisplayVersion = 0
status_of _ = 2

-- the fault tells of an error of this kind, unless memory ran out
abbrev pub IsAnswer : ErrorKind → LineFault → Type 0
IsAnswer why OutOfMemory = ⊤
IsAnswer why (Status status text) = (why ≡ kind.OutOfMemory → ⊥) × (status ≡ status_of why)
