-- What clap is told of the arguments of the commands: how a line gives each one, and whether it may be left out.
use Rattle.std.specs.Prelude.{ℕ, [], ◌∷◌, true, false, Some, codes}
use Rattle.clap.specs.Lexer.{usize_max}
use Rattle.clap.specs.Words.{Rule, Text, new_rule}
use Rattle.clap.specs.declared.builder.action.ArgAction.TheVariants.{SetTrue}
use Rattle.clap.specs.declared.builder.value_parser.ValueParser.TheVariants as parser

-- a positional argument that isn't left out
abbrev pub one_word : Text → Rule
one_word id = record (new_rule id) { value_names = 1; required = true }

-- a positional argument that may be left out
abbrev pub any_word : Text → Rule
any_word id = record (new_rule id) { value_names = 1 }

-- a positional argument that stands at least once
abbrev pub words : Text → Rule
words id = record (new_rule id) {
  range = Some (record { start_inclusive = 1; end_inclusive = usize_max });
  value_names = 1;
  required = true;
}

-- positional arguments that may be left out
abbrev pub any_words : Text → Rule
any_words id = record (words id) { required = false }

-- --ID
abbrev pub flag : Text → Rule
flag id = record (new_rule id) { long = Some id; action = Some SetTrue }

-- an argument that is refused beside another one, or where another one is missing
abbrev pub bound : Rule → Rule
bound rule = record rule { is_free = false }

-- a hyphen and the letter
abbrev pub letter : Text → ℕ → Rule
letter id code = record (new_rule id) { short = Some code; action = Some SetTrue }

-- --ID, or a hyphen and the letter
abbrev pub letter_flag : Text → ℕ → Rule
letter_flag id letter = record (flag id) { short = Some letter }

-- --ID and a text
abbrev pub text : Text → Rule
text id = record (new_rule id) { long = Some id; value_names = 1 }

-- a whole number below 2^64
abbrev pub whole_number : Text → Rule
whole_number id = record (new_rule id) { value_names = 1; parser = Some (parser.Unsigned 0 18446744073709551615) }

-- --ID and a whole number below 2^64
abbrev pub number : Text → Rule
number id = record (whole_number id) { long = Some id }

abbrev pub file : Rule
file = one_word (codes "file")

abbrev pub revision : Rule
revision = one_word (codes "rev")

abbrev pub recursive : Rule
recursive = letter_flag (codes "recursive") 114

abbrev pub prefix : Rule
prefix = text (codes "prefix")

abbrev pub check : Rule
check = flag (codes "check")

abbrev pub done : Rule
done = flag (codes "done")

abbrev pub force : Rule
force = flag (codes "force")

abbrev pub drop_signatures : Rule
drop_signatures = flag (codes "drop-signatures")

abbrev pub report : Rule
report = flag (codes "report")

-- a store of version 3 is made
abbrev pub growing : Rule
growing = flag (codes "growing")

abbrev pub explain : Rule
explain = flag (codes "explain")

-- refs and objects are imported, and no stream
abbrev pub objects : Rule
objects = flag (codes "objects")

-- a file that tells what refs are wanted to be
abbrev pub push : Rule
push = text (codes "push")

-- a file that tells which objects stay
abbrev pub keep : Rule
keep = text (codes "keep")

-- a store file that is made of what can be saved
abbrev pub salvage : Rule
salvage = text (codes "salvage")

-- a ref that is HEAD, too
abbrev pub head : Rule
head = text (codes "head")

-- range words that may be left out, with whatever else
abbrev pub told_ranges : Rule
told_ranges = any_words (codes "range")

abbrev pub pack : Rule
pack = flag (codes "pack")

-- which file it is that is replaced, which has to be told
abbrev pub expect_stamp : Rule
expect_stamp = record (text (codes "expect-stamp")) { required = true }

-- --wait and a whole number of seconds
abbrev pub wait : Rule
wait = number (codes "wait")

abbrev pub changes : Rule
changes = flag (codes "changes")

-- a flag that is refused where it stands without --changes
abbrev pub no_done : Rule
no_done = bound (flag (codes "no-done"))

-- range words that are refused where they stand without --changes
abbrev pub sent_ranges : Rule
sent_ranges = bound (any_words (codes "range"))

-- the number of a command, which is needed where --fault isn't given
abbrev pub place : Rule
place = bound (whole_number (codes "number"))

-- a flag that is refused beside a number
abbrev pub fault : Rule
fault = bound (flag (codes "fault"))

-- patterns of ref names
abbrev pub patterns : Rule
patterns = any_words (codes "pattern")

-- the names of refs, which are needed where --stdin isn't given
abbrev pub refs : Rule
refs = bound (any_words (codes "ref"))

-- the name of a ref, which is needed where --stdin isn't given
abbrev pub changed_ref : Rule
changed_ref = bound (any_word (codes "ref"))

-- what the ref becomes, which is needed where --stdin isn't given
abbrev pub new_value : Rule
new_value = bound (any_word (codes "new"))

-- what the ref is
abbrev pub old_value : Rule
old_value = any_word (codes "old")

-- a flag that is refused beside the name of a ref
abbrev pub changes_read : Rule
changes_read = bound (flag (codes "stdin"))

abbrev pub stdin : Rule
stdin = flag (codes "stdin")

-- range words, one of which is needed where neither --all nor --stdin is given
abbrev pub ranges : Rule
ranges = bound (any_words (codes "range"))

abbrev pub reverse : Rule
reverse = flag (codes "reverse")

-- --max-count, or -n, and a whole number
abbrev pub max_count : Rule
max_count = record (number (codes "max-count")) { short = Some 110 }

abbrev pub merges : Rule
merges = flag (codes "merges")

abbrev pub no_merges : Rule
no_merges = flag (codes "no-merges")

abbrev pub since : Rule
since = number (codes "since")

abbrev pub until : Rule
until = number (codes "until")

abbrev pub skip : Rule
skip = number (codes "skip")

abbrev pub count : Rule
count = flag (codes "count")

-- a flag that is refused beside --format
abbrev pub parents : Rule
parents = bound (flag (codes "parents"))

abbrev pub all : Rule
all = flag (codes "all")

abbrev pub format : Rule
format = text (codes "format")

-- one or more other revisions
abbrev pub others : Rule
others = words (codes "other")

abbrev pub octopus : Rule
octopus = flag (codes "octopus")

-- a flag that is refused beside --all, and beside --octopus
abbrev pub is_ancestor : Rule
is_ancestor = bound (flag (codes "is-ancestor"))

-- the revisions that are compared
abbrev pub old_revision : Rule
old_revision = one_word (codes "before")

abbrev pub new_revision : Rule
new_revision = one_word (codes "after")

abbrev pub paths : Rule
paths = any_words (codes "path")

-- what is printed of what differs: each is refused beside the others
abbrev pub name_status : Rule
name_status = bound (flag (codes "name-status"))

abbrev pub name_only : Rule
name_only = bound (flag (codes "name-only"))

abbrev pub raw : Rule
raw = bound (flag (codes "raw"))

abbrev pub diff_count : Rule
diff_count = flag (codes "count")

-- --patch, -p or -u
abbrev pub patch : Rule
patch = bound (record (letter_flag (codes "patch") 112) { short_aliases = 117 ∷ [] })

abbrev pub quiet : Rule
quiet = flag (codes "quiet")

abbrev pub exit_code : Rule
exit_code = flag (codes "exit-code")

-- a flag that is refused beside --check
abbrev pub commands : Rule
commands = bound (flag (codes "command"))

-- -z
abbrev pub nul : Rule
nul = letter (codes "nul") 122
