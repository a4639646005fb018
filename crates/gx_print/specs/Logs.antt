-- What `log` prints of a store, or why it is refused. Source: git-log(1), "PRETTY FORMATS", and git-rev-list(1), `--all` and `--stdin`.
use Rattle.std.specs.Prelude.{ℕ, Bool, if◌then◌else◌, List, [], ◌∷◌, ◌++◌, map, take, drop, reverse, length, codes, decimal, Option, Some, None, Result, Ok}
use Rattle.std.specs.List.{AllByRecursion, filter, flat_map, join_by}
use Rattle.gx_model.specs.declared.objects.Kind.{Kind}
use Rattle.gx_model.specs.declared.objects.Kind.TheVariants as kinds
use Rattle.gx_model.specs.Texts.{Bytes}
use Rattle.gx_model.specs.Faults.{◌>>=◌}
use Rattle.gx_model.specs.Histories.Values.{Commit, CommitText, commit_value}
use Rattle.gx_model.specs.Histories.{History, Records}
use Rattle.gx_model.specs.Objects.{CommitParts, commit_text, hex}
use Rattle.gx_model.specs.Records.{name_of, parts_of_commit}
use Rattle.gx_model.specs.Replay.{peeled_at}
use Rattle.gx_model.specs.Revisions.{RangeWord, range_of}
use Rattle.gx_model.specs.Revisions.Ranges.{Word, WordFault, each_word, listing, with_ancestors, words_denoted}
use Rattle.gx_object.specs.declared.name.Name.{Name}
use Rattle.gx_rev.specs.Objects.{IsHeldAs}
use Rattle.gx_asks.specs.declared.question.LogFormat.{LogFormat}
use Rattle.gx_asks.specs.declared.question.LogFormat.TheVariants.{Author, Dates, Names, Oneline, Raw, Subject}
use Rattle.gx_asks.specs.declared.question.LogOptions.{LogOptions}
use Rattle.gx_print.specs.Choices.{keeps}
use Rattle.gx_print.specs.Identities.{name_and_email, seconds_in}
use Rattle.gx_print.specs.Messages.{indented, subject, trimmed}
use Rattle.gx_print.specs.Stored.{Printed, all_words}

-- ---- which commits are listed, and in which order

-- so many of these at most
abbrev pub limited : {A : Type 0} → Option ℕ → List A → List A
limited None xs = xs
limited (Some n) xs = take n xs

-- these without so many of the first
abbrev pub skipped : {A : Type 0} → Option ℕ → List A → List A
skipped None xs = xs
skipped (Some n) xs = drop n xs

-- these, or the last one first
abbrev pub turned : {A : Type 0} → Bool → List A → List A
turned backwards xs = if backwards then reverse xs else xs

-- so many are passed over, so many at most are left then, and these are turned
abbrev pub arranged : {A : Type 0} → LogOptions → List A → List A
arranged options xs = turned options.reverse (limited options.max_count (skipped options.skip xs))

-- the commits of all refs, as words
abbrev pub words_of_refs : History → List Word
words_of_refs h = map (λ ref. with_ancestors (peeled_at ref.1)) h.refs

-- words, and where that is asked for the commits of all refs
abbrev pub with_refs : Bool → History → List Word → List Word
with_refs refs h words = if refs then words ++ words_of_refs h else words

-- ---- what is printed of a commit

-- the names of a commit's parents, each behind a space
abbrev pub parent_text : List Bytes → Bytes
parent_text names = flat_map (λ called. 32 ∷ hex called) names

-- a name, and where they are asked for those of parents
abbrev pub named : Bool → Bytes → List Bytes → Bytes
named parents called names = hex called ++ (if parents then parent_text names else [])

-- a commit's body up to its message
abbrev pub head_text : CommitParts → Bytes
head_text parts = commit_text (record {
  tree = parts.tree;
  parents = parts.parents;
  text = record { author = parts.text.author; committer = parts.text.committer; headers = parts.text.headers; message = [] };
})

-- when a commit was written, and when it was made
abbrev pub both_dates : CommitText → Bytes
both_dates text = seconds_in text.author ++ 32 ∷ seconds_in text.committer

-- what stands between two commits
abbrev pub gap : LogFormat → Bytes
gap Raw = 10 ∷ []
gap _ = []

-- What a format tells of the commit of this name and these parts, and behind its name those of its parents where they are asked
-- for. `Raw`: the whole object, with its message indented, and without white space at the end.
abbrev pub told_parts : LogFormat → Bool → Bytes → CommitParts → Bytes
told_parts Names parents called parts = named parents called parts.parents
told_parts Oneline parents called parts = hex called ++ 32 ∷ subject parts.text.message
told_parts Raw parents called parts = trimmed (codes "commit " ++ hex called ++ 10 ∷ head_text parts ++ indented parts.text.message)
told_parts Subject parents called parts = subject parts.text.message
told_parts Author parents called parts = hex called ++ 32 ∷ name_and_email parts.text.author
told_parts Dates parents called parts = hex called ++ 32 ∷ both_dates parts.text

-- what is printed of it
abbrev pub entry_of_parts : LogOptions → Bytes → CommitParts → Bytes
entry_of_parts options called parts = told_parts options.format options.parents called parts ++ 10 ∷ []

-- how many there are, in a line
abbrev pub count_text : ℕ → Bytes
count_text count = decimal count ++ 10 ∷ []

module _ (name : Kind → Bytes → Bytes) where
  -- the commits that are kept, arranged
  abbrev pub chosen : LogOptions → List Commit → List Commit
  chosen options commits = arranged options (filter (keeps name options.only) commits)

  -- the commits that range words list, and where that is asked for those of all refs
  abbrev pub commits_logged : History → Bool → List RangeWord → Result (List Commit) WordFault
  commits_logged h refs ws = words_denoted name h ws >>= λ xs. Ok (listing h (with_refs refs h xs))

  -- what is printed of a commit
  abbrev pub entry_of : LogOptions → Commit → Bytes
  entry_of options made = entry_of_parts options (name_of name (commit_value made)) (parts_of_commit name made)

  -- the same of a commit that isn't the first
  abbrev pub next_entry : LogOptions → Commit → Bytes
  next_entry options made = gap options.format ++ entry_of options made

  -- what is printed of commits
  abbrev pub entries_text : LogOptions → List Commit → Bytes
  entries_text options commits = join_by (entry_of options) (gap options.format) commits

  -- what is printed of them, or how many they are
  abbrev pub commits_text : LogOptions → List Commit → Bytes
  commits_text options commits = if options.count then count_text (length commits) else entries_text options commits

  -- what is printed of what range words list: all are read, and then all are evaluated
  abbrev pub log_text : LogOptions → History → List Bytes → Printed
  log_text options h words =
      all_words (each_word range_of words >>= λ ws. commits_logged h options.all ws >>= λ commits. Ok (commits_text options (chosen options commits)))

-- ---- commits in a repository

-- each of these names is that of a held commit
abbrev pub AreCommits : Records → List Name → Type 0
AreCommits repository names = AllByRecursion (IsHeldAs kinds.Commit repository) names
