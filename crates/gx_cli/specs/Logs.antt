-- What `log` prints of a store where its words come from a source, too, and how held commits are told. Source: git-rev-list(1),
-- `--all` and `--stdin`.
use Rattle.std.specs.Prelude.{◌≡◌, Bool, true, false, not, ◌&&◌, ◌||◌, List, ◌++◌, map, reverse, Option, Result, Err}
use Rattle.std.specs.List.{filter, filter_map}
use Rattle.std.specs.declared.vec.Vec.{Vec}
use Rattle.gx_model.specs.declared.objects.Kind.{Kind}
use Rattle.gx_model.specs.Texts.{Bytes}
use Rattle.gx_model.specs.Histories.Marks.{marks_of}
use Rattle.gx_model.specs.Histories.Values.{Commit, commit_of, commit_value}
use Rattle.gx_model.specs.Histories.{Records}
use Rattle.gx_model.specs.Laws.RepositoryLaws.{values_of}
use Rattle.gx_model.specs.Records.{name_of}
use Rattle.gx_model.specs.Records.HistoryOf.{history_of}
use Rattle.gx_model.specs.Texts.Sinks.{Taken}
use Rattle.gx_text.specs.Devices.{Coming}
use Rattle.gx_object.specs.declared.name.Name.{Name}
use Rattle.gx_repo.specs.Repositories.{Repository}
use Rattle.gx_rev.specs.Objects.{commit_at}
use Rattle.gx_rev.specs.Reached.{is_wanted}
use Rattle.gx_asks.specs.declared.question.CommitFilter.{CommitFilter}
use Rattle.gx_asks.specs.declared.question.LogOptions.{LogOptions}
use Rattle.gx_cli.specs.Answers.{Prints}
use Rattle.gx_cli.specs.Gathering.{OfLines}
use Rattle.gx_print.specs.Choices.{keeps}
use Rattle.gx_print.specs.Logs.{AreCommits, chosen, entry_of, log_text}
use Rattle.gx_cli.specs.declared.fault.CliFault.{CliFault}
use Rattle.gx_cli.specs.declared.fault.CliFault.TheVariants.{OutOfMemory, ReadFailed}

module _ (name : Kind → Bytes → Bytes) where
  -- ---- words of standard input

  -- What is printed where a source brings words, too, behind those that are given, and then it ends or fails. Where it fails,
  -- nothing is.
  abbrev pub LogsRead : LogOptions → Records → List Bytes → Bool → Option Taken → Option Taken → Result (Unit {0}) CliFault → Type 0
  LogsRead options repository words fails was now (Err ReadFailed) = (fails ≡ true) × (now ≡ was)
  LogsRead options repository words fails was now (Err OutOfMemory) = Prints (log_text name options (history_of repository) words) was now (Err OutOfMemory)
  LogsRead options repository words fails was now answer = (fails ≡ false) × Prints (log_text name options (history_of repository) words) was now answer

  -- what is printed of a repository, and where they are asked for the lines of a source are words, too
  abbrev pub LogsFrom : LogOptions → Bool → Records → List Bytes → Option Coming → Option Taken → Option Taken → Result (Unit {0}) CliFault → Type 0
  LogsFrom options true repository words coming was now answer = OfLines coming (λ lines fails. LogsRead options repository (words ++ lines) fails was now answer)
  LogsFrom options false repository words coming was now answer = Prints (log_text name options (history_of repository) words) was now answer

module _ {N : Type 0} (names : N → Kind → Bytes → Bytes) where
  -- The names of the commits that pass the one test and not the other, where these are marked, the last one first. Where that is
  -- asked for, what refs reach passes, too.
  abbrev pub ListsMarked : {A : Type 0} → Repository N → Bool → List Bool → List Bool → Vec Name A → Type 0
  ListsMarked repo refs included excluded listed = (wanted unwanted : Commit → Bool)
      → included ≡ marks_of wanted (values_of repo.1) → excluded ≡ marks_of unwanted (values_of repo.1)
      → map (λ called. called.bytes) listed.items
      ≡ map (λ made. name_of (names repo.0) (commit_value made))
      (filter (λ made. (wanted made || (refs && is_wanted repo.1 made)) && not (unwanted made)) (reverse (filter_map commit_of (values_of repo.1))))

  -- what is printed of the commit of this name
  abbrev pub entry_at : Repository N → LogOptions → Name → Bytes
  entry_at repo options commit = entry_of (names repo.0) options (commit_at repo.1 commit)

  -- these are the names of the commits that are kept of those of some names
  abbrev pub AreKept : Repository N → CommitFilter → List Name → List Name → Type 0
  AreKept repo only listed kept =
      (map (commit_at repo.1) kept ≡ filter (keeps (names repo.0) only) (map (commit_at repo.1) listed)) × AreCommits repo.1 kept

  -- and those that are chosen
  abbrev pub AreChosen : Repository N → LogOptions → List Name → List Name → Type 0
  AreChosen repo options listed taken =
      (map (commit_at repo.1) taken ≡ chosen (names repo.0) options (map (commit_at repo.1) listed)) × AreCommits repo.1 taken
