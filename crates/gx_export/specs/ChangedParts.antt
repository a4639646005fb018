-- What each part of an export of changes does, whatever was written before it.
use Rattle.std.specs.Prelude.{◌≡◌, [], ◌∷◌, ◌++◌, ◌||◌, ℕ, suc, Bool, true, false, length, IsOk, List, map, reverse, Option, Result, Ok, Err, slice_index_or, ⊤}
use Rattle.gx_model.specs.declared.objects.Kind.{Kind}
use Rattle.gx_model.specs.declared.features.Feature.TheVariants as features
use Rattle.gx_model.specs.Changes.{carrier_reset, changes_text, closed_by, commit_changes, commits_with_changes, named_in, own_files, range_text, sending_commands, set_refs}
use Rattle.gx_model.specs.Export.{blob_commands, command_items, commit_on, contents, items_text, reached_commits, ref_by, reset_before, with_blobs}
use Rattle.gx_model.specs.Histories.Files.{FileMap}
use Rattle.gx_model.specs.Histories.Marks.{marks_of}
use Rattle.gx_model.specs.Histories.Values.{Commit, CommitText, Value, list_of, parents_of}
use Rattle.gx_model.specs.Histories.{History, Records, Target}
use Rattle.gx_model.specs.Laws.RepositoryLaws.{values_of}
use Rattle.gx_model.specs.Records.HistoryOf.{history_of}
use Rattle.gx_model.specs.Revisions.{RangeWord}
use Rattle.gx_model.specs.Revisions.Ranges.{Word, listed, listing, words_denoted}
use Rattle.gx_model.specs.Streams.Commands.{Asks, Command, CommitIsh, Done}
use Rattle.gx_model.specs.Streams.Items.{Item, Line}
use Rattle.gx_model.specs.Texts.{Bytes}
use Rattle.gx_model.specs.Texts.Paths.{Path}
use Rattle.gx_model.specs.Texts.Sinks.{Taken}
use Rattle.gx_rev.specs.RevFaults.{fault_of}
use Rattle.gx_rev.specs.Walking.{IsWordFault}
use Rattle.gx_rev.specs.declared.fault.RevFault.TheVariants.{OutOfMemory}
use Rattle.gx_export.specs.Compared.{gone_items, gone_text}
use Rattle.gx_export.specs.Marks.{Adds, HasWritten}
use Rattle.gx_export.specs.Outputs.{Delivers}
use Rattle.gx_export.specs.Sayable.{WhereSayable}
use Rattle.gx_export.specs.Texts.{file_items, head_items, items_of, parents_by}
use Rattle.gx_export.specs.declared.changes.Changes.{Changes}
use Rattle.gx_export.specs.declared.fault.ExportFault.{ExportFault}
use Rattle.gx_export.specs.declared.fault.RangeFault.{RangeFault}
use Rattle.gx_export.specs.declared.fault.RangeFault.TheVariants.{Export, Walk}
use Rattle.gx_export.specs.declared.written.Written.{Written}

-- ---- the items of a commit

-- the lines of what is gone and of what differs, and the end of a commit
abbrev pub differing_lines : List Value → List Path → FileMap Bytes → List Item
differing_lines ws gone own = gone_items gone ++ (file_items ws own ++ Line [] ∷ [])

-- the lines of a commit on a branch, which has the next mark
abbrev pub lines_on : Bytes → (Commit → CommitIsh) → List Value → CommitText → List Commit → List Path → FileMap Bytes → List Item
lines_on branch names ws text parents gone own = head_items branch (suc (length ws)) text ++ (parents_by names parents ++ differing_lines ws gone own)

-- these are the lines of what is gone and of what differs
pub record AreLinesOf {A : Type 0} (ws : List Value) (paths : List Path) (own : FileMap Bytes) (changes : Changes A) : Type 0 where
  pub gone : changes.gone.items ≡ gone_text paths
  pub files : changes.files.text.items ≡ items_text (file_items ws own)

-- ---- marks

-- the marks are of commits
abbrev pub AreCommitMarks : Records → List Bool → Type 0
AreCommitMarks repository marks = (test : Commit → Bool) × (marks ≡ marks_of test (values_of repository))

-- the places that the one list or the other marks
abbrev pub AreEither : List Bool → List Bool → List Bool → Type 0
AreEither new marks others = (place : ℕ) → slice_index_or new place false ≡ (slice_index_or marks place false || slice_index_or others place false)

-- ---- all items

-- before the commits and behind the refs
abbrev pub opening : Bool → List Item
opening true = command_items (Asks features.Done)
opening false = []

abbrev pub closing : Bool → List Item
closing true = command_items Done
closing false = []

module _ (name : Kind → Bytes → Bytes) where
  -- the items up to the last of some commits, which go out on these refs
  abbrev pub sending_front : Bool → List Commit → List (Bytes × Target) → List Item
  sending_front closed sent refs = opening closed ++ items_of (commits_with_changes name refs [] sent)

  -- the items behind it, where the refs are set, by the values that were written
  abbrev pub sending_rest : Bool → List Commit → List (Bytes × Target) → List Value → List Item
  sending_rest closed sent refs ws = items_of (carrier_reset refs sent) ++ (items_of (map (ref_by (named_in name ws)) refs) ++ closing closed)

  -- The text of these commits and of these refs goes out.
  abbrev pub DeliversText : Bool → List Commit → List (Bytes × Target) → Option Taken → Option Taken → Result (Unit {0}) ExportFault → Type 0
  DeliversText closed sent refs was now result =
      Delivers (items_text (sending_front closed sent refs)) (items_text (items_of (closed_by closed (sending_commands name sent refs)))) was now result

  -- The same where a stream can say these commits, and nothing where it can't.
  abbrev pub SendsText : Bool → List Commit → List (Bytes × Target) → Option Taken → Option Taken → Result (Unit {0}) ExportFault → Type 0
  SendsText closed sent refs was now result = WhereSayable sent (DeliversText closed sent refs) was now result

  -- The text of the changes of a repository goes out, where a stream can say it: all of it, or a front of it where the export stops.
  abbrev pub ExportsChanges : Bool → Records → Option Taken → Option Taken → Result (Unit {0}) ExportFault → Type 0
  ExportsChanges closed repository was now result =
      let h = history_of repository in
      WhereSayable (reached_commits h) (Delivers (items_text (sending_front closed (reached_commits h) h.refs)) (changes_text name closed h)) was now result

  -- the same of the text of what range words give
  abbrev pub DeliversRange : Bool → History → List Word → Option Taken → Option Taken → Result (Unit {0}) ExportFault → Type 0
  DeliversRange closed h words was now result =
      WhereSayable (reverse (listing h words)) (Delivers (items_text (sending_front closed (reverse (listing h words)) (set_refs h words))) (range_text name closed h words)) was now result

  -- the words have a meaning, whose text it is
  abbrev pub DeliversWords : Bool → History → List RangeWord → Option Taken → Option Taken → Result (Unit {0}) ExportFault → Type 0
  DeliversWords closed h asked was now result = (words : List Word) × (words_denoted name h asked ≡ Ok words) × DeliversRange closed h words was now result

  -- The text of what range words give goes out, as above; or a word is refused, and the sink took nothing.
  abbrev pub ExportsRange : Bool → Records → List RangeWord → Option Taken → Option Taken → Result (Unit {0}) RangeFault → Type 0
  ExportsRange closed repository asked was now (Ok _) = DeliversWords closed (history_of repository) asked was now (Ok tt)
  ExportsRange closed repository asked was now (Err (Export fault)) = DeliversWords closed (history_of repository) asked was now (Err fault)
  ExportsRange closed repository asked was now (Err (Walk e)) = (now ≡ was) × IsWordFault e.word (fault_of e.kind) (listed name (history_of repository) asked)

  -- memory may want only where no word is refused
  abbrev pub RefusalsComeFirst : History → List RangeWord → Result (Unit {0}) RangeFault → Type 0
  RefusalsComeFirst h asked (Err (Walk e)) = e.kind ≡ OutOfMemory → IsOk (words_denoted name h asked)
  RefusalsComeFirst h asked _ = ⊤

  -- the commands of a commit on a branch, the blobs of its files that differ first
  abbrev pub one_on : Bytes → List Value → Commit → List Command
  one_on branch ws c =
      let us = with_blobs ws (contents (own_files c)) in
      blob_commands ws (contents (own_files c))
      ++ (reset_before branch (list_of (parents_of c)) ++ (commit_on branch (named_in name us) (commit_changes us c) us c ∷ []))

-- items go out that have paths and files in them, of which these are the lines of what differs
abbrev pub AddsChanges : {W A : Type 0} → Records → Changes A → (List Value → List Path → FileMap Bytes → List Item)
    → Written W A → Written W A → Result (Unit {0}) ExportFault → Type 0
AddsChanges repository changes items old new result =
    (ws : List Value) (gone : List Path) (own : FileMap Bytes) → HasWritten repository ws old
    → AreLinesOf ws gone own changes → Adds repository ws (items ws gone own) old new result
