-- The headline as two laws. What a text gives from nothing is shown as it was replayed by every repository that has its records, and
-- comes back from its export. So is what a refused text leaves, which is what its commands before the last checkpoint give.
-- Source: git-fast-import(1), gitrevisions(7) and Pro Git, "Git Objects".
use Rattle.std.specs.Prelude.{◌≡◌, ◌<◌, ◌^◌, ◌-◌, ℕ, Bool, false, List, [], length, map, take, Ok}
use Rattle.std.specs.List.{AllByRecursion}
use Rattle.std.specs.Option.{option_map}
use Rattle.gx_model.specs.declared.faults.Fault.{Fault}
use Rattle.gx_model.specs.declared.objects.Kind.{Kind}
use Rattle.gx_model.specs.Texts.{Bytes}
use Rattle.gx_model.specs.Faults.{Given, ◌>>=◌}
use Rattle.gx_model.specs.Texts.Paths.{Path}
use Rattle.gx_model.specs.Histories.Values.{Commit, commit_value}
use Rattle.gx_model.specs.Records.{name_of, parts_of_commit}
use Rattle.gx_model.specs.Histories.{AreDistinct, History, IsIn, Records, StandsFor, no_history, record_of, value_at}
use Rattle.gx_model.specs.Records.HistoryOf.{commit_parts_in}
use Rattle.gx_model.specs.Records.Sound.{AnyByRecursion}
use Rattle.gx_model.specs.Records.Lookups.{first_named}
use Rattle.gx_model.specs.Revisions.{RangeWord, Revision}
use Rattle.gx_model.specs.Revisions.Denotation.{find_ref, looked_up, ref_names, value_denoted}
use Rattle.gx_model.specs.Revisions.Ranges.{listed}
use Rattle.gx_model.specs.Streams.Grammar.{commands_of}
use Rattle.gx_model.specs.Streams.Items.{items_of}
use Rattle.gx_model.specs.Export.{export_text}
use Rattle.gx_model.specs.Replay.{Kept, Report, finished, imported, refused}
use Rattle.gx_model.specs.Laws.ExportLaws.{IsAgain, exported_report}
use Rattle.gx_model.specs.Laws.RefusedReplays.{KeepsCheckpoint}
use Rattle.gx_model.specs.Laws.ShownRecords.{body_named, commit_held, file_held, listed_held}

module _ (name : Kind → Bytes → Bytes) where
  -- the name of the object that a revision gives
  abbrev pub object_denoted : History → Revision → Given Bytes
  object_denoted h revision = value_denoted name h revision >>= λ value. Ok (name_of name value)

  -- A word finds among the refs the object that it finds in the history. Each revision and path shows, tree by tree, the mode and
  -- bytes that the plain map of whole paths has there, or is refused alike. A commit's body tells its parents and its texts. Range
  -- words list, by the parents that bodies tell, the commits that they list in the history, or are refused alike.
  pub record Shows (repository : Records) (h : History) : Type 0 where
    pub refs : (word : Bytes)
        → first_named repository.refs (ref_names word) ≡ option_map (λ target. name_of name (value_at target)) (find_ref h word)
    pub files : (revision : Revision) (path : Path)
        → (object_denoted h revision >>= λ called. file_held repository.records called path) ≡ looked_up name h revision path
    pub commits : (made : Commit) → IsIn h.values (commit_value made)
        → commit_parts_in (body_named repository.records (name_of name (commit_value made))) ≡ parts_of_commit name made
    pub ranges : (words : List RangeWord)
        → listed_held repository.records (λ revision. object_denoted h revision >>= commit_held repository.records) words ≡ listed name h words

  -- The new repository stands for the new history. It has the same refs under the same object names, and its objects are objects
  -- of the old one: exactly what refs reach, with the commits in their order.
  pub record ComesBack (repository : Records) (h : History) (new : Records) (k : History) : Type 0 where
    pub stands : StandsFor name new k
    pub refs : new.refs ≡ repository.refs
    pub objects : AllByRecursion (λ held. AnyByRecursion (λ other. other ≡ held) repository.records) new.records
    pub reached : IsAgain h k

  -- The repository has the records of the history's values in their order, no two under one name, and its refs.
  pub record HasRecordsOf (repository : Records) (h : History) : Type 0 where
    pub records : repository.records ≡ map (record_of name) h.values
    pub distinct : AreDistinct (map (λ held. held.name) repository.records)
    pub refs : repository.refs ≡ map (λ ref. (ref.0, name_of name (value_at ref.1))) h.refs

  -- The repository stands for the history, and shows it; and the history's export, below 2^64 bytes, is imported into nothing, and
  -- comes back.
  abbrev pub ShowsAndComesBack : Records → History → Type 0
  ShowsAndComesBack repository h =
      StandsFor name repository h × Shows repository h
      × (length (export_text h) < 2 ^ 64
      → (k : History) × (new : Records)
      × (imported name no_history (export_text h) false ≡ finished k [] (exported_report h k)) × ComesBack repository h new k)

  -- For every text whose import into nothing is accepted, each repository that has the records of what it gave.
  abbrev pub Headline : Type 0
  Headline =
      (given : Bytes) (fails : Bool) (h : History) (progress : Bytes) (report : Report) (repository : Records)
      → imported name no_history given fails ≡ finished h progress report → HasRecordsOf repository h → ShowsAndComesBack repository h

  -- For every text whose import into nothing is refused, what is kept is what the commands before the last checkpoint give, or
  -- nothing; and so does each repository that has the records of that.
  abbrev pub RefusedHeadline : Type 0
  RefusedHeadline =
      (given : Bytes) (fails : Bool) (number : ℕ) (fault : Fault) (progress : Bytes) (kept : Kept)
      → imported name no_history given fails ≡ refused number fault progress kept
      → KeepsCheckpoint name no_history (take (number - 1) (commands_of (items_of given fails)).list) kept
      × ((repository : Records) → HasRecordsOf repository kept.history → ShowsAndComesBack repository kept.history)
