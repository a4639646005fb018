-- What range words send, what an export of them answers, and what it makes of the sink.
use Rattle.std.specs.Prelude.{◌≡◌, ℕ, Bool, List, reverse, Option, None, Result, Ok, Err, IfErr, IfOk, IfSome, ⊤}
use Rattle.gx_model.specs.declared.objects.Kind.{Kind}
use Rattle.gx_model.specs.Changes.{range_text, set_refs}
use Rattle.gx_model.specs.Histories.{History, Records}
use Rattle.gx_model.specs.Records.HistoryOf.{history_of}
use Rattle.gx_model.specs.Revisions.{RangeWord}
use Rattle.gx_model.specs.Revisions.Ranges.{Word, listing, words_denoted}
use Rattle.gx_model.specs.Texts.{Bytes}
use Rattle.gx_model.specs.Texts.Sinks.{Taken, TookFront}
use Rattle.gx_rev.specs.RevFaults.{fault_of}
use Rattle.gx_export.specs.ChangedParts.{DeliversWords}
use Rattle.gx_export.specs.declared.fault.ExportFault.TheVariants as export
use Rattle.gx_tips.specs.Spans.{AreNewestFirst, AreSpans}
use Rattle.gx_tips.specs.Tips.{AreTips, targets}
use Rattle.gx_tips.specs.declared.spans.Spans.{Spans}
use Rattle.gx_changes.specs.Texts.{commits_sent}
use Rattle.gx_changes.specs.declared.fault.ChangesFault.{ChangesFault}
use Rattle.gx_changes.specs.declared.fault.ChangesFault.TheVariants.{OutOfMemory, ReadFailed, Damaged, Unsupported, WriteFailed, Word as Refused}
use Rattle.gx_changes.specs.declared.finding.Sent.{Sent}

-- ---- what is sent

-- these are the refs that words set, and the commits that they list
pub record IsSent {A : Type 0} (stands : ℕ → ℕ) (words : List Word) (repository : Records) (sent : Sent A) : Type 0 where
  pub refs : targets repository sent.refs.items ≡ set_refs (history_of repository) words
  pub commits : commits_sent repository sent.commits.items ≡ reverse (listing (history_of repository) words)
  pub each : AreTips stands sent.refs.items repository
  pub order : AreNewestFirst sent.commits.items repository

-- the same of the words that spans are of
pub record IsFoundIn {A : Type 0} (stands : ℕ → ℕ) (spans : Spans A) (repository : Records) (sent : Sent A) : Type 0 where
  pub words : (words : List Word) → AreSpans stands words repository spans → IsSent stands words repository sent

-- of the words that were asked for; or one is refused, or finding stops
abbrev pub FindsSent : {A : Type 0} → (Kind → Bytes → Bytes) → (ℕ → ℕ) → Option Records → List RangeWord → Result (Sent A) ChangesFault → Type 0
FindsSent name stands told asked (Ok sent) = IfSome told (λ r. (words : List Word) × (words_denoted name (history_of r) asked ≡ Ok words) × IsSent stands words r sent)
FindsSent name stands told asked (Err OutOfMemory) = ⊤
FindsSent name stands told asked (Err ReadFailed) = ⊤
FindsSent name stands told asked (Err Damaged) = told ≡ None
FindsSent name stands told asked (Err (WriteFailed written)) = ⊥
FindsSent name stands told asked (Err Unsupported) = ⊥
FindsSent name stands told asked (Err (Refused number kind)) =
    IfSome told (λ r. words_denoted name (history_of r) asked ≡ Err (record { word = number; fault = fault_of kind }))

-- ---- what an export answers

module _ (name : Kind → Bytes → Bytes) (closed : Bool) (h : History) (asked : List RangeWord) where
  -- a front of the text went out, and nothing where a word is refused
  pub record SendsFront (was now : Option Taken) : Type 0 where
    pub front : IfOk (words_denoted name h asked) (λ words. TookFront was now (range_text name closed h words))
    pub none : IfErr (words_denoted name h asked) (λ refusal. now ≡ was)

  -- The text of the commits that range words list goes out, as `gx_export::export_range` sends it; or a word is refused, and the
  -- sink took nothing; or the export stops.
  abbrev pub Sends : Option Taken → Option Taken → Result (Unit {0}) ChangesFault → Type 0
  Sends was now (Ok _) = DeliversWords name closed h asked was now (Ok tt)
  Sends was now (Err (WriteFailed count)) = DeliversWords name closed h asked was now (Err (export.WriteFailed count))
  Sends was now (Err Unsupported) = DeliversWords name closed h asked was now (Err export.Unsupported)
  Sends was now (Err OutOfMemory) = SendsFront was now
  Sends was now (Err ReadFailed) = SendsFront was now
  Sends was now (Err Damaged) = ⊥
  Sends was now (Err (Refused number kind)) = (now ≡ was) × (words_denoted name h asked ≡ Err (record { word = number; fault = fault_of kind }))

-- of the repository that is told
abbrev pub SendsRange : (Kind → Bytes → Bytes) → Bool → List RangeWord → Option Taken → Option Taken → Result (Unit {0}) ChangesFault → Records → Type 0
SendsRange name closed asked was now result repository = Sends name closed (history_of repository) asked was now result
