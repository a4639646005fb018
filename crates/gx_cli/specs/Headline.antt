-- The headline: what comes of a stream that is imported into a repository, of what is asked there then, and of that repository when
-- it is exported in a form, and that is imported into an empty one.
-- Source: git-fast-import(1) and git-fast-export(1).
use Rattle.std.specs.Prelude.{◌≡◌, ◌⊎◌, ℕ, ◌<◌, ◌≤◌, length, Option, Result, Ok, Err, ⊤}
use Rattle.std.specs.declared.vec.Vec.{Vec}
use Rattle.gx_model.specs.declared.objects.Kind.{Kind}
use Rattle.gx_model.specs.declared.features.Features.{Features}
use Rattle.gx_model.specs.Texts.{Bytes}
use Rattle.gx_model.specs.Histories.{History, Records, StandsFor}
use Rattle.gx_model.specs.Records.HistoryOf.{history_of}
use Rattle.gx_model.specs.Texts.Sinks.{Taken}
use Rattle.gx_text.specs.Devices.{Coming}
use Rattle.gx_import.specs.Exported.{IsExported}
use Rattle.gx_import.specs.Imports.{Imports}
use Rattle.gx_import.specs.declared.report.Report.{Report}
use Rattle.gx_import.specs.declared.fault.ImportFault.{ImportFault}
use Rattle.gx_model.specs.declared.faults.Fault.TheVariants as kind
use Rattle.gx_export.specs.Outputs.{most}
use Rattle.gx_asks.specs.declared.question.ExportForm.{ExportForm}
use Rattle.gx_cli.specs.Forms.{text_as}
use Rattle.gx_cli.specs.Questions.{Replies}
use Rattle.gx_cli.specs.declared.fault.CliFault.{CliFault}
use Rattle.gx_cli.specs.declared.fault.CliFault.TheVariants.{Export, Import, OutOfMemory}
use Rattle.gx_cli.specs.declared.questions.Question.{Question}
use Rattle.gx_cli.specs.declared.trips.RoundTrip.{RoundTrip}

-- this text is given, unless memory ran out or it has more than 2^63 - 1 bytes
abbrev pub GivesText : {A : Type 0} → Bytes → Result (Vec ℕ A) CliFault → Type 0
GivesText text (Ok given) = (given.items ≡ text) × (length given.items ≤ most)
GivesText text (Err OutOfMemory) = ⊤
GivesText text (Err (Export fault)) = most < length text
GivesText text (Err fault) = ⊥

-- the import of an export into an empty store makes that repository again, unless memory ran out or the sink failed
abbrev pub ImportsAgainOr : {N : Type 0} → Records → Result (N × Records) ImportFault → Type 0
ImportsAgainOr exported (Ok again) = IsExported exported again.1
ImportsAgainOr exported (Err fault) = ((fault.kind ≡ kind.OutOfMemory) ⊎ (fault.kind ≡ kind.WriteFailed)) × (fault.checkpoints ≡ 0)

-- the import of a repository's export in a form makes it again, with the text of the export; or memory ran out, or the export
-- has more than 2^63 - 1 bytes
abbrev pub ExportsAgain : {N A : Type 0} → (Kind → Bytes → Bytes) → ExportForm → Records → Result ((N × Records) × Vec ℕ A) CliFault → Type 0
ExportsAgain name form first (Ok made) = (made.1.items ≡ text_as name form (history_of first)) × IsExported first made.0.1
ExportsAgain {N} {A} name form first (Err fault) = GivesText {A = A} (text_as name form (history_of first)) (Err fault)

-- A trip with this report, by which a repository comes back, and the text of its export.
module _ (asks : Features) (name : Kind → Bytes → Bytes) {T : Type 0} (told : T → Report) (IsBack : Records → T → Type 0) (text_of : History → Bytes) where
  -- The repository has what the replay of the commands of a source gives, from its old history on, and comes back. Or the import
  -- is refused as the replay is, or interrupted, and the repository is left as the last checkpoint published it, and as it was
  -- where there was none. Or memory ran out after the import, or the export has more than 2^63 - 1 bytes.
  abbrev pub Returns : Records → Records → Option Coming → Option Taken → Option Taken → Result T CliFault → Type 0
  Returns old new coming was now (Ok trip) = Imports asks name old new coming was now (Ok (told trip)) × IsBack new trip
  Returns old new coming was now (Err (Import fault)) =
      Imports asks name old new coming was now (Err fault) × (fault.checkpoints ≡ 0 → new ≡ old)
  Returns old new coming was now (Err OutOfMemory) = (report : Report) × Imports asks name old new coming was now (Ok report)
  Returns old new coming was now (Err (Export fault)) =
      (report : Report) × Imports asks name old new coming was now (Ok report) × (most < length (text_of (history_of new)))
  Returns old new coming was now (Err fault) = ⊥

module _ (name : Kind → Bytes → Bytes) {N A : Type 0} (form : ExportForm) (question : Option (Question A)) where
  pub record ComesBack (made : Records) (trip : RoundTrip N A) : Type 0 where
    -- The repository stands for its history: its commits with their files, parents and messages, its tags and its refs.
    pub stands : StandsFor name made (history_of made)
    -- A file, a commit's fields and the commits of range words are answered as the history has them.
    pub reply : Replies name (history_of made) question trip.reply
    -- The text is the history's export in this form.
    pub text : trip.text.items ≡ text_as name form (history_of made)
    -- The second repository has the same refs under the same object names, exactly what they reach, and the same export. It
    -- stands for its own history.
    pub again : IsExported made trip.again.1
    pub stands_again : StandsFor name trip.again.1 (history_of trip.again.1)

  -- What an import made comes back, with its report; or memory ran out, or the export has more than 2^63 - 1 bytes.
  abbrev pub ComesBackOr : Report → Records → Result (RoundTrip N A) CliFault → Type 0
  ComesBackOr report made (Ok trip) = (trip.report ≡ report) × ComesBack made trip
  ComesBackOr report made (Err fault) = GivesText {A = A} (text_as name form (history_of made)) (Err fault)

-- What the import of a stream into a repository made comes back, where these features are asked for. Or the import is refused; or
-- memory ran out after it, or the export has more than 2^63 - 1 bytes.
abbrev pub RoundTrips : (Kind → Bytes → Bytes) → {N A : Type 0} → ExportForm → Features → Option (Question A) → Records → Records → Option Coming → Option Taken → Option Taken → Result (RoundTrip N A) CliFault → Type 0
RoundTrips name {N} {A} form asks question = Returns asks name (λ (trip : RoundTrip N A). trip.report) (ComesBack name {N = N} form question) (text_as name form)
