-- An export in memory, and its import into an empty store.
use Rattle.std.proofs.Common.{◌≡◌, ◌≤◌, ◌<◌, ℕ, Bool, true, false, refl, sym, ap, subst, ◌∙◌, arith, inl, inr, [], length, length-append, Option, Some, Result, Ok, Err}
use Rattle.std.specs.Prelude.{IfErr}
use Rattle.std.proofs.lemmas.Bool.{false≢true}
use Rattle.std.proofs.lemmas.Bool.Decides.{nat_tests}
use Rattle.gx_model.specs.declared.objects.Kind.{Kind}
use Rattle.gx_model.specs.Texts.{Bytes}
use Rattle.gx_model.specs.Changes.{changes_text}
use Rattle.gx_model.specs.declared.features.Features.{Features}
use Rattle.gx_model.specs.Histories.{History, Records, empty_repository}
use Rattle.gx_model.specs.Streams.Commands.{no_features}
use Rattle.gx_model.specs.Records.HistoryOf.{history_of}
use Rattle.gx_model.specs.Records.Sound.{IsSound}
use Rattle.gx_model.specs.Export.{export_text, reached_commits}
use Rattle.gx_model.specs.Histories.Values.{IsEncodingAlone, text_of}
use Rattle.gx_model.specs.Laws.ExportLaws.{HaveEncodingsAlone, IsSayable}
use Rattle.gx_model.proofs.Export.KeptCommits.{each_one}
use Rattle.gx_model.specs.Streams.Gitlinks.{HoldsSayable, HoldsTellsHas}
use Rattle.gx_model.specs.Texts.Sinks.{Taken, Took}
use Rattle.gx_text.specs.Devices.{Coming}
use Rattle.gx_stream.specs.Heard.{heard_upto}
use Rattle.gx_import.specs.Explaining.{TellsNothing}
use Rattle.gx_import.specs.Exported.{ExportedOr, ImportsExport}
use Rattle.gx_import.specs.Imports.{Imports}
use Rattle.gx_import.specs.Stopping.{StopsReplay}
use Rattle.gx_import.specs.declared.explanation.Explanation.{Explanation}
use Rattle.gx_import.specs.declared.report.Report.{Report}
use Rattle.gx_import.specs.declared.fault.ImportFault.{ImportFault}
use Rattle.gx_export.specs.Outputs.{StopsAt, most}
use Rattle.gx_export.specs.declared.fault.ExportFault.{ExportFault}
use Rattle.gx_export.specs.declared.fault.ExportFault.TheVariants.{Unsupported, WriteFailed}
use Rattle.gx_asks.specs.declared.question.ExportForm.{ExportForm}
use Rattle.gx_asks.specs.declared.question.ExportForm.TheVariants.{Changes, FullTree}
use Rattle.gx_cli.specs.Again.{FormsAreImported, LeaveForm}
use Rattle.gx_cli.specs.Explained.{ExplainsCommand}
use Rattle.gx_cli.specs.Forms.{ExportsAs, text_as}
use Rattle.gx_cli.specs.Headline.{ComesBack, ComesBackOr, GivesText, Returns, RoundTrips}
use Rattle.gx_cli.specs.declared.fault.CliFault.{CliFault}
use Rattle.gx_cli.specs.declared.fault.CliFault.TheVariants.{Export, Import, OutOfMemory}
use Rattle.gx_cli.specs.declared.questions.Question.{Question}
use Rattle.gx_cli.specs.declared.trips.RoundTrip.{RoundTrip}

-- a sink over memory that took nothing
abbrev pub no_bytes : Taken
no_bytes = record { bytes = []; failed = false }

-- a text that went out whole
sent_whole : (whole : Bytes) (was now : Taken) (text : Bytes) → was ≡ no_bytes → text ≡ now.bytes → Took (Some was) (Some now) whole × (length whole ≤ most) → (text ≡ whole) × (length text ≤ most)
sent_whole whole was now text empty is h =
    let sent = subst (λ z. Took (Some z) (Some now) whole × (length whole ≤ most)) empty h in
    let same : now ≡ record { bytes = whole; failed = false } = cc sent.0 in
    let all = is ∙ ap (λ (t : Taken). t.bytes) same in
    (all, subst (λ z. length z ≤ most) (sym all) sent.1)

-- a sink that hasn't failed took the most bytes, and more were left
too_long : (whole : Bytes) (now : Taken) (count : ℕ) → StopsAt 0 count (Some no_bytes) (Some now) whole → now.failed ≡ false → most < length whole
too_long whole now count (front, rest, text, more, counted, inl failed) sound =
    let same : now ≡ record { bytes = front; failed = true } = cc failed in
    absurd (false≢true (sym sound ∙ ap (λ (t : Taken). t.failed) same))
too_long whole now count (front, rest, text, more, counted, inr stopped) sound =
    let long = ap length text ∙ length-append front rest in
    omega (arith, long, more, counted, stopped.0)

-- an export in a form
module _ (name : Kind → Bytes → Bytes) where
  -- that went out whole
  pub exported_whole : (form : ExportForm) (repository : Records) (was now : Taken) (text : Bytes) (done : Unit {0}) → was ≡ no_bytes → text ≡ now.bytes → ExportsAs name form repository (Some was) (Some now) (Ok done)
      → (text ≡ text_as name form (history_of repository)) × (length text ≤ most)
  exported_whole FullTree repository was now text done empty is h = sent_whole (export_text (history_of repository)) was now text empty is h.1
  exported_whole (Changes closed) repository was now text done empty is h = sent_whole (changes_text name closed (history_of repository)) was now text empty is h.1

  -- that a stream could say, and yet wasn't said
  pub never_unsaid : (form : ExportForm) (repository : Records) (was now : Option Taken) (answer : Result (Unit {0}) ExportFault) (fault : ExportFault) → HoldsTellsHas → HoldsSayable (history_of repository)
      → answer ≡ Err fault → fault ≡ Unsupported → ExportsAs name form repository was now answer → ⊥
  never_unsaid form repository was now answer fault tells holds refused unsaid h =
      by form (subst (λ r. ExportsAs name form repository was now r) (refused ∙ ap Err unsaid) h)
    where
      alone : HaveEncodingsAlone (reached_commits (history_of repository))
      alone = each_one IsSayable (λ made. IsEncodingAlone (text_of made).headers) (λ made s. s.headers) (reached_commits (history_of repository)) (tells (history_of repository) holds)

      by : (form : ExportForm) → ExportsAs name form repository was now (Err Unsupported) → ⊥
      by FullTree k = k.1 alone
      by (Changes closed) k = k.1 alone

  -- that stopped at the sink
  stopped_as : (form : ExportForm) (repository : Records) (was now : Option Taken) (count : ℕ) → ExportsAs name form repository was now (Err (WriteFailed count)) → StopsAt 0 count was now (text_as name form (history_of repository))
  stopped_as FullTree repository was now count h = h
  stopped_as (Changes closed) repository was now count h = h

  -- that didn't go out, where the sink hasn't failed
  pub exported_too_long : (form : ExportForm) (repository : Records) (was now : Taken) (failed : Bool) (answer : Result (Unit {0}) ExportFault) (fault : ExportFault) (count : ℕ) → was ≡ no_bytes → failed ≡ now.failed → failed ≡ false
      → answer ≡ Err fault → fault ≡ WriteFailed count → ExportsAs name form repository (Some was) (Some now) answer → most < length (text_as name form (history_of repository))
  exported_too_long form repository was now failed answer fault count empty is sound refused written h =
      let text = text_as name form (history_of repository) in
      let told = subst (λ r. ExportsAs name form repository (Some was) (Some now) r) (refused ∙ ap Err written) h in
      let stops = stopped_as form repository (Some was) (Some now) count told in
      too_long text now count (subst (λ z. StopsAt 0 count (Some z) (Some now) text) empty stops) (sym is ∙ sound)

-- what is heard of a source that gives no more
pub heard_short : (room : ℕ) (c : Coming) → length c.bytes ≤ room → heard_upto room c ≡ c
unfolding heard_upto
heard_short room c short = grind (arith, nat_tests)

module _ {N : Type 0} (name_of : N → Kind → Bytes → Bytes) (namer : N) where
  -- no features leave the import of an export in any form as it is
  none_leave : (form : ExportForm) → LeaveForm form no_features
  none_leave FullTree = refl
  none_leave (Changes done) = (refl, inl refl)

  -- the import of an export's text into a repository with nothing
  pub imported_again : (form : ExportForm) (exported old : N × Records) (new : Records) (text : Bytes) (coming : Coming) (was now : Option Taken) (answer : Result Report ImportFault)
      → FormsAreImported (name_of namer) → HoldsTellsHas → old ≡ (namer, empty_repository) → exported.0 ≡ namer → IsSound (name_of exported.0) exported.1 → HoldsSayable (history_of exported.1)
      → coming ≡ record { bytes = text; fails = false } → text ≡ text_as (name_of namer) form (history_of exported.1) → length text ≤ most
      → IsSound (name_of old.0) new → Imports no_features (name_of old.0) old.1 new (Some coming) was now answer → IfErr answer (StopsReplay no_features (name_of old.0) old.1 (Some coming))
      → ImportsExport (name_of old.0) old.1 new (Some coming) answer → ExportedOr exported.1 new answer
  imported_again form exported old new text coming was now answer forms tells empty same sound none given whole short stands replayed stops taken =
      let sound_too = subst (λ n. IsSound (name_of n) exported.1) same sound in
      let gives = ap (heard_upto most) given ∙ heard_short most (record { bytes = text; fails = false }) short ∙ ap (λ z. record { bytes = z; fails = false }) whole in
      subst (λ (o : N × Records). IsSound (name_of o.0) new → Imports no_features (name_of o.0) o.1 new (Some coming) was now answer → IfErr answer (StopsReplay no_features (name_of o.0) o.1 (Some coming))
      → ImportsExport (name_of o.0) o.1 new (Some coming) answer → ExportedOr exported.1 new answer) (sym empty)
      (λ s r t e. forms no_features empty_repository new (Some coming) was now answer s r t (λ leaves. e) form exported.1 (none_leave form) sound_too (tells (history_of exported.1) none) gives refl)
      stands replayed stops taken

-- What came after an import into a repository: a trip with a report, by which the repository comes back, and a text of the export.
module _ {N : Type 0} (name_of : N → Kind → Bytes → Bytes) (namer : N) (asks : Features) (old new : N × Records) (same : old.0 ≡ namer) (coming : Option Coming) (was now : Option Taken) where
  imports_so : (answer : Result Report ImportFault) → Imports asks (name_of old.0) old.1 new.1 coming was now answer → Imports asks (name_of namer) old.1 new.1 coming was now answer
  imports_so answer h = subst (λ n. Imports asks (name_of n) old.1 new.1 coming was now answer) same h

  module _ {T : Type 0} (told : T → Report) (IsBack : Records → T → Type 0) (text_of : History → Bytes) where
    -- it was refused
    pub refused_first : (fault : ImportFault) → Imports asks (name_of old.0) old.1 new.1 coming was now (Err fault) → (fault.checkpoints ≡ 0 → new ≡ old)
        → Returns asks (name_of namer) told IsBack text_of old.1 new.1 coming was now (Err (Import fault))
    refused_first fault h unchanged = (imports_so (Err fault) h, λ none. ap (λ (r : N × Records). r.1) (unchanged none))

    -- there was no memory for the export, or it is too long
    pub stopped_between : (A : Type 0) (report : Report) (fault : CliFault) → Imports asks (name_of old.0) old.1 new.1 coming was now (Ok report) → GivesText {A = A} (text_of (history_of new.1)) (Err fault)
        → Returns asks (name_of namer) told IsBack text_of old.1 new.1 coming was now (Err fault)
    stopped_between A report OutOfMemory h stops = (report, imports_so (Ok report) h)
    stopped_between A report (Export f) h stops = (report, imports_so (Ok report) h, stops)
    stopped_between A report fault h stops = absurd stops

    -- what was imported came back
    pub came_back : (report : Report) (trip : T) → Imports asks (name_of old.0) old.1 new.1 coming was now (Ok report) → told trip ≡ report → IsBack new.1 trip
        → Returns asks (name_of namer) told IsBack text_of old.1 new.1 coming was now (Ok trip)
    came_back report trip h is back = (imports_so (Ok (told trip)) (subst (λ r. Imports asks (name_of old.0) old.1 new.1 coming was now (Ok r)) (sym is) h), back)

  -- what was imported came back by the round trip, or stopped on its way
  pub trip_came : {A : Type 0} (form : ExportForm) (question : Option (Question A)) (report : Report) (answer : Result (RoundTrip N A) CliFault) → Imports asks (name_of old.0) old.1 new.1 coming was now (Ok report)
      → ComesBackOr (name_of namer) {N = N} {A = A} form question report new.1 answer → RoundTrips (name_of namer) {N = N} {A = A} form asks question old.1 new.1 coming was now answer
  trip_came {A} form question report (Err fault) h k = stopped_between (λ (trip : RoundTrip N A). trip.report) (ComesBack (name_of namer) form question) (text_as (name_of namer) form) A report fault h k
  trip_came {A} form question report (Ok trip) h k = came_back (λ (trip : RoundTrip N A). trip.report) (ComesBack (name_of namer) form question) (text_as (name_of namer) form) report trip h k.0 k.1

-- of a trip that came back, or stopped on its way, nothing is told
pub trip_told : {N A : Type 0} (name : Kind → Bytes → Bytes) (form : ExportForm) (question : Option (Question A)) (report : Report) (old made : Records) (asks : Features) (coming : Option Coming) (answer : Result (RoundTrip N A) CliFault) (told : Explanation A)
    → ComesBackOr name {N = N} {A = A} form question report made answer → TellsNothing told → ExplainsCommand name asks old coming answer told
trip_told name form question report old made asks coming (Err (Import fault)) told h k = absurd h
trip_told name form question report old made asks coming (Ok trip) told h k = k
trip_told name form question report old made asks coming (Err fault) told h k = k
