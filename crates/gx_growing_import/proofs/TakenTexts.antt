-- What an import of a text in memory takes.
use Rattle.std.proofs.Common.{ℕ, ◌≤◌, ◌^◌, ◌-◌, ◌≡◌, Bool, false, length, ap, sym, subst, ◌∙◌, Some, Ok, arith}
use Rattle.std.proofs.lemmas.Bool.Decides.{nat_tests}
use Rattle.std.specs.Prelude.{[]}
use Rattle.gx_model.specs.declared.features.Features.{Features}
use Rattle.gx_model.specs.declared.objects.Kind.{Kind}
use Rattle.gx_model.specs.Texts.{Bytes}
use Rattle.gx_model.specs.Texts.Sinks.{Taken}
use Rattle.gx_model.specs.Histories.{Records}
use Rattle.gx_model.specs.Records.HistoryOf.{history_of}
use Rattle.gx_model.specs.Replay.{finished, imported_asked}
use Rattle.gx_text.specs.Devices.{Coming}
use Rattle.gx_stream.specs.Heard.{heard_upto}
use Rattle.gx_import.specs.Imports.{Imports, StandsForIts, StandsForReplay, report_of}
use Rattle.gx_import.specs.declared.report.Report.{Report}
use Rattle.gx_growing_import.specs.Importing.{TakesText}

-- what is heard of a source that gives no more
heard_short : (room : ℕ) (c : Coming) → length c.bytes ≤ room → heard_upto room c ≡ c
unfolding heard_upto
heard_short room c short = grind (arith, nat_tests)

-- an import of a text that a sink which took nothing is told of
pub takes_text : (name : Kind → Bytes → Bytes) (asks : Features) (old new : Records) (text : Bytes) (fails : Bool) (now : Taken) (report : Report)
    → length text ≤ 2 ^ 63 - 1 → Imports asks name old new (Some (record { bytes = text; fails = fails })) (Some (record { bytes = []; failed = false })) (Some now) (Ok report)
    → StandsForReplay asks name old new (Some (record { bytes = text; fails = fails })) → TakesText name asks old new text fails now.bytes report
takes_text name asks old new text fails now report short imports stands =
    let c : Coming = record { bytes = text; fails = fails } in
    let same = heard_short (2 ^ 63 - 1) c short in
    let progress : now.bytes ≡ imports.0 = let o : now ≡ record { bytes = imports.0; failed = false } = cc imports.2 in ap (λ (t : Taken). t.bytes) o in
    let accepted = subst (λ (heard : Coming). imported_asked asks name (history_of old) heard.bytes heard.fails ≡ finished (history_of new) imports.0 (report_of report)) same imports.1 in
    let stood = subst (λ (heard : Coming). StandsForIts name (imported_asked asks name (history_of old) heard.bytes heard.fails) new) same stands in
    record {
      accepted = accepted ∙ ap (λ told. finished (history_of new) told (report_of report)) (sym progress);
      stands = (subst (λ outcome. StandsForIts name outcome new) accepted stood).1;
    }
