-- The forms of an export.
-- Source: git-fast-export(1), "--full-tree".
use Rattle.std.specs.Prelude.{◌≡◌, Bool, List, Option, Result, Ok, Err}
use Rattle.gx_model.specs.declared.objects.Kind.{Kind}
use Rattle.gx_model.specs.Texts.{Bytes}
use Rattle.gx_model.specs.Texts.Sinks.{Taken}
use Rattle.gx_model.specs.Changes.{changes_text}
use Rattle.gx_model.specs.Export.{export_text}
use Rattle.gx_model.specs.Histories.{History, Records}
use Rattle.gx_model.specs.Faults.{◌>>=◌}
use Rattle.gx_model.specs.Records.HistoryOf.{history_of}
use Rattle.gx_model.specs.Revisions.{RangeWord, range_of}
use Rattle.gx_model.specs.Revisions.Ranges.{each_word}
use Rattle.gx_rev.specs.RevFaults.{fault_of}
use Rattle.gx_export.specs.ChangedParts.{DeliversWords, ExportsChanges}
use Rattle.gx_export.specs.Exports.{Exports}
use Rattle.gx_export.specs.declared.fault.ExportFault.{ExportFault}
use Rattle.gx_print.specs.Stored.{all_words, commits_listed, of_word}
use Rattle.gx_cli.specs.declared.fault.CliFault.{CliFault}
use Rattle.gx_cli.specs.declared.fault.CliFault.TheVariants.{Export, OutOfMemory, Revision}
use Rattle.gx_asks.specs.declared.question.ExportForm.{ExportForm}
use Rattle.gx_asks.specs.declared.question.ExportForm.TheVariants.{Changes, FullTree}

module _ (name : Kind → Bytes → Bytes) where
  -- the text of a history's export in a form
  abbrev pub text_as : ExportForm → History → Bytes
  text_as FullTree h = export_text h
  text_as (Changes done) h = changes_text name done h

  -- what a repository's export in a form answers, and what it makes of the sink
  abbrev pub ExportsAs : ExportForm → Records → Option Taken → Option Taken → Result (Unit {0}) ExportFault → Type 0
  ExportsAs FullTree repository was now answer = Exports repository was now answer
  ExportsAs (Changes done) repository was now answer = ExportsChanges name done repository was now answer

  -- The text of what range words give goes out, with a fault of the export among those of the commands. Or the first word that
  -- is refused is told, or memory ran out before, and nothing went out.
  abbrev pub SendsRange : Bool → Records → List Bytes → Option Taken → Option Taken → Result (Unit {0}) CliFault → Type 0
  SendsRange done repository words was now (Ok _) =
      (asked : List RangeWord) × (each_word range_of words ≡ Ok asked) × DeliversWords name done (history_of repository) asked was now (Ok tt)
  SendsRange done repository words was now (Err (Export fault)) =
      (asked : List RangeWord) × (each_word range_of words ≡ Ok asked) × DeliversWords name done (history_of repository) asked was now (Err fault)
  SendsRange done repository words was now (Err OutOfMemory) = now ≡ was
  SendsRange done repository words was now (Err (Revision number kind)) =
      (now ≡ was) × (all_words (each_word range_of words >>= commits_listed name (history_of repository)) ≡ Err (of_word number (fault_of kind)))
  SendsRange done repository words was now (Err fault) = ⊥
