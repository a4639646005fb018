-- What an export answers, and what it makes of the sink.
-- Source: git-fast-export(1).
use Rattle.std.specs.Prelude.{◌∷◌, ◌++◌, ◌≤◌, [], length, List, map, Option, Result, Ok, Err}
use Rattle.gx_model.specs.declared.features.Feature.TheVariants as features
use Rattle.gx_model.specs.Streams.Commands.{Asks, Done}
use Rattle.gx_model.specs.Export.{command_items, commit_commands, export_text, items_text, reached_commits, ref_command}
use Rattle.gx_model.specs.Histories.{History, Records}
use Rattle.gx_model.specs.Histories.Values.{Value}
use Rattle.gx_model.specs.Streams.Items.{Item}
use Rattle.gx_model.specs.Records.HistoryOf.{history_of}
use Rattle.gx_model.specs.Texts.{Bytes}
use Rattle.gx_model.specs.Texts.Sinks.{Taken, Took, TookFront}
use Rattle.gx_export.specs.Outputs.{StopsAt, most}
use Rattle.gx_export.specs.Sayable.{WhereSayable}
use Rattle.gx_export.specs.Texts.{items_of, last_items}
use Rattle.gx_export.specs.declared.fault.ExportFault.{ExportFault}
use Rattle.gx_export.specs.declared.fault.ExportFault.TheVariants.{OutOfMemory, Unsupported, WriteFailed}

-- an export's items up to its last commit
abbrev pub front_items : History → List Item
front_items h = items_of (Asks features.Done ∷ commit_commands [] (reached_commits h))

-- an export's items behind its last commit, by the values that were written
abbrev pub rest_items : History → List Value → List Item
rest_items h ws = last_items (length ws) ++ (items_of (map (ref_command ws) h.refs) ++ command_items Done)

-- an export's text up to its last commit: behind it no memory is taken
abbrev pub commits_text : History → Bytes
commits_text h = items_text (front_items h)

-- The sink took the text of the repository's history, and its length is at most 2^63 - 1; or memory ran out among the
-- commits; or the sink didn't take all of the text.
abbrev pub SendsExport : Records → Option Taken → Option Taken → Result (Unit {0}) ExportFault → Type 0
SendsExport repository was now (Ok _) = Took was now (export_text (history_of repository)) × (length (export_text (history_of repository)) ≤ most)
SendsExport repository was now (Err OutOfMemory) = TookFront was now (commits_text (history_of repository))
SendsExport repository was now (Err (WriteFailed count)) = StopsAt 0 count was now (export_text (history_of repository))
SendsExport repository was now (Err Unsupported) = ⊥

-- The same where a stream can say what refs reach, and nothing where it can't.
abbrev pub Exports : Records → Option Taken → Option Taken → Result (Unit {0}) ExportFault → Type 0
Exports repository was now result = WhereSayable (reached_commits (history_of repository)) (SendsExport repository) was now result
