use Rattle.std.proofs.Common.{Ok, Some, [], false, refl, subst, true}
use Rattle.std.specs.Prelude.{codes}
use Rattle.gx_model.specs.Records.HistoryOf.{history_of}
use Rattle.gx_model.proofs.Texts.SentTexts.{took_nothing}
use Rattle.gx_batch.specs.Answers.{batch_answer, reason}
use Rattle.gx_print.specs.Asking.{answered_by, no_options}
use Rattle.gx_print.specs.Logs.{log_text}
use Rattle.gx_print.specs.Stored.{list_text, names_text, refs_text}
use Rattle.gx_print.specs.Words.{words_in}
use Rattle.gx_told.specs.Archiving.{tar_text}
use Rattle.gx_told.specs.Batching.{SendsAnswer, command_answer, having_taken}
use Rattle.gx_told.specs.Printing.{Prints, PrintsText}
use Rattle.gx_told.proofs.AnsweredCommands.{asked_answered}
use Rattle.gx_told.proofs.Prints.{given_text}
use Rattle.gx_told.proofs.Tellings.{each_told, map_told}
use Rattle.gx_told.proofs.batches.commands.answer_command.Goals as goal

pub returns-in-Contents : goal.returns-in-Contents
returns-in-Contents g c =
    let told = g.O.Objects.told c.args.objects.now in
    let name = g.O.Objects.name_of c.args.objects.now in
    let parts = c.args.format.now.parts.items in
    let was = g.W.Sink.taken c.args.sink.now in
    let now = g.W.Sink.taken c.answer_revision.new.sink in
    let answer = c.answer_revision.result in
    map_told told (λ r. SendsAnswer (batch_answer name false parts (history_of r) c.in-Contents.revision.now) was now answer) (λ r. SendsAnswer (command_answer name parts r c.args.line.now) was now answer)
    (λ r h. asked_answered name parts r c.args.line.now c.read_asked.result _ was now answer c.in-Contents.is c.read_asked.ensures h) c.answer_revision.ensures

pub returns-in-Info : goal.returns-in-Info
returns-in-Info g c =
    let told = g.O.Objects.told c.args.objects.now in
    let name = g.O.Objects.name_of c.args.objects.now in
    let parts = c.args.format.now.parts.items in
    let was = g.W.Sink.taken c.args.sink.now in
    let now = g.W.Sink.taken c.answer_revision-in-Info.new.sink in
    let answer = c.answer_revision-in-Info.result in
    map_told told (λ r. SendsAnswer (batch_answer name true parts (history_of r) c.in-Info.revision.now) was now answer) (λ r. SendsAnswer (command_answer name parts r c.args.line.now) was now answer)
    (λ r h. asked_answered name parts r c.args.line.now c.read_asked.result _ was now answer c.in-Info.is c.read_asked.ensures h) c.answer_revision-in-Info.ensures

pub returns-in-Refs : goal.returns-in-Refs
returns-in-Refs g c =
    let told = g.O.Objects.told c.args.objects.now in
    let name = g.O.Objects.name_of c.args.objects.now in
    let parts = c.args.format.now.parts.items in
    let was = g.W.Sink.taken c.args.sink.now in
    let now = g.W.Sink.taken c.send_printed.new.sink in
    let answer = c.send_printed.result in
    map_told told (λ r. PrintsText (refs_text r) (Some c.new-made.result) (Some c.print_refs-printed.new.sink) c.print_refs-printed.result) (λ r. SendsAnswer (command_answer name parts r c.args.line.now) was now answer)
    (λ r h. asked_answered name parts r c.args.line.now c.read_asked.result _ was now answer c.in-Refs.is c.read_asked.ensures (c.send_printed.ensures (Ok (refs_text r)) (given_text (Ok (refs_text r)) (refs_text r) (Some (having_taken [])) (Some c.print_refs-printed.new.sink) c.print_refs-printed.result refl (subst (λ empty. PrintsText (refs_text r) (Some empty) (Some c.print_refs-printed.new.sink) c.print_refs-printed.result) c.new-made.ensures h)))) c.print_refs-printed.ensures

pub returns-in-List : goal.returns-in-List
returns-in-List g c =
    let told = g.O.Objects.told c.args.objects.now in
    let name = g.O.Objects.name_of c.args.objects.now in
    let parts = c.args.format.now.parts.items in
    let was = g.W.Sink.taken c.args.sink.now in
    let now = g.W.Sink.taken c.send_printed-in-List.new.sink in
    let answer = c.send_printed-in-List.result in
    map_told told (λ r. Prints (list_text name c.in-List.recursive (history_of r) c.in-List.revision.now) (Some c.new-made-in-List.result) (Some c.list-printed.new.sink) c.list-printed.result) (λ r. SendsAnswer (command_answer name parts r c.args.line.now) was now answer)
    (λ r h. asked_answered name parts r c.args.line.now c.read_asked.result _ was now answer c.in-List.is c.read_asked.ensures (c.send_printed-in-List.ensures (list_text name c.in-List.recursive (history_of r) c.in-List.revision.now) (subst (λ empty. Prints (list_text name c.in-List.recursive (history_of r) c.in-List.revision.now) (Some empty) (Some c.list-printed.new.sink) c.list-printed.result) c.new-made-in-List.ensures h))) c.list-printed.ensures

pub returns-in-Archive : goal.returns-in-Archive
returns-in-Archive g c =
    let told = g.O.Objects.told c.args.objects.now in
    let name = g.O.Objects.name_of c.args.objects.now in
    let parts = c.args.format.now.parts.items in
    let was = g.W.Sink.taken c.args.sink.now in
    let now = g.W.Sink.taken c.send_printed-in-Archive.new.sink in
    let answer = c.send_printed-in-Archive.result in
    map_told told (λ r. Prints (tar_text name [] (history_of r) c.in-Archive.revision.now) (Some c.new-made-in-Archive.result) (Some c.print_archive-printed.new.sink) c.print_archive-printed.result) (λ r. SendsAnswer (command_answer name parts r c.args.line.now) was now answer)
    (λ r h. asked_answered name parts r c.args.line.now c.read_asked.result _ was now answer c.in-Archive.is c.read_asked.ensures (c.send_printed-in-Archive.ensures (tar_text name [] (history_of r) c.in-Archive.revision.now) (subst (λ empty. Prints (tar_text name [] (history_of r) c.in-Archive.revision.now) (Some empty) (Some c.print_archive-printed.new.sink) c.print_archive-printed.result) c.new-made-in-Archive.ensures h))) c.print_archive-printed.ensures

pub returns-in-Log : goal.returns-in-Log
returns-in-Log g c =
    let told = g.O.Objects.told c.args.objects.now in
    let name = g.O.Objects.name_of c.args.objects.now in
    let parts = c.args.format.now.parts.items in
    let was = g.W.Sink.taken c.args.sink.now in
    let now = g.W.Sink.taken c.answer_log.new.sink in
    let answer = c.answer_log.result in
    map_told told (λ r. SendsAnswer (answered_by reason (codes "log") (words_in c.in-Log.rest.now) (log_text name no_options (history_of r) (words_in c.in-Log.rest.now))) was now answer) (λ r. SendsAnswer (command_answer name parts r c.args.line.now) was now answer)
    (λ r h. asked_answered name parts r c.args.line.now c.read_asked.result _ was now answer c.in-Log.is c.read_asked.ensures h) c.answer_log.ensures

pub returns-in-Names : goal.returns-in-Names
returns-in-Names g c =
    let told = g.O.Objects.told c.args.objects.now in
    let name = g.O.Objects.name_of c.args.objects.now in
    let parts = c.args.format.now.parts.items in
    let was = g.W.Sink.taken c.args.sink.now in
    let now = g.W.Sink.taken c.answer_names.new.sink in
    let answer = c.answer_names.result in
    map_told told (λ r. SendsAnswer (answered_by reason (codes "rev-parse") (words_in c.in-Names.rest.now) (names_text name (history_of r) (words_in c.in-Names.rest.now))) was now answer) (λ r. SendsAnswer (command_answer name parts r c.args.line.now) was now answer)
    (λ r h. asked_answered name parts r c.args.line.now c.read_asked.result _ was now answer c.in-Names.is c.read_asked.ensures h) c.answer_names.ensures

pub returns-in-Unknown : goal.returns-in-Unknown
returns-in-Unknown g c =
    let told = g.O.Objects.told c.args.objects.now in
    let name = g.O.Objects.name_of c.args.objects.now in
    let parts = c.args.format.now.parts.items in
    let was = g.W.Sink.taken c.args.sink.now in
    let now = g.W.Sink.taken c.send_line.new.sink in
    each_told told (λ r. SendsAnswer (command_answer name parts r c.args.line.now) was now c.send_line.result) (λ r. asked_answered name parts r c.args.line.now c.read_asked.result _ was now c.send_line.result c.in-Unknown.is c.read_asked.ensures c.send_line.ensures)

pub returns-in-Flush : goal.returns-in-Flush
returns-in-Flush g c =
    let told = g.O.Objects.told c.args.objects.now in
    let name = g.O.Objects.name_of c.args.objects.now in
    let parts = c.args.format.now.parts.items in
    let was = g.W.Sink.taken c.args.sink.now in
    each_told told (λ r. SendsAnswer (command_answer name parts r c.args.line.now) was was (Ok tt)) (λ r. asked_answered name parts r c.args.line.now c.read_asked.result _ was was (Ok tt) c.in-Flush.is c.read_asked.ensures (took_nothing was))
