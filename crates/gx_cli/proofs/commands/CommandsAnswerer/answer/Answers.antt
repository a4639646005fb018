use Rattle.std.proofs.Common.{Ok, Some, [], subst}
use Rattle.gx_model.specs.Records.HistoryOf.{history_of}
use Rattle.gx_model.proofs.Texts.SentTexts.{took_nothing}
use Rattle.gx_cli.specs.Answers.{Prints}
use Rattle.gx_print.specs.Stored.{list_text, refs_text}
use Rattle.gx_cli.specs.Archived.{tar_text}
use Rattle.gx_cli.proofs.CommandAnswers.{asked_answered}
use Rattle.gx_cli.proofs.commands.CommandsAnswerer.answer.Goals as goal

pub returns-in-Contents : goal.returns-in-Contents
returns-in-Contents g c =
    let self = c.args.self.now in
    asked_answered (g.N.Namer.name_of self.repo.now.0) self.format.now.parts.items self.repo.now.1 c.args.line.now c.read_asked.result _ (g.W.Sink.taken c.args.sink.now) (g.W.Sink.taken c.tell.new.sink) c.tell.result c.in-Contents.is c.read_asked.ensures c.tell.ensures

pub returns-in-Info : goal.returns-in-Info
returns-in-Info g c =
    let self = c.args.self.now in
    asked_answered (g.N.Namer.name_of self.repo.now.0) self.format.now.parts.items self.repo.now.1 c.args.line.now c.read_asked.result _ (g.W.Sink.taken c.args.sink.now) (g.W.Sink.taken c.tell-in-Info.new.sink) c.tell-in-Info.result c.in-Info.is c.read_asked.ensures c.tell-in-Info.ensures

pub returns-in-Refs : goal.returns-in-Refs
returns-in-Refs g c =
    let self = c.args.self.now in
    let r = self.repo.now in
    let given = Ok (refs_text r.1) in
    let printed = subst (λ empty. Prints given (Some empty) (Some c.print_refs-printed.new.sink) c.print_refs-printed.result) c.new-made.ensures c.print_refs-printed.ensures in
    asked_answered (g.N.Namer.name_of r.0) self.format.now.parts.items r.1 c.args.line.now c.read_asked.result _ (g.W.Sink.taken c.args.sink.now) (g.W.Sink.taken c.send_printed.new.sink) c.send_printed.result c.in-Refs.is c.read_asked.ensures (c.send_printed.ensures given printed)

pub returns-in-List : goal.returns-in-List
returns-in-List g c =
    let self = c.args.self.now in
    let r = self.repo.now in
    let given = list_text (g.N.Namer.name_of r.0) c.in-List.recursive (history_of r.1) c.in-List.revision.now in
    let printed = subst (λ empty. Prints given (Some empty) (Some c.list-printed.new.sink) c.list-printed.result) c.new-made-in-List.ensures c.list-printed.ensures in
    asked_answered (g.N.Namer.name_of r.0) self.format.now.parts.items r.1 c.args.line.now c.read_asked.result _ (g.W.Sink.taken c.args.sink.now) (g.W.Sink.taken c.send_printed-in-List.new.sink) c.send_printed-in-List.result c.in-List.is c.read_asked.ensures (c.send_printed-in-List.ensures given printed)

pub returns-in-Archive : goal.returns-in-Archive
returns-in-Archive g c =
    let self = c.args.self.now in
    let r = self.repo.now in
    let given = tar_text (g.N.Namer.name_of r.0) [] (history_of r.1) c.in-Archive.revision.now in
    let printed = subst (λ empty. Prints given (Some empty) (Some c.print_archive-printed.new.sink) c.print_archive-printed.result) c.new-made-in-Archive.ensures c.print_archive-printed.ensures in
    asked_answered (g.N.Namer.name_of r.0) self.format.now.parts.items r.1 c.args.line.now c.read_asked.result _ (g.W.Sink.taken c.args.sink.now) (g.W.Sink.taken c.send_printed-in-Archive.new.sink) c.send_printed-in-Archive.result c.in-Archive.is c.read_asked.ensures (c.send_printed-in-Archive.ensures given printed)

pub returns-in-Log : goal.returns-in-Log
returns-in-Log g c =
    let self = c.args.self.now in
    asked_answered (g.N.Namer.name_of self.repo.now.0) self.format.now.parts.items self.repo.now.1 c.args.line.now c.read_asked.result _ (g.W.Sink.taken c.args.sink.now) (g.W.Sink.taken c.print_log.new.sink) c.print_log.result c.in-Log.is c.read_asked.ensures c.print_log.ensures

pub returns-in-Names : goal.returns-in-Names
returns-in-Names g c =
    let self = c.args.self.now in
    asked_answered (g.N.Namer.name_of self.repo.now.0) self.format.now.parts.items self.repo.now.1 c.args.line.now c.read_asked.result _ (g.W.Sink.taken c.args.sink.now) (g.W.Sink.taken c.print_names.new.sink) c.print_names.result c.in-Names.is c.read_asked.ensures c.print_names.ensures

pub returns-in-Unknown : goal.returns-in-Unknown
returns-in-Unknown g c =
    let self = c.args.self.now in
    asked_answered (g.N.Namer.name_of self.repo.now.0) self.format.now.parts.items self.repo.now.1 c.args.line.now c.read_asked.result _ (g.W.Sink.taken c.args.sink.now) (g.W.Sink.taken c.refuse.new.sink) c.refuse.result c.in-Unknown.is c.read_asked.ensures c.refuse.ensures

pub returns-in-Flush : goal.returns-in-Flush
returns-in-Flush g c =
    let self = c.args.self.now in
    let was = g.W.Sink.taken c.args.sink.now in
    asked_answered (g.N.Namer.name_of self.repo.now.0) self.format.now.parts.items self.repo.now.1 c.args.line.now c.read_asked.result _ was was (Ok tt) c.in-Flush.is c.read_asked.ensures (took_nothing was)
