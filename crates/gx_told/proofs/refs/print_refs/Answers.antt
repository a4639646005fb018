use Rattle.std.proofs.Common.{subst}
use Rattle.gx_objects.specs.Answers.{AreRefLines}
use Rattle.gx_print.specs.Stored.{refs_text}
use Rattle.gx_told.specs.Printing.{PrintsText}
use Rattle.gx_told.proofs.Prints.{look_stops, sent_prints}
use Rattle.gx_told.proofs.Tellings.{map_told}
use Rattle.gx_told.proofs.refs.print_refs.Goals as goal

pub returns-in-Ok : goal.returns-in-Ok
returns-in-Ok g c =
    let told = g.O.Objects.told c.args.objects.now in
    let was = g.W.Sink.taken c.args.sink.now in
    let now = g.W.Sink.taken c.put_text.new.sink in
    let answer = c.put_text.result in
    map_told told (λ r. AreRefLines r c.in-Ok.lines) (λ r. PrintsText (refs_text r) was now answer)
    (λ r h. subst (λ text. PrintsText text was now answer) h (sent_prints c.in-Ok.lines.now was now answer c.put_text.ensures)) c.in-Ok.ensures.lines

pub returns : goal.returns
returns g c = rw c.from.ensures (look_stops (g.O.Objects.told c.args.objects.now) refs_text (g.W.Sink.taken c.args.sink.now) c.in-Err.fault c.in-Err.ensures.fault)
