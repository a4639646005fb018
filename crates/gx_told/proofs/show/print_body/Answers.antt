use Rattle.std.proofs.Common.{◌≡◌, subst}
use Rattle.std.specs.Borrow.{Bor}
use Rattle.gx_model.specs.Records.{body_of}
use Rattle.gx_model.specs.Texts.{Bytes}
use Rattle.gx_rev.specs.Objects.{value_at}
use Rattle.gx_told.specs.Printing.{PrintsText}
use Rattle.gx_told.proofs.Prints.{held_stops, sent_prints}
use Rattle.gx_told.proofs.Tellings.{map_told}
use Rattle.gx_told.proofs.show.print_body.Goals as goal

pub returns-in-Ok : goal.returns-in-Ok
returns-in-Ok g c =
    let told = g.O.Objects.told c.args.objects.now in
    let name = g.O.Objects.name_of c.args.objects.now in
    let called = c.args.name.now in
    let was = g.W.Sink.taken c.args.sink.now in
    let now = g.W.Sink.taken c.put_text.new.sink in
    let answer = c.put_text.result in
    map_told told (λ r. c.in-Ok.body.now ≡ body_of name (value_at r called)) (λ r. PrintsText (body_of name (value_at r called)) was now answer)
    (λ r h. subst (λ text. PrintsText text was now answer) h (sent_prints c.in-Ok.body.now was now answer c.put_text.ensures)) c.in-Ok.ensures.body

pub returns-in-Err : goal.returns-in-Err
returns-in-Err g c =
    let told = g.O.Objects.told c.args.objects.now in
    let name = g.O.Objects.name_of c.args.objects.now in
    let was = g.W.Sink.taken c.args.sink.now in
    rw c.refused.ensures (held_stops (Bor Bytes) told (λ r. body_of name (value_at r c.args.name.now)) was c.in-Err.fault c.in-Err.ensures.fault)
