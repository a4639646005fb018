use Rattle.gx_model.specs.Faults.{◌>>=◌}
use Rattle.gx_model.specs.Records.HistoryOf.{history_of}
use Rattle.gx_model.specs.Revisions.{revision_of}
use Rattle.gx_model.specs.Revisions.Denotation.{denoted}
use Rattle.gx_rev.specs.Answers.{shown_by}
use Rattle.gx_print.specs.Listings.{shown_text}
use Rattle.gx_told.proofs.Prints.{only_given, only_refused}
use Rattle.gx_told.proofs.show.show.Goals as goal

pub returns-in-Ok : goal.returns-in-Ok
returns-in-Ok g c =
    let told = g.O.Objects.told c.args.objects.now in
    let name = g.O.Objects.name_of c.args.objects.now in
    let was = g.W.Sink.taken c.args.sink.now in
    let now = g.W.Sink.taken c.print_shown.new.sink in
    only_given told (λ r. revision_of c.args.word.now >>= denoted name (history_of r)) (λ r. shown_by r c.in-Ok.shown) (λ r. shown_text name) was now c.print_shown.result c.in-Ok.ensures.shown c.print_shown.ensures

pub returns : goal.returns
returns g c =
    let told = g.O.Objects.told c.args.objects.now in
    let name = g.O.Objects.name_of c.args.objects.now in
    let was = g.W.Sink.taken c.args.sink.now in
    rw c.refused.ensures (only_refused told (λ r. revision_of c.args.word.now >>= denoted name (history_of r)) (λ r. shown_text name) was c.in-Err.fault c.in-Err.ensures.shown)
