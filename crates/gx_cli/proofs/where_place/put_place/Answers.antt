use Rattle.std.proofs.Common.{◌∙◌, subst, Option, Result, Ok, Err}
use Rattle.gx_model.specs.Texts.Sinks.{Taken}
use Rattle.gx_where.specs.declared.place.Place.{Place}
use Rattle.gx_cli.specs.Placing.{PutsPlace, place_line}
use Rattle.gx_cli.specs.Sending.{Sent}
use Rattle.gx_cli.specs.declared.fault.CliFault.{CliFault}
use Rattle.gx_cli.specs.declared.fault.CliFault.TheVariants.{OutOfMemory}
use Rattle.gx_cli.proofs.where_place.put_place.Goals as goal

sent_so : (place : Place) (was now : Option Taken) (answer : Result (Unit {0}) CliFault) → Sent (place_line place) was now answer → PutsPlace place was now answer
sent_so place was now (Ok u) h = h
sent_so place was now (Err OutOfMemory) h = absurd h
sent_so place was now (Err fault) h = h

pub returns : goal.returns
returns g c =
    let was = g.W.Sink.taken c.args.sink.now in
    let now = g.W.Sink.taken c.put_text.new.sink in
    sent_so c.args.place was now c.put_text.result (subst (λ text. Sent text was now c.put_text.result) (c.deref.ensures.value ∙ c.in_ok-write_place.ensures) c.put_text.ensures)
