use Rattle.std.proofs.Common.{◌∙◌, subst, ℕ, Option, Result, Ok, Err}
use Rattle.gx_model.specs.Histories.{Records}
use Rattle.gx_model.specs.Texts.Sinks.{Taken}
use Rattle.gx_cli.specs.Checking.{TellsBack, checked_line}
use Rattle.gx_cli.specs.Sending.{Sent}
use Rattle.gx_cli.specs.declared.fault.CliFault.{CliFault}
use Rattle.gx_cli.specs.declared.fault.CliFault.TheVariants.{OutOfMemory}
use Rattle.gx_cli.proofs.check.tell_back.Goals as goal

sent_so : (commands : ℕ) (again : Records) (was now : Option Taken) (answer : Result (Unit {0}) CliFault) → Sent (checked_line commands again) was now answer → TellsBack commands again was now answer
sent_so commands again was now (Ok u) h = h
sent_so commands again was now (Err OutOfMemory) h = absurd h
sent_so commands again was now (Err fault) h = h

pub returns : goal.returns
returns g c =
    let was = g.W.Sink.taken c.args.sink.now in
    let now = g.W.Sink.taken c.put_text.new.sink in
    sent_so c.args.commands c.args.again.now.1 was now c.put_text.result (subst (λ text. Sent text was now c.put_text.result) (c.deref.ensures.value ∙ c.in_ok-write_back.ensures) c.put_text.ensures)
