use Rattle.std.proofs.Common.{◌≡◌, subst}
use Rattle.gx_print.specs.Asking.{asked_by, shown_asked}
use Rattle.gx_print.proofs.asked.read_asked.Goals as goal

pub returns-in-Some : goal.returns-in-Some
returns-in-Some c = subst (λ cut. shown_asked c.read_with.result ≡ asked_by c.args.line.now cut) c.in-Some.ensures c.read_with.ensures

pub returns-in-None : goal.returns-in-None
returns-in-None c = subst (λ cut. shown_asked c.read_alone.result ≡ asked_by c.args.line.now cut) c.in-None.ensures c.read_alone.ensures
