-- What commands answer once a store's text was read.
use Rattle.std.proofs.Common.{◌≡◌, refl, ap, subst, [], Option, Result, Ok, Err}
use Rattle.gx_model.specs.declared.objects.Kind.{Kind}
use Rattle.gx_model.specs.Texts.{Bytes}
use Rattle.gx_model.specs.Faults.{Given}
use Rattle.gx_model.specs.Histories.{Records, empty_repository}
use Rattle.gx_model.specs.Texts.Sinks.{Taken}
use Rattle.gx_rev.specs.RevFaults as rev
use Rattle.gx_print.specs.Stored.{IsFrontOf, Printed, of_word, only_word}
use Rattle.gx_cli.specs.Answers.{Prints}
use Rattle.gx_cli.specs.Serving.{IsWritten}
use Rattle.gx_cli.specs.Trying.{Shows}
use Rattle.gx_cli.specs.declared.fault.CliFault.{CliFault}
use Rattle.gx_cli.specs.declared.fault.CliFault.TheVariants.{OutOfMemory, Revision, WriteFailed}
use Rattle.gx_cli.specs.declared.serving.Outcome.{Outcome}
use Rattle.gx_model.proofs.Texts.SentTexts.{took_nothing}

-- nothing is a front of whatever is printed
pub no_front : (given : Printed) → IsFrontOf given []
no_front (Ok text) = (text, refl)
no_front (Err refusal) = refl

-- what the only word shows is what is printed
pub shows_printed : (given : Given Bytes) (was now : Option Taken) (answer : Result (Unit {0}) CliFault) → Shows [] given was now answer → Prints (only_word given) was now answer
shows_printed given was now (Ok u) h = (h.0, ap only_word h.1, h.2)
shows_printed given was now (Err (Revision number kind)) h = (of_word 1 (rev.fault_of kind), ap only_word h.1, (h.0, refl), h.2)
shows_printed given was now (Err WriteFailed) h = (h.0, ap only_word h.1, h.2)
shows_printed given was now (Err OutOfMemory) h = ([], no_front (only_word given), h)
shows_printed given was now (Err fault) h = absurd h

-- nothing is printed where memory runs out before
pub nothing_printed : (given : Printed) (was : Option Taken) → Prints given was was (Err OutOfMemory)
nothing_printed given was = ([], no_front given, took_nothing was)

-- what is written of a new repository
pub written_new : {N A : Type 0} (name_of : N → Kind → Bytes → Bytes) (repository : N × Records) (namer : N) (outcome : Outcome A) → repository ≡ (namer, empty_repository) → IsWritten (name_of repository.0) repository.1 outcome → IsWritten (name_of namer) empty_repository outcome
written_new {N} name_of repository namer outcome same h = subst (λ (r : N × Records). IsWritten (name_of r.0) r.1 outcome) same h
