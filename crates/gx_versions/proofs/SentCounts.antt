-- Lines of numbers that go out one behind the other.
use Rattle.std.proofs.Common.{sym, subst, [], append-nil, Option, Result, Ok, Err}
use Rattle.gx_model.specs.Texts.{Bytes}
use Rattle.gx_model.specs.Texts.Sinks.{Taken, Took}
use Rattle.gx_model.proofs.Texts.SentTexts.{IsLeft, left_fails, took_both}
use Rattle.gx_text.specs.declared.device.Failed.{Failed}
use Rattle.gx_file.specs.Sending.{Sent}

-- the last text, and what came of the whole
pub sent_last : (whole : Bytes) (was mid now : Option Taken) (text : Bytes) (answer : Result (Unit {0}) Failed) → IsLeft whole was mid text → Sent text mid now answer → Sent whole was now answer
sent_last whole was mid now text (Ok u) h k = subst (Took was now) (sym h.parts) (took_both was mid now h.front text h.took k)
sent_last whole was mid now text (Err f) h k = left_fails whole was mid now text [] (subst (IsLeft whole was mid) (sym (append-nil text)) h) k
