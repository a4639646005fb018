-- Texts that go out one after the other, and the whole that they make.
use Rattle.std.proofs.Common.{◌∙◌, sym, ap, subst, [], ◌++◌, append_assoc, append-nil, Option, Result, Ok, Err}
use Rattle.gx_model.specs.Texts.{Bytes}
use Rattle.gx_model.specs.Texts.Sinks.{Taken, Took, TookFront}
use Rattle.gx_model.proofs.Texts.SentTexts.{IsLeft, left_fails, took_both}
use Rattle.gx_told.specs.Printing.{PrintsText}
use Rattle.gx_told.specs.declared.fault.ToldFault.{ToldFault}
use Rattle.gx_told.specs.declared.fault.ToldFault.TheVariants.{OutOfMemory, StoreReadFailed, WriteFailed}

front_cut : (was mid now : Option Taken) (whole text rest : Bytes) → IsLeft whole was mid (text ++ rest) → TookFront mid now text → TookFront was now whole
front_cut was mid now whole text rest s h = (
  s.front ++ h.0,
  h.1 ++ rest,
  s.parts ∙ ap (λ x. s.front ++ (x ++ rest)) h.2 ∙ ap (λ x. s.front ++ x) (append_assoc h.0 h.1 rest) ∙ sym (append_assoc s.front h.0 (h.1 ++ rest)),
  took_both was mid now s.front h.0 s.took h.3,
)

-- what stopped one of the texts stopped the whole
pub cut_short : (was mid now : Option Taken) (whole text rest : Bytes) (fault : ToldFault) → IsLeft whole was mid (text ++ rest) → PrintsText text mid now (Err fault) → PrintsText whole was now (Err fault)
cut_short was mid now whole text rest WriteFailed s h = left_fails whole was mid now text rest s h
cut_short was mid now whole text rest OutOfMemory s h = front_cut was mid now whole text rest s h
cut_short was mid now whole text rest StoreReadFailed s h = front_cut was mid now whole text rest s h
cut_short was mid now whole text rest fault s h = absurd h

-- the last text, and what came of the whole
pub last_sent : (was mid now : Option Taken) (whole text : Bytes) (answer : Result (Unit {0}) ToldFault) → IsLeft whole was mid text → PrintsText text mid now answer → PrintsText whole was now answer
last_sent was mid now whole text (Ok u) s h = subst (Took was now) (sym s.parts) (took_both was mid now s.front text s.took h)
last_sent was mid now whole text (Err fault) s h = cut_short was mid now whole text [] fault (subst (IsLeft whole was mid) (sym (append-nil text)) s) h
