use Rattle.std.proofs.Common.{◌≡◌, Bool, true, false, cond, Ok, Err, refl, ap}
use Rattle.gx_model.specs.Texts.{Bytes}
use Rattle.gx_model.specs.Texts.Idents.{is_ident}
use Rattle.gx_model.specs.Faults.{IsFaultOf}
use Rattle.gx_model.specs.Streams.Lines.{ident_of}
use Rattle.gx_model.specs.declared.faults.Fault.TheVariants as faults
use Rattle.gx_text.specs.declared.fault.TextFault.{TextFault}
use Rattle.gx_text.specs.declared.fault.TextFault.TheVariants.{BadIdent}
use Rattle.gx_text.specs.TextFaults.{fault_of}
use Rattle.gx_object.specs.Lines.{ident_field}
use Rattle.gx_object.proofs.line.cut_ident.Goals as goal

no_ident : (text : Bytes) (fault : TextFault) → fault ≡ BadIdent → IsFaultOf (fault_of fault) (ident_of text) → is_ident text ≡ false
no_ident text fault e h = by (is_ident text) refl (rw e at h)
  where
    by : (b : Bool) → is_ident text ≡ b → ident_of text ≡ Err faults.BadIdent → is_ident text ≡ false
    by false p q = p
    by true p q = cc (ap (λ b. cond b (Ok text) (Err faults.BadIdent)) p)

pub returns-in-Err : goal.returns-in-Err
unfolding ident_field
returns-in-Err c =
    let none = no_ident c.in_ok-text.text.now c.in-Err.field-0 c.in-Err.ensures.fault c.in-Err.ensures.ident in
    rw (← c.in_ok-text.ensures, none) refl
