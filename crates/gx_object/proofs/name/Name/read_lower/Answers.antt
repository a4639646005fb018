use Rattle.std.proofs.Common.{Some, sym, ap, ◌∙◌}
use Rattle.std.specs.List.{list_all}
use Rattle.gx_model.specs.Objects.{unhex}
use Rattle.gx_model.specs.Texts.Digits.{is_lower_digit}
use Rattle.gx_object.proofs.Digits.{long_refused, other_refused, lower_read}
use Rattle.gx_object.proofs.name.Name.read_lower.Goals as goal

pub returns-in_err-digits : goal.returns-in_err-digits
returns-in_err-digits c = rw c.from_residual.ensures (sym (long_refused c.args.text.now c.in_err-digits.ensures.cases))

pub returns-then-not-are_lower : goal.returns-then-not-are_lower
returns-then-not-are_lower c = sym (other_refused c.args.text.now (ap (list_all is_lower_digit) (sym c.in_ok-digits.ensures.cases.same) ∙ sym c.if-not-are_lower.ensures))

pub returns : goal.returns
returns c =
    let whole = c.in_ok-digits.ensures.cases in
    ap Some (c.bytes_of.ensures ∙ ap unhex whole.same) ∙ sym (lower_read c.args.text.now whole.long (ap (list_all is_lower_digit) (sym whole.same) ∙ sym c.if-not-are_lower.ensures))
