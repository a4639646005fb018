use Rattle.std.proofs.Common.{Some, None, cond, refl, sym, ap, ◌∙◌, nat_eq, length}
use Rattle.std.specs.List.{list_all}
use Rattle.std.proofs.lemmas.Bool.{and_from, and_right, eq-eqb, ne_eqb}
use Rattle.gx_model.specs.Objects.{unhex}
use Rattle.gx_model.specs.Texts.Digits.{is_lower_digit}
use Rattle.gx_growing_parts.proofs.digests.read_digest.Goals as goal

pub returns-in_err-digits : goal.returns-in_err-digits
returns-in_err-digits c = rw (c.from_residual.ensures, ne_eqb (length c.args.text.now) 64 c.in_err-digits.ensures.cases) refl

pub returns-then-not-are_lower : goal.returns-then-not-are_lower
returns-then-not-are_lower c =
    rw (and_right (nat_eq (length c.args.text.now) 64) _ (ap (list_all is_lower_digit) (sym c.in_ok-digits.ensures.cases.same) ∙ sym c.if-not-are_lower.ensures)) refl

pub returns : goal.returns
returns c =
    let whole = c.in_ok-digits.ensures.cases in
    let lower = ap (list_all is_lower_digit) (sym whole.same) ∙ sym c.if-not-are_lower.ensures in
    ap Some (c.bytes_of.ensures ∙ ap unhex whole.same)
    ∙ sym (ap (λ b. cond b (Some (unhex c.args.text.now)) None) (and_from _ _ (eq-eqb (length c.args.text.now) 64 whole.long) lower))
