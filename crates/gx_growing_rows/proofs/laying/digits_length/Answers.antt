use Rattle.std.proofs.Common.{◌∙◌, ap, arith, length, sym}
use Rattle.gx_model.proofs.Texts.Decimals.{text_is_decimal}
use Rattle.gx_growing_rows.proofs.laying.digits_length.Goals as goal

pub returns-clause-length : goal.returns-clause-length
returns-clause-length c = ap length (c.format.ensures.text ∙ sym (text_is_decimal c.args.number (omega (arith, c.ranges.number.fits))))
