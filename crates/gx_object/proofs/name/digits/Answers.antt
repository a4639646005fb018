use Rattle.std.proofs.Common.{◌∙◌, arith}
use Rattle.gx_object.proofs.Digits.{hex_is}
use Rattle.gx_model.proofs.ObjectTexts.NameDigits.{is_name_from}
use Rattle.gx_object.proofs.name.digits.Goals as goal

pub returns-clause-digits : goal.returns-clause-digits
returns-clause-digits c = c.in-Ok.ensures.written ∙ hex_is c.args.bytes.now (λ i. let fits = c.type_inv.bytes i in omega arith)

pub returns-clause-bytes : goal.returns-clause-bytes
returns-clause-bytes c = is_name_from c.args.bytes.now c.requires (λ i. let fits = c.type_inv.bytes i in omega arith)
