use Rattle.std.proofs.Common.{arith}
use Rattle.gx_model.proofs.ObjectTexts.NameDigits.{all_bytes}
use Rattle.gx_object.proofs.order.has_bytes.Goals as goal

pub returns : goal.returns
returns c = all_bytes c.args.text.now (λ i. let fits = c.type_inv.text i in omega arith)
