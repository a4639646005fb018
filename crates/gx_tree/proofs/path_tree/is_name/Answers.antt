use Rattle.std.proofs.Common.{arith}
use Rattle.gx_model.proofs.ObjectTexts.NameDigits.{is_name_from}
use Rattle.gx_tree.proofs.path_tree.is_name.Goals as goal

pub returns : goal.returns
returns c = is_name_from c.args.bytes.now c.requires (λ i. let fits = c.type_inv.bytes i in omega arith)
