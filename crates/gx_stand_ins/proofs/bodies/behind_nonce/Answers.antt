use Rattle.std.proofs.Common.{arith}
use Rattle.gx_model.proofs.ObjectTexts.NameDigits.{is_name_from}
use Rattle.gx_stand_ins.proofs.bodies.behind_nonce.Goals as goal

pub returns-clause-bytes : goal.returns-clause-bytes
returns-clause-bytes c = is_name_from c.args.name.now c.requires (λ i. let fits = c.type_inv.name i in omega arith)
