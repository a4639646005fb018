use Rattle.std.proofs.Common.{arith}
use Rattle.gx_model.proofs.ObjectTexts.NameDigits.{is_name_from}
use Rattle.gx_object.proofs.entry.append_name.Goals as goal

pub returns-clause-name : goal.returns-clause-name
returns-clause-name g c = is_name_from c.args.name.now c.requires.length (λ i. let fits = c.type_inv.name i in omega arith)
