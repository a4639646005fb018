use Rattle.std.proofs.Common.{arith}
use Rattle.gx_model.proofs.ObjectTexts.NameDigits.{is_name_from}
use Rattle.gx_store.specs.Chains.{front}
use Rattle.gx_store.proofs.fronts.front.Goals as goal

pub returns-clause-front : goal.returns-clause-front
unfolding front
returns-clause-front c = omega (arith, c.from_be_bytes.ensures)

pub returns-clause-bytes : goal.returns-clause-bytes
returns-clause-bytes c = is_name_from c.args.bytes.now c.requires (λ i. let fits = c.type_inv.bytes i in omega arith)
