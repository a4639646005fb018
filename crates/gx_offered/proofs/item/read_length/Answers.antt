use Rattle.gx_offered.proofs.ReadItems.{length_told}
use Rattle.gx_offered.proofs.item.read_length.Goals as goal

pub returns : goal.returns
returns c = length_told c.args.size.now c.read_number.result c.ok_or.result c.read_number.ensures c.ok_or.ensures.value
