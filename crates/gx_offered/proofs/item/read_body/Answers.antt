use Rattle.std.proofs.Common.{arith}
use Rattle.gx_offered.proofs.ReadItems.{body_cut}
use Rattle.gx_offered.proofs.item.read_body.Goals as goal

pub returns-in-Some-clause-body : goal.returns-in-Some-clause-body
returns-in-Some-clause-body c =
    let ended = c.in-Some.ensures.cases in
    body_cut c.args.length c.args.text.now c.split_at.result.0.now c.split_at.result.1.now c.in-Some.rest.now (omega arith) c.split_at.ensures.front c.split_at.ensures.back ended.0 ended.1
