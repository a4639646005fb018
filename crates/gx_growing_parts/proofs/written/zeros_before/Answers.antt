use Rattle.std.proofs.Common.{◌∙◌, arith, length}
use Rattle.gx_growing_parts.proofs.Zeros.{zeros_left}
use Rattle.gx_growing_parts.proofs.written.zeros_before.Goals as goal

pub returns : goal.returns
returns c =
    let k = length c.args.digits.now in
    c.split_at.ensures.back ∙ zeros_left k c.min.result (omega (arith, c.min.ensures))
