use Rattle.std.proofs.Common.{arith}
use Rattle.gx_sending.proofs.written.Written.next_mark.Goals as goal

pub returns : goal.returns
returns g c = λ r ws h.
    let count = h.count in
    let each = h.each in
    let most = h.most in
    omega (arith, c.saturating_add.ensures, count, each, most)
