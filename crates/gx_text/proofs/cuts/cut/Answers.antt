use Rattle.std.proofs.Common.{◌≡◌, ◌+◌, ◌-◌, suc, length, take, drop, arith, add-one, length-drop}
use Rattle.std.proofs.lemmas.List.{take_all}
use Rattle.gx_text.proofs.Cutting.{cut_none, cut_there}
use Rattle.gx_text.proofs.cuts.cut.Goals as goal

pub returns-in_err-end : goal.returns-in_err-end
returns-in_err-end c = rw c.from_residual.ensures (cut_none c.args.at c.args.bytes.now c.in_err-end.ensures)

pub returns : goal.returns
returns c =
    let end = c.in_ok-end.end in
    let bs = c.args.bytes.now in
    let found = c.in_ok-end.ensures in
    let whole : take (length bs - (end + 1)) (drop (end + 1) bs) ≡ drop (suc end) bs = grind (arith, take_all, length-drop, add-one) in
    rw whole (cut_there c.args.at bs end found.0.high found.0.before found.1)
