use Rattle.std.proofs.Common.{◌≡◌, ◌+◌, ◌-◌, length, take, drop, arith, length-drop}
use Rattle.std.proofs.lemmas.List.{take_all}
use Rattle.gx_rev.proofs.Dots.{no_dots, dots_there}
use Rattle.gx_rev.proofs.range.cut_dots.Goals as goal

pub returns-in_err-at : goal.returns-in_err-at
returns-in_err-at c = rw c.from_residual.ensures (no_dots c.args.text.now c.in_err-at.ensures)

pub returns : goal.returns
returns c =
    let at = c.in_ok-at.at in
    let bs = c.args.text.now in
    let found = c.in_ok-at.ensures in
    let whole : take (length bs - (at + 2)) (drop (at + 2) bs) ≡ drop (at + 2) bs = grind (arith, take_all, length-drop) in
    rw whole (dots_there bs at found.0.before found.1)
