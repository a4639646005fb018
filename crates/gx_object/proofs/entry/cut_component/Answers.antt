use Rattle.std.proofs.Common.{◌≡◌, ◌+◌, ◌-◌, suc, length, take, drop, sym, arith, add-one, length-drop}
use Rattle.std.proofs.lemmas.List.{take_all}
use Rattle.gx_object.proofs.FirstEntries.{plain_cut}
use Rattle.gx_object.proofs.entry.cut_component.Goals as goal

pub returns-in-Some-clause-cut : goal.returns-in-Some-clause-cut
returns-in-Some-clause-cut c =
    let len = c.in-Some.len in
    let bs = c.args.bytes.now in
    let whole : take (length bs - (len + 1)) (drop (len + 1) bs) ≡ drop (suc len) bs = grind (arith, take_all, length-drop, add-one) in
    rw whole (sym (plain_cut bs len c.in-Some.ensures))
