use Rattle.std.proofs.Common.{◌+◌, refl, arith}
use Rattle.std.proofs.lemmas.Result.{err_from_is_err_and}
use Rattle.gx_plain.proofs.RoomsRead.{other_fault}
use Rattle.gx_plain.proofs.Fronts.{ends_short}
use Rattle.gx_plain.proofs.fill.read_behind.Goals as goal

pub returns-in_err-read_front-clause-fault : goal.returns-in_err-read_front-clause-fault
returns-in_err-read_front-clause-fault g c =
    let p = err_from_is_err_and c.from_residual.result c.from_residual.ensures.1 in
    rw (p.1, p.2) (other_fault (g.S.ReadAt.text c.args.source.now) (c.args.at + c.args.end + 1) c.in_err-read_front.field-0.0 c.in_err-read_front.ensures.fault)

pub returns-then-end-len-2-clause-front : goal.returns-then-end-len-2-clause-front
returns-then-end-len-2-clause-front g c = (c.args.end + 1, c.in_ok-read_front.ensures.front)

pub returns-else-end-len-2-clause-fault : goal.returns-else-end-len-2-clause-fault
returns-else-end-len-2-clause-fault g c =
    ends_short (g.S.ReadAt.text c.args.source.now) c.args.at c.args.end (c.args.end + 1) c.read_front.new.room.items _ c.in_ok-read_front.ensures.front refl (omega (arith, c.if-end-len-2.false, c.len-2.ensures))
