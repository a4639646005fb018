use Rattle.std.proofs.lemmas.Result.{err_from_is_err_and}
use Rattle.gx_look.proofs.Opening.{slot_cut, slot_none, slot_some}
use Rattle.gx_look.proofs.head.read_head.Goals as goal

pub returns-in_err-fill : goal.returns-in_err-fill
returns-in_err-fill g c =
    let p = err_from_is_err_and c.from_residual.result c.from_residual.ensures.1 in
    rw (p.1, p.2) (slot_cut (g.S.ReadAt.text c.args.source.now) c.in_err-fill.field-0.0 c.in_err-fill.ensures.fault)

pub returns-in-Some : goal.returns-in-Some
returns-in-Some g c = slot_some (g.S.ReadAt.text c.args.source.now) c.fill.new.room c.in-Some.picked c.in_ok-fill.ensures.there c.in_ok-fill.ensures.same_room c.in-Some.ensures

pub returns-in-None : goal.returns-in-None
returns-in-None g c = slot_none (g.S.ReadAt.text c.args.source.now) c.fill.new.room c.in_ok-fill.ensures.there c.in_ok-fill.ensures.same_room c.in-None.ensures
