use Rattle.std.proofs.Common.{arith}
use Rattle.std.proofs.lemmas.Result.{err_from_is_err_and}
use Rattle.gx_look.proofs.Opening.{opened_last, opened_pick, slot_untold, tail_untold}
use Rattle.gx_look.proofs.look.Look.open.Goals as goal

pub returns-in_err-picked-clause-fault : goal.returns-in_err-picked-clause-fault
returns-in_err-picked-clause-fault g c =
    let p = err_from_is_err_and c.from_residual.result c.from_residual.ensures.1 in
    rw (p.1, p.2) (slot_untold (g.N.Namer.name_of c.args.namer) (g.met.N.Namer.is_namer c.args.namer) (g.S.ReadAt.text c.args.source) c.in_err-picked.field-0.0 c.in_err-picked.ensures)

pub returns-in_err-tail-clause-fault : goal.returns-in_err-tail-clause-fault
returns-in_err-tail-clause-fault g c =
    let p = err_from_is_err_and c.from_residual-in_err-tail.result c.from_residual-in_err-tail.ensures.1 in
    rw (p.1, p.2) (tail_untold (g.N.Namer.name_of c.args.namer) (g.met.N.Namer.is_namer c.args.namer) _ (g.S.ReadAt.text c.args.source) c.in_ok-picked.picked c.in_err-tail.field-0.0 c.in_ok-picked.ensures c.in_err-tail.ensures.tail)

pub invariant_of-result : goal.invariant_of-result
invariant_of-result g c = record {
  small = omega arith;
  within = c.in_ok-tail.ensures.within;
  picks = opened_pick (g.N.Namer.name_of c.args.namer) (g.met.N.Namer.is_namer c.args.namer) (g.S.ReadAt.text c.args.source) c.in_ok-picked.picked c.in_ok-picked.ensures;
  last = opened_last (g.N.Namer.name_of c.args.namer) (g.met.N.Namer.is_namer c.args.namer) (g.S.ReadAt.text c.args.source) c.in_ok-picked.picked c.in_ok-tail.tail c.in_ok-picked.ensures c.in_ok-tail.ensures.tail;
}
