use Rattle.std.proofs.Common.{◌+◌, refl, subst, sym}
use Rattle.gx_model.specs.Histories.{Record}
use Rattle.gx_growing_rows.proofs.LaidOut.{AreLaidOut, from_place, one_laid}
use Rattle.gx_growing_rows.proofs.laying.push_placed.Goals as goal

pub loop-at-preserved : goal.loop-at-preserved
loop-at-preserved g c =
    let old = c.args.rows.now.items in
    let rs = c.args.store.now.1 in
    let at = c.loop-at.at in
    let r : Record = record { name = c.in-Some.name.bytes; kind = c.in-Some.kind; body = c.in-Some.body.now } in
    let behind = c.in-Some-record_end.behind in
    subst (λ rows. AreLaidOut old c.args.held c.args.first rs rows behind (at + 1)) (sym c.in_ok-push.ensures.items)
    (one_laid old c.args.held c.args.first rs c.loop-at.rows.items c.loop-at.place at c.loop-at.invariant r behind (from_place rs at r c.in-Some.ensures) (c.in-Some-record_end.ensures c.in-Some.body.now refl))
