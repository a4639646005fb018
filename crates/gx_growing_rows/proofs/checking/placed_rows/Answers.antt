use Rattle.std.proofs.Common.{◌∙◌, ◌++◌, ◌∷◌, [], ap, get_or, sym}
use Rattle.gx_model.specs.Histories.{Record}
use Rattle.gx_growing_rows.proofs.LaidOut.{rows_all, rows_more}
use Rattle.gx_growing_rows.proofs.checking.placed_rows.Goals as goal

pub loop-at-preserved : goal.loop-at-preserved
loop-at-preserved g c =
    let at = c.loop-at.at in
    let r : Record = record { name = c.in-Some.name.bytes; kind = c.in-Some._kind; body = c.in-Some._body.now } in
    c.in_ok-push.ensures.items ∙ ap (λ z. z ++ (r.name, get_or c.args.places.now at 0) ∷ []) c.loop-at.invariant ∙ sym (rows_more c.args.store.now.1 c.args.places.now at r c.in-Some.ensures c.loop-at-test.true)

pub returns : goal.returns
returns g c = c.loop-at.invariant ∙ rows_all c.args.store.now.1 c.args.places.now c.loop-at.at c.loop-at-test.false
