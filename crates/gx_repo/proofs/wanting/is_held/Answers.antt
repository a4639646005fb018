use Rattle.std.proofs.Common.{sym, ◌∙◌, true≢false}
use Rattle.gx_model.proofs.Records.HeldObjects.{is_shown}
use Rattle.gx_repo.proofs.WantingTrees.{shown_alike, shown_none, shown_other}
use Rattle.gx_repo.proofs.wanting.is_held.Goals as goal

pub returns-in-Some-clause-held : goal.returns-in-Some-clause-held
returns-in-Some-clause-held g c is =
    let rs = c.args.store.now.1 in
    let n = c.name.result.bytes in
    shown_alike (g.N.Namer.name_of c.args.store.now.0) rs c.args.kind c.args.body.now n c.name.ensures c.in-Some.held c.in-Some.bytes.now
    (is_shown rs n c.in-Some.held c.in-Some.bytes.now c.in-Some.ensures) (c.is_same.ensures.0 is)

pub returns-in-Some-clause-new : goal.returns-in-Some-clause-new
returns-in-Some-clause-new g c other =
    let rs = c.args.store.now.1 in
    let n = c.name.result.bytes in
    shown_other (g.N.Namer.name_of c.args.store.now.0) rs c.args.kind c.args.body.now n c.name.ensures c.in-Some.held c.in-Some.bytes.now
    (is_shown rs n c.in-Some.held c.in-Some.bytes.now c.in-Some.ensures) (λ same. true≢false (sym (c.is_same.ensures.1 same) ∙ other))

pub returns-in-None-clause-new : goal.returns-in-None-clause-new
returns-in-None-clause-new g c _ = shown_none (g.N.Namer.name_of c.args.store.now.0) c.args.store.now.1 c.args.kind c.args.body.now c.name.result.bytes c.name.ensures c.in-None.ensures
