use Rattle.std.proofs.Common.{Some, ap, ◌∙◌}
use Rattle.gx_model.specs.Records.Growth.{record_named}
use Rattle.gx_taken.proofs.HeldObjects.{may_hold, tag_text}
use Rattle.gx_taken.proofs.checking.may_hold.Goals as goal

pub returns : goal.returns
returns g c =
    let r = c.args.repo.now.1 in
    let n = c.args.object.now.bytes in
    let found = rw c.store.ensures.held at c.in_ok-kind.ensures in
    let text = tag_text (g.N.Namer.name_of c.args.repo.now.0) (g.met.N.Namer.is_namer c.args.repo.now.0) r c.store.ensures.sound n c.in_ok-kind.kind c.in_ok-kind.body.now found in
    ap Some (c.is_target.ensures text) ∙ may_hold c.args.name.now (record_named r.records n) c.in_ok-kind.kind c.in_ok-kind.body.now found
