use Rattle.std.proofs.Common.{None, Some, subst}
use Rattle.gx_model.specs.declared.objects.Kind.TheVariants as kinds
use Rattle.gx_plain.specs.Held.{FindsHeld}
use Rattle.gx_plain.proofs.Checks.{bad_body, no_object, object_there}
use Rattle.gx_plain.proofs.checking.tag_room.Goals as goal

pub returns-in_default : goal.returns-in_default
returns-in_default g c = bad_body c.bodies_are_read.ensures c.args.listing.now c.args.rooms.now kinds.Tag c.args.body.now (λ p. c.in_default.ensures.only p.0 p.1)

pub returns-in_err-number_of : goal.returns-in_err-number_of
returns-in_err-number_of g c =
    let object = subst (λ n. FindsHeld c.args.listing.now kinds.Commit n None) c.object.ensures c.in_err-number_of.ensures in
    rw c.from_residual.ensures (no_object c.bodies_are_read.ensures c.args.listing.now c.args.rooms.now c.args.body.now c.in-Ok.tag c.in-Ok.ensures.found object)

pub returns : goal.returns
returns g c =
    let object = subst (λ n. FindsHeld c.args.listing.now kinds.Commit n (Some c.in_ok-number_of.field-0)) c.object.ensures c.in_ok-number_of.ensures in
    object_there c.bodies_are_read.ensures c.args.listing.now c.args.rooms.now c.args.body.now c.in-Ok.tag c.in-Ok.ensures.found c.in_ok-number_of.field-0 object
