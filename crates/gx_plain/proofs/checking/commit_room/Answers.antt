use Rattle.std.proofs.Common.{◌≡◌, [], get_or, None, Some, subst, ◌∙◌, arith, drop_of_length-le}
use Rattle.std.proofs.lemmas.Option.{slice_get-get_or}
use Rattle.gx_model.specs.declared.objects.Kind.TheVariants as kinds
use Rattle.gx_repo.proofs.ContentFaults.{next_name}
use Rattle.gx_plain.specs.Held.{FindsHeld}
use Rattle.gx_plain.proofs.Checks.{bad_body, no_parent, no_tree, one_parent, parents_fine}
use Rattle.gx_plain.proofs.checking.commit_room.Goals as goal

pub returns-in_default : goal.returns-in_default
returns-in_default g c = bad_body c.bodies_are_read.ensures c.args.listing.now c.args.rooms.now kinds.Commit c.args.body.now (λ p. c.in_default.ensures.only p.0 p.1)

pub returns-in_err-number_of : goal.returns-in_err-number_of
returns-in_err-number_of g c =
    let tree = subst (λ n. FindsHeld c.args.listing.now kinds.Tree n None) c.tree.ensures c.in_err-number_of.ensures in
    rw c.from_residual.ensures (no_tree c.bodies_are_read.ensures c.args.listing.now c.args.rooms.now c.args.body.now c.in-Ok.commit c.in-Ok.ensures.found tree)

pub unreachable-requires : goal.unreachable-requires
unreachable-requires g c =
    let ns = c.in-Ok.commit.parents in
    let there = slice_get-get_or ns c.loop-place.place [] (omega (arith, c.loop-place-test.true, c.parent_count-place-end.ensures)) in
    let clash : None ≡ Some (get_or ns c.loop-place.place []) = c.in_default-parent.ensures ∙ there in
    cc

pub returns-in_err-number_of-2 : goal.returns-in_err-number_of-2
returns-in_err-number_of-2 g c =
    let tree = subst (λ n. FindsHeld c.args.listing.now kinds.Tree n (Some c.in_ok-number_of.field-0)) c.tree.ensures c.in_ok-number_of.ensures in
    let next = next_name c.loop-place.place c.in-Ok.commit.parents c.in-Some.parent.bytes c.in-Some.ensures in
    rw c.from_residual-in_err-number_of-2.ensures (no_parent c.bodies_are_read.ensures c.args.listing.now c.args.rooms.now c.args.body.now c.in-Ok.commit c.in-Ok.ensures.found c.in_ok-number_of.field-0 tree c.loop-place.place c.in-Some.parent.bytes c.loop-place.invariant next c.in_err-number_of-2.ensures)

pub loop-place-preserved : goal.loop-place-preserved
loop-place-preserved g c =
    let next = next_name c.loop-place.place c.in-Ok.commit.parents c.in-Some.parent.bytes c.in-Some.ensures in
    one_parent c.bodies_are_read.ensures c.args.listing.now c.args.rooms.now c.args.body.now c.in-Ok.commit c.in-Ok.ensures.found c.loop-place.place c.in_ok-number_of-2.field-0 c.in-Some.parent.bytes c.loop-place.invariant next c.in_ok-number_of-2.ensures

pub returns : goal.returns
returns g c =
    let tree = subst (λ n. FindsHeld c.args.listing.now kinds.Tree n (Some c.in_ok-number_of.field-0)) c.tree.ensures c.in_ok-number_of.ensures in
    let last = drop_of_length-le c.in-Ok.commit.parents (omega (arith, c.loop-place-test.false, c.parent_count-place-end.ensures)) in
    parents_fine c.bodies_are_read.ensures c.args.listing.now c.args.rooms.now c.args.body.now c.in-Ok.commit c.in-Ok.ensures.found c.in_ok-number_of.field-0 tree c.loop-place.place c.loop-place.invariant last
