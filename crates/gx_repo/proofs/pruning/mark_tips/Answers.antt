use Rattle.std.proofs.Common.{◌+◌, ◌∙◌, drop, map, sym, ap, subst, arith, drop_of_length-le}
use Rattle.gx_repo.specs.Pruning.{objects_held}
use Rattle.gx_repo.specs.Refs.{shown_ref}
use Rattle.gx_repo.proofs.PrunedRecords.{MarksSoFar, next_held, so_far_all, so_far_next, so_far_none}
use Rattle.gx_repo.proofs.pruning.mark_tips.Goals as goal

pub loop-held-init : goal.loop-held-init
loop-held-init g c =
    let rs = c.args.store.now.1 in
    let refs = c.args.refs.now in
    let seen = ap (map shown_ref) c.as_slice-held-items.ensures.value ∙ c.refs.view_is in
    (c.requires.long, subst (λ left. MarksSoFar rs (objects_held refs) (objects_held left) c.args.marks.now c.args.marks.now) (sym seen) (so_far_none rs (objects_held refs) c.args.marks.now))

pub loop-held-preserved : goal.loop-held-preserved
loop-held-preserved g c =
    let rs = c.args.store.now.1 in
    let refs = c.args.refs.now in
    let held = c.as_slice-held-items.result.now in
    let i = c.loop-held.held-index in
    let so_far = subst (λ left. MarksSoFar rs (objects_held refs) left c.args.marks.now c.loop-held.marks) (next_held held i c.held-item.result c.loop-held-test.true c.held-item.is) c.loop-held.invariant.1 in (
      omega (arith, c.loop-held.invariant.0, c.mark.auto.marks),
      so_far_next rs (objects_held refs) (objects_held (map shown_ref (drop (i + 1) held))) c.held-item.result.object.bytes c.args.marks.now c.loop-held.marks c.mark.new.marks so_far c.mark.ensures,
    )

pub returns : goal.returns
returns g c =
    let rs = c.args.store.now.1 in
    let refs = c.args.refs.now in
    so_far_all rs (objects_held refs) c.args.marks.now c.loop-held.marks
    (subst (λ left. MarksSoFar rs (objects_held refs) left c.args.marks.now c.loop-held.marks) (ap (λ rs. objects_held (map shown_ref rs)) (drop_of_length-le c.as_slice-held-items.result.now c.loop-held-test.false)) c.loop-held.invariant.1)
