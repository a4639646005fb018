use Rattle.std.proofs.Common.{◌+◌, ap, subst, arith, drop, drop_of_length-le}
use Rattle.gx_object.specs.Commits.{bytes_of_names}
use Rattle.gx_repo.proofs.PrunedRecords.{MarksSoFar, next_name, so_far_all, so_far_next, so_far_none}
use Rattle.gx_repo.proofs.pruning.mark_names.Goals as goal

pub loop-name-init : goal.loop-name-init
loop-name-init g c = (c.requires.long, so_far_none c.args.store.now.1 (bytes_of_names c.args.names.now) c.args.marks.now)

pub loop-name-preserved : goal.loop-name-preserved
loop-name-preserved g c =
    let rs = c.args.store.now.1 in
    let names = c.args.names.now in
    let i = c.loop-name.name-index in
    let so_far = subst (λ left. MarksSoFar rs (bytes_of_names names) left c.args.marks.now c.loop-name.marks) (next_name names i _ c.loop-name-test.true) c.loop-name.invariant.1 in (
      omega (arith, c.loop-name.invariant.0, c.mark.auto.marks),
      so_far_next rs (bytes_of_names names) (bytes_of_names (drop (i + 1) names)) _ c.args.marks.now c.loop-name.marks c.mark.new.marks so_far c.mark.ensures,
    )

pub returns : goal.returns
returns g c =
    let rs = c.args.store.now.1 in
    let names = c.args.names.now in
    so_far_all rs (bytes_of_names names) c.args.marks.now c.loop-name.marks
    (subst (λ left. MarksSoFar rs (bytes_of_names names) left c.args.marks.now c.loop-name.marks) (ap bytes_of_names (drop_of_length-le names c.loop-name-test.false)) c.loop-name.invariant.1)
