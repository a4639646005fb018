use Rattle.std.proofs.Common.{◌<◌, length, arith}
use Rattle.gx_questions.proofs.Walks.{below_file}
use Rattle.gx_questions.proofs.places.walk_down.Goals as goal

pub returns-then-not-is_dir-clause-place : goal.returns-then-not-is_dir-clause-place
returns-then-not-is_dir-clause-place g c =
    let within : c.loop-place.place < length c.args.path.now = omega (arith, c.len-place-end.ensures.length) in
    below_file (g.O.Objects.told c.args.objects.now) c.args.tree.now c.args.path.now (c.loop-place.mode, c.loop-place.name) c.loop-place.place within c.if-not-is_dir.ensures c.loop-place.invariant.same
