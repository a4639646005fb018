use Rattle.std.proofs.Common.{refl}
use Rattle.gx_push.proofs.forward.want_forward.Goals as goal

pub loop-place-init : goal.loop-place-init
loop-place-init g c = (c.new-parents.ensures c.args.repo.now.1, refl)
