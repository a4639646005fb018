use Rattle.std.proofs.Common.{refl}
use Rattle.gx_place.proofs.HandingOn.{handing}
use Rattle.gx_place.proofs.rights.handed_on.Goals as goal

pub returns : goal.returns
returns c = handing c.args.replaced c.args.is_group_meant c.args.owner c.args.group _ (rw (c.reowned.ensures, c.regrouped.ensures, c.known.ensures) refl)
