use Rattle.std.proofs.Common.{◌≡◌, true, subst}
use Rattle.gx_place.proofs.Outcomes.{found_named, same_found}
use Rattle.gx_place.proofs.claim.names.Goals as goal

pub returns-in-Ok-look_at : goal.returns-in-Ok-look_at
returns-in-Ok-look_at g c is =
    found_named _ _ c.in-Ok.named c.in-Ok-look_at.opened _ _ _ c.in-Ok.ensures.told c.in-Ok-look_at.ensures.told (same_found _ _ (subst (λ b. b ≡ true) c.eq.ensures is))
