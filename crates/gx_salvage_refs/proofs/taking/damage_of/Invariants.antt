use Rattle.std.proofs.Common.{◌≡◌, None, take}
use Rattle.std.specs.List.{AllByRecursion}
use Rattle.gx_reached.specs.Damages.{damage_in}
use Rattle.gx_salvage_refs.proofs.taking.damage_of.Given as goal

abbrev pub invariant-loop-link : goal.invariant-loop-link
invariant-loop-link g l = AllByRecursion (λ link. damage_in l.bad link.name.bytes ≡ None) (take l.link-index l.link-items)
