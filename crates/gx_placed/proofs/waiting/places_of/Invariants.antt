use Rattle.std.proofs.Common.{◌≡◌, ◌+◌, drop, map}
use Rattle.std.specs.Option.{option_map}
use Rattle.gx_object.specs.declared.name.Name.{Name}
use Rattle.gx_placed.specs.Machine.{place_in}
use Rattle.gx_placed.specs.Places.{shown_object}
use Rattle.gx_placed.specs.Steps.{place_of}
use Rattle.gx_placed.proofs.waiting.places_of.Given as goal

abbrev pub invariant-loop-place : goal.invariant-loop-place
invariant-loop-place g l = (called : Name) → place_of l.places called ≡ option_map (λ k. k + l.place) (place_in (drop l.place (map shown_object l.given)) called.bytes)
