use Rattle.std.proofs.Common.{◌-◌, ◌∙◌, ap, get_or, map, arith}
use Rattle.std.specs.Option.{option_map}
use Rattle.std.proofs.lemmas.Option.{slice_get-get_or, slice_get-map}
use Rattle.gx_placed.specs.Places.{shown_object}
use Rattle.gx_placed.specs.Steps.{place_of}
use Rattle.gx_placed.proofs.Slots.{put_first}
use Rattle.gx_placed.proofs.waiting.places_of.Goals as goal

pub loop-place-preserved : goal.loop-place-preserved
loop-place-preserved g c = λ called.
    let xs = c.args.given.now in
    let at = c.loop-place.place - 1 in
    let one = get_or xs at c.index-given-place.result in
    put_first (map shown_object xs) at c.loop-place.place (shown_object one) called.bytes (place_of c.insert.new.self called) (place_of c.loop-place.places called) (omega (arith, c.loop-place-test.true))
    (slice_get-map shown_object xs at ∙ ap (option_map shown_object) (slice_get-get_or xs at c.index-given-place.result (omega (arith, c.loop-place-test.true, c.loop-place.auto.place))))
    (c.in_ok-insert.ensures.updates.0 called) (c.loop-place.invariant called)
