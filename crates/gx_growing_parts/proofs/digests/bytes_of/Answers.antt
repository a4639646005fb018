use Rattle.std.proofs.Common.{◌∷◌, ◌++◌, [], ◌+◌, ◌*◌, sym, ap, ◌∙◌, arith, length-set}
use Rattle.gx_model.specs.Objects.{unhex}
use Rattle.std.proofs.lemmas.List.{take_more_set, take_all}
use Rattle.gx_growing_parts.proofs.DigitPairs.{unhex_more}
use Rattle.gx_growing_parts.proofs.digests.bytes_of.Goals as goal

pub loop-place-preserved : goal.loop-place-preserved
loop-place-preserved c =
    let place = c.loop-place.place in
    let bytes = c.loop-place.bytes in
    let digits = c.args.digits.now in
    let byte = 16 * c.value.result + c.value-in-loop-place.result in
    let long = c.loop-place.invariant.long in
    let within = c.loop-place-test.true in
    let high = c.value.ensures.value in
    let low = c.value-in-loop-place.ensures.value in
    record {
      long = length-set bytes place byte ∙ long;
      read = take_more_set bytes place byte (omega (arith, within, long)) ∙ (λ i. c.loop-place.invariant.read i ++ (16 * high i + low i) ∷ []) ∙ sym (unhex_more place digits (omega (arith, within, c.told-digits)));
    }

pub returns : goal.returns
returns c =
    let place = c.loop-place.place in
    let bytes = c.loop-place.bytes in
    let digits = c.args.digits.now in
    let past = c.loop-place-test.false in
    sym (take_all place bytes (omega (arith, past, c.loop-place.invariant.long))) ∙ c.loop-place.invariant.read ∙ ap unhex (take_all (2 * place) digits (omega (arith, past, c.told-digits)))
