use Rattle.std.proofs.Common.{◌∙◌, arith}
use Rattle.gx_additions.proofs.Spelled.{long_put}
use Rattle.gx_additions.proofs.slot.put_long.Goals as goal

pub returns : goal.returns
returns g c =
    long_put c.args.number c.args.bytes.now.items c.zeros_before.result.now c.as_bytes-digits.result.now c.extend_from_slice.new.self.items c.extend_from_slice-2.new.self.items
    (omega (arith, c.ranges.number.fits)) c.in_ok-extend_from_slice.ensures.items c.in_ok-extend_from_slice-2.ensures.items c.zeros_before.ensures (c.as_bytes-digits.ensures.value ∙ c.format.ensures.text)
