use Rattle.std.proofs.Common.{◌∙◌, arith}
use Rattle.gx_additions.proofs.Puts.{count_put}
use Rattle.gx_additions.proofs.parts.put_count.Goals as goal

pub returns : goal.returns
returns g c =
    count_put c.put_all.result c.args.bytes.now.items c.put_all.new.bytes.items c.args.word.now c.as_bytes.result.now c.args.count (omega (arith, c.ranges.count.fits)) (c.as_bytes.ensures.value ∙ c.format.ensures.text) c.put_all.ensures
