use Rattle.std.proofs.Common.{◌∙◌, arith}
use Rattle.gx_additions.proofs.Puts.{body_put}
use Rattle.gx_additions.proofs.parts.put_body.Goals as goal

pub returns : goal.returns
returns g c =
    body_put c.put_all.result c.args.bytes.now.items c.put_all.new.bytes.items c.args.word.now c.as_bytes.result.now c.as_slice.result.now c.args.name.now.bytes c.args.body.now
    (omega arith) (c.as_bytes.ensures.value ∙ c.format.ensures.text) (c.as_slice.ensures ∙ c.hex-digits.ensures.digits) c.put_all.ensures
