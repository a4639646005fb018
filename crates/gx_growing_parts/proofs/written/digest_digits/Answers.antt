use Rattle.std.proofs.Common.{◌∙◌, ap, arith}
use Rattle.hex.specs.Hex.{encode_lower}
use Rattle.gx_object.proofs.Digits.{hex_is}
use Rattle.gx_growing_parts.proofs.written.digest_digits.Goals as goal

pub returns : goal.returns
returns c = c.in-Ok.ensures.written ∙ ap encode_lower c.as_slice.ensures ∙ hex_is c.args.digest.now (λ i. let fits = c.fits-digest i in omega arith)
