use Rattle.std.proofs.Common.{◌∙◌, arith}
use Rattle.gx_growing_parts.specs.Shown.{shown_run}
use Rattle.gx_additions.proofs.Puts.{run_put}
use Rattle.gx_additions.proofs.parts.put_run.Goals as goal

pub returns : goal.returns
returns g c =
    run_put c.put_all.result c.args.bytes.now.items c.put_all.new.bytes.items (shown_run c.args.run.now) c.as_bytes.result.now c.as_bytes-2.result.now c.as_slice.result.now
    (omega arith) (omega arith) (c.as_bytes.ensures.value ∙ c.format.ensures.text) (c.as_bytes-2.ensures.value ∙ c.format-2.ensures.text) (c.as_slice.ensures ∙ c.digest_digits-digits.ensures) c.put_all.ensures
