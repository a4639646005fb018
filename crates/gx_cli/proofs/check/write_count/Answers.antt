use Rattle.std.proofs.Common.{append_assoc}
use Rattle.gx_cli.proofs.check.write_count.Goals as goal

pub returns : goal.returns
returns g c =
    rw (c.in_ok-extend_from_slice-2.ensures.items, c.in_ok-extend_from_slice.ensures.items, c.as_bytes.ensures.value, c.format.ensures.text) (append_assoc c.args.line.now.items c.args.words.now _)
