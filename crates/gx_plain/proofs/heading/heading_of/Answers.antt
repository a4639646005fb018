use Rattle.std.proofs.Common.{None}
use Rattle.gx_file.proofs.StatedNames.{heading_read}
use Rattle.gx_plain.proofs.heading.heading_of.Goals as goal

pub returns-in_err-length : goal.returns-in_err-length
returns-in_err-length c =
    rw c.from_residual-in_err-length.ensures (heading_read c.args.version c.args.line.now c.in_ok-word.word.now c.in_ok-word.field.now c.in_ok-kind.kind None c.in_ok-word.ensures c.in_ok-kind.ensures c.in_err-length.ensures)

pub returns : goal.returns
returns c = heading_read c.args.version c.args.line.now c.in_ok-word.word.now c.in_ok-word.field.now c.in_ok-kind.kind _ c.in_ok-word.ensures c.in_ok-kind.ensures c.in_ok-length.ensures
