use Rattle.gx_marks.proofs.MarkLines.{short_name}
use Rattle.gx_marks.proofs.reading.read_name.Goals as goal

pub returns-in_err-digits : goal.returns-in_err-digits
returns-in_err-digits c = rw c.from_residual.ensures (short_name c.args.text.now c.in_err-digits.ensures.cases)
