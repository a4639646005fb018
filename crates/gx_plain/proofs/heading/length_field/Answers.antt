use Rattle.gx_file.proofs.StatedNames.{stated, unstated}
use Rattle.gx_plain.proofs.heading.length_field.Goals as goal

pub returns-in_err-read_lower-in-Two : goal.returns-in_err-read_lower-in-Two
returns-in_err-read_lower-in-Two c =
    rw (c.in-Two.is, c.from_residual-in_err-read_lower-in-Two.ensures) (unstated c.args.field.now c.in_ok-length-in-Two.length.now c.in_ok-length-in-Two.digits.now c.in_ok-length-in-Two-2.length c.in_ok-length-in-Two.ensures c.in_ok-length-in-Two-2.ensures c.in_err-read_lower-in-Two.ensures)

pub returns-in_ok-read_lower-in-Two : goal.returns-in_ok-read_lower-in-Two
returns-in_ok-read_lower-in-Two c =
    rw c.in-Two.is (stated c.args.field.now c.in_ok-length-in-Two.length.now c.in_ok-length-in-Two.digits.now c.in_ok-length-in-Two-2.length c.in_ok-length-in-Two.ensures c.in_ok-length-in-Two-2.ensures c.in_ok-read_lower-in-Two.field-0.bytes c.in_ok-read_lower-in-Two.ensures)
