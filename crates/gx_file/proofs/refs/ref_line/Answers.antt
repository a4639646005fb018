use Rattle.std.proofs.Common.{true, false, sym, ◌∙◌}
use Rattle.gx_file.proofs.SetRefs.{line_read}
use Rattle.gx_file.proofs.refs.ref_line.Goals as goal

pub returns-then-is_ref_name : goal.returns-then-is_ref_name
returns-then-is_ref_name c =
    sym (line_read c.args.line.now c.in_ok-digits.digits.now c.in_ok-digits.name.now c.in_ok-target.target.bytes true c.in_ok-digits.ensures c.in_ok-target.ensures (sym c.is_ref_name.ensures ∙ c.if-is_ref_name.true))

pub returns-else-is_ref_name : goal.returns-else-is_ref_name
returns-else-is_ref_name c =
    sym (line_read c.args.line.now c.in_ok-digits.digits.now c.in_ok-digits.name.now c.in_ok-target.target.bytes false c.in_ok-digits.ensures c.in_ok-target.ensures (sym c.is_ref_name.ensures ∙ c.if-is_ref_name.false))
