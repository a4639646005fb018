use Rattle.std.proofs.Common.{sym, ◌∙◌}
use Rattle.gx_lines.proofs.NumberTexts.{led_by_zero, plain_number, short_number}
use Rattle.gx_lines.proofs.lines.read_number.Goals as goal
use Rattle.gx_lines.proofs.lines.read_number.Goals.{else-text-gt1-via-then-text-gt1+else-starts_with, else-text-gt1-via-else-text-gt1}

pub returns-then-starts_with : goal.returns-then-starts_with
returns-then-starts_with c = led_by_zero c.args.text.now c.if-text-gt1.true (sym c.starts_with.ensures.value ∙ c.if-starts_with.true)

pub returns : goal.returns
returns c = c.decimal.ensures ∙ elim c.else-text-gt1.branch [
  | else-text-gt1-via-then-text-gt1+else-starts_with w ↦ plain_number c.args.text.now (sym w.starts_with.ensures.value ∙ w.if-starts_with.false)
  | else-text-gt1-via-else-text-gt1 w ↦ short_number c.args.text.now w.if-text-gt1.false
]
