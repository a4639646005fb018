use Rattle.gx_lines.proofs.LineFronts.{no_word, word_cut}
use Rattle.gx_lines.proofs.lines.after_word.Goals as goal

pub returns-in_err-strip_prefix : goal.returns-in_err-strip_prefix
returns-in_err-strip_prefix c = rw c.from_residual.ensures (no_word c.args.word.now c.args.line.now c.in_err-strip_prefix.ensures.cases)

pub returns : goal.returns
returns c =
    let first = c.in_ok-strip_prefix.ensures.cases in
    word_cut c.args.word.now c.args.line.now c.in_ok-strip_prefix.field-0 c.strip_prefix-2.result first.0 first.1 c.strip_prefix-2.ensures.cases
