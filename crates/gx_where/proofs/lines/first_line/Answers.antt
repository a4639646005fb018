use Rattle.std.proofs.Common.{take, ap, ◌∙◌}
use Rattle.gx_stream.proofs.Lines.{line_len-found}
use Rattle.gx_where.proofs.lines.first_line.Goals as goal

pub returns : goal.returns
returns c = ap (λ k. take k c.args.text.now) (c.unwrap_or-len.ensures ∙ line_len-found c.args.text.now c.memchr.result c.memchr.ensures)
