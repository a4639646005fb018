use Rattle.std.proofs.Common.{◌∙◌}
use Rattle.gx_stream.proofs.Lines.{line_len-found}
use Rattle.gx_stream.proofs.places.line_len.Goals as goal

pub returns-clause-value : goal.returns-clause-value
returns-clause-value c = c.unwrap_or.ensures ∙ line_len-found c.args.text.now c.memchr.result c.memchr.ensures
