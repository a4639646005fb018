use Rattle.std.proofs.Common.{sym, ◌∙◌}
use Rattle.std.proofs.lemmas.Result.{IfOk-weaker}
use Rattle.gx_line.proofs.command_line.values.format_of.Goals as goal

pub returns-in-None-clause-format : goal.returns-in-None-clause-format
returns-in-None-clause-format c = c.in-None.ensures

pub returns-in-Some-clause-format : goal.returns-in-Some-clause-format
returns-in-Some-clause-format c = IfOk-weaker c.format_named.result _ _ (λ format h. c.in-Some.ensures ∙ sym h) c.format_named.ensures.format
