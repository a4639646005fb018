use Rattle.std.proofs.Common.{sym, ap, ◌∙◌}
use Rattle.gx_print.specs.Messages.{trimmed}
use Rattle.gx_print.proofs.MessageTexts.{trimmed_nothing, trimmed_space, trimmed_whole}
use Rattle.gx_print.proofs.messages.trimmed.Goals as goal

pub returns-then-not-is_space : goal.returns-then-not-is_space
returns-then-not-is_space c =
    let whole = trimmed_whole c.in-Some.front.now c.in-Some.last.now (sym c.is_space.ensures ∙ c.if-not-is_space.true) in
    let spelled = c.in-Some.ensures.cases.0 in
    spelled ∙ sym whole ∙ ap trimmed (sym spelled) ∙ c.loop-last.invariant

pub loop-last-preserved : goal.loop-last-preserved
loop-last-preserved c =
    let less = trimmed_space c.in-Some.front.now c.in-Some.last.now (sym c.is_space.ensures ∙ c.if-not-is_space.false) in
    sym less ∙ ap trimmed (sym c.in-Some.ensures.cases.0) ∙ c.loop-last.invariant

pub returns : goal.returns
returns c = sym (trimmed_nothing c.loop-last.rest.now c.in_default.ensures.cases) ∙ c.loop-last.invariant
