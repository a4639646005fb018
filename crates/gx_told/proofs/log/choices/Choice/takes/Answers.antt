use Rattle.std.proofs.Common.{◌∷◌, sym, ap, ◌∙◌}
use Rattle.gx_print.specs.Choices.{passes}
use Rattle.gx_told.specs.Choosing.{taken_of}
use Rattle.gx_told.proofs.TakenCommits.{left_out, passed_over, taken_first}
use Rattle.gx_told.proofs.log.choices.Choice.takes.Goals as goal

pub returns-then-not-passes : goal.returns-then-not-passes
returns-then-not-passes c = λ name made others e. left_out name made others c.args.self.now (ap (passes c.args.self.now.only) (sym e) ∙ sym c.passes.ensures ∙ c.if-not-passes.true)

pub returns-then-skips : goal.returns-then-skips
returns-then-skips c = λ name made others e.
    let old = c.args.self.now in
    let kept = ap (passes old.only) (sym e) ∙ sym c.passes.ensures ∙ c.if-not-passes.false in
    passed_over name made others old.only old.skip old.left kept (sym c.skips.ensures ∙ c.if-skips.true)
    ∙ ap (λ skip. taken_of name (record { only = old.only; skip = skip; left = old.left }) others) (sym c.one_less-self.ensures)

pub returns : goal.returns
returns c = λ name made others e.
    let old = c.args.self.now in
    let kept = ap (passes old.only) (sym e) ∙ sym c.passes.ensures ∙ c.if-not-passes.false in
    taken_first name made others old.only old.skip old.left kept (sym c.skips.ensures ∙ c.if-skips.false) c.requires
    ∙ ap (λ left. made ∷ taken_of name (record { only = old.only; skip = old.skip; left = left }) others) (sym c.one_less-self-2.ensures)
