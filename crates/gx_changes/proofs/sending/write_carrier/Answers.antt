use Rattle.std.proofs.Common.{◌∙◌, sym}
use Rattle.gx_changes.proofs.Texts.{none_reset, reset_out}
use Rattle.gx_changes.proofs.sending.write_carrier.Goals as goal

pub returns-then-reach_all-clause-text : goal.returns-then-reach_all-clause-text
returns-then-reach_all-clause-text g c = λ r refs commits f. none_reset c.args.branches.now r refs commits f c.args.output.now (sym c.if-reach_all.true ∙ c.reach_all.ensures)

pub returns-clause-text : goal.returns-clause-text
returns-clause-text g c = λ r refs commits f. reset_out c.args.branches.now r refs commits f c.args.output.now c.write_reset.new.output c.write_reset.result (sym c.if-reach_all.false ∙ c.reach_all.ensures) c.write_reset.ensures.text
