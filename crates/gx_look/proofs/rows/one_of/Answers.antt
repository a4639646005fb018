use Rattle.std.proofs.Common.{sym, ◌∙◌}
use Rattle.std.specs.Bool.{passes}
use Rattle.std.proofs.lemmas.Bool.{false≢true}
use Rattle.gx_model.proofs.Texts.PathTests.{is_same, is_true, same_is}
use Rattle.gx_look.proofs.RowsBetween.{joins_alike, joins_apart}
use Rattle.gx_look.proofs.rows.one_of.Goals as goal

pub returns-then-eq : goal.returns-then-eq
returns-then-eq c = joins_alike c.args.name c.args.other (same_is c.args.name.bytes c.args.other.bytes (passes _ (sym c.eq.ensures ∙ c.if-eq.true)))

pub returns-else-eq : goal.returns-else-eq
returns-else-eq c = joins_apart c.args.name c.args.other (λ same. false≢true (sym (sym c.eq.ensures ∙ c.if-eq.false) ∙ is_true _ (is_same c.args.name.bytes c.args.other.bytes same)))
