use Rattle.std.proofs.Common.{sym, ◌∙◌, refl}
use Rattle.gx_command.proofs.texts.is_null.Goals as goal

pub returns-then-are_zeros : goal.returns-then-are_zeros
returns-then-are_zeros c = rw (sym c.are_zeros.ensures ∙ c.if-are_zeros.true) refl
