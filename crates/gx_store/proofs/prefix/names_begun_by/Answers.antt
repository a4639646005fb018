use Rattle.std.proofs.Common.{refl, sym, subst}
use Rattle.std.specs.Prelude.{IfNone}
use Rattle.gx_store.specs.Prefixes.{BeginNone}
use Rattle.gx_store.proofs.FilledNames.{filled_ends, not_filled}
use Rattle.gx_store.proofs.prefix.names_begun_by.Goals as goal

pub returns-in_err-least-clause-none : goal.returns-in_err-least-clause-none
returns-in_err-least-clause-none c = subst (λ r. IfNone r (BeginNone c.args.digits.now)) (sym c.from_residual.ensures) (not_filled c.args.digits.now 48 refl (sym c.in_err-least.ensures))

pub returns-in_err-greatest-clause-none : goal.returns-in_err-greatest-clause-none
returns-in_err-greatest-clause-none c = subst (λ r. IfNone r (BeginNone c.args.digits.now)) (sym c.from_residual-in_err-greatest.ensures) (not_filled c.args.digits.now 102 refl (sym c.in_err-greatest.ensures))

pub returns-clause-within : goal.returns-clause-within
returns-clause-within c = filled_ends c.args.digits.now c.in_ok-least.least.bytes c.in_ok-greatest.greatest.bytes (sym c.in_ok-least.ensures) (sym c.in_ok-greatest.ensures)
