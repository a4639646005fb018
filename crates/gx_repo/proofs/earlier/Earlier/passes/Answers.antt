use Rattle.std.proofs.Common.{sym, subst, ◌∙◌}
use Rattle.std.specs.List.{AllByRecursion}
use Rattle.gx_repo.specs.Earlier.{IsThere}
use Rattle.gx_repo.proofs.EarlierTrees.{left_behind, left_passed, left_taken}
use Rattle.gx_repo.proofs.earlier.Earlier.passes.Goals as goal

pub returns-then-pass-clause-left : goal.returns-then-pass-clause-left
returns-then-pass-clause-left c = λ records h.
    let old = c.args.self.now in
    let e = c.requires.text in
    (left_passed records old.next old.rest c.pass.new.self e.0 (sym c.is_some.ensures ∙ c.if-is_some.false) (c.pass.ensures.passed c.if-pass.true e.0 e.1) h).1

pub returns-then-pass-clause-held : goal.returns-then-pass-clause-held
returns-then-pass-clause-held c = λ t e is records h.
    let old = c.args.self.now in
    (left_passed records old.next old.rest c.pass.new.self e (sym c.is_some.ensures ∙ c.if-is_some.false) (c.pass.ensures.passed c.if-pass.true e is) h).0

pub returns-clause-left : goal.returns-clause-left
returns-clause-left c = λ records h.
    let old = c.args.self.now in
    left_taken records c.pass.new.self c.next-self.new.self c.next-self.result c.next-self.ensures.steps
    (subst (AllByRecursion (IsThere records)) (sym (c.pass.ensures.unchanged c.if-pass.false)) (left_behind records old.next old.rest h))
