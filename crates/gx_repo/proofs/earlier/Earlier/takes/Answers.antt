use Rattle.gx_object.specs.Entries.{shown}
use Rattle.gx_repo.proofs.EarlierTrees.{left_behind}
use Rattle.gx_repo.proofs.earlier.Earlier.takes.Goals as goal

pub returns-then-passes-clause-held : goal.returns-then-passes-clause-held
returns-then-passes-clause-held c = λ t. c.passes.ensures.held c.if-passes.true (shown c.args.entry.now) c.requires.text

pub returns-then-is_next-clause-left : goal.returns-then-is_next-clause-left
returns-then-is_next-clause-left c = λ records h. left_behind records c.passes.new.self.next c.passes.new.self.rest (c.passes.ensures.left records h)

pub returns-then-is_next-clause-held : goal.returns-then-is_next-clause-held
returns-then-is_next-clause-held c = λ t records h. c.is_next.ensures c.if-is_next.true records (c.passes.ensures.left records h)

pub returns-then-is_next-2-clause-left : goal.returns-then-is_next-2-clause-left
returns-then-is_next-2-clause-left c = λ records h. left_behind records c.pass_before.new.self.next c.pass_before.new.self.rest (c.pass_before.ensures records (c.passes.ensures.left records h))

pub returns-then-is_next-2-clause-held : goal.returns-then-is_next-2-clause-held
returns-then-is_next-2-clause-held c = λ t records h. c.is_next-2.ensures c.if-is_next-2.true records (c.pass_before.ensures records (c.passes.ensures.left records h))

pub returns-clause-left : goal.returns-clause-left
returns-clause-left c = λ records h. c.pass_before.ensures records (c.passes.ensures.left records h)
