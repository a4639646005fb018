use Rattle.std.proofs.Common.{subst}
use Rattle.std.proofs.lemmas.List.{take_all}
use Rattle.gx_tree.specs.Views.{RememberAll, Remembers}
use Rattle.gx_tree.proofs.WrittenHomes.{all_more}
use Rattle.gx_tree.proofs.writing.remember_all.Goals as goal

pub loop-entry-preserved : goal.loop-entry-preserved
loop-entry-preserved g c = all_more (λ e. Remembers e.item) c.args.entries.now c.loop-entry.entry-index c.entry-item.result c.loop-entry-test.true c.entry-item.is c.loop-entry.invariant (c.remembers.ensures c.if-not-remembers.false)

pub returns : goal.returns
returns g c = λ is. subst RememberAll (take_all c.loop-entry.entry-index c.args.entries.now c.loop-entry-test.false) c.loop-entry.invariant
