use Rattle.std.proofs.Common.{◌+◌, subst, arith}
use Rattle.std.proofs.lemmas.List.{take_all}
use Rattle.gx_tree.specs.Nodes.{files}
use Rattle.gx_tree.specs.Rooms.{IsReach}
use Rattle.gx_tree.specs.Views.{shown_entries}
use Rattle.gx_tree.proofs.Rooms.{taken_less, taken_more}
use Rattle.gx_tree.proofs.reach.reach_within.Goals as goal

pub returns-then-longest-most : goal.returns-then-longest-most
returns-then-longest-most g c = omega (arith, c.max-longest.ensures, c.loop-entry.invariant, c.reach.ensures, c.requires.most, c.if-longest-most.true, taken_less c.args.entries.now (c.loop-entry.entry-index + 1), taken_more c.args.entries.now c.loop-entry.entry-index c.entry-item.result c.loop-entry-test.true c.entry-item.is c.requires.level)

pub loop-entry-preserved : goal.loop-entry-preserved
loop-entry-preserved g c = omega (arith, c.max-longest.ensures, c.loop-entry.invariant, c.reach.ensures, taken_more c.args.entries.now c.loop-entry.entry-index c.entry-item.result c.loop-entry-test.true c.entry-item.is c.requires.level)

pub returns : goal.returns
returns g c = subst (λ z. IsReach c.loop-entry.longest (files (shown_entries z))) (take_all c.loop-entry.entry-index c.args.entries.now c.loop-entry-test.false) c.loop-entry.invariant
