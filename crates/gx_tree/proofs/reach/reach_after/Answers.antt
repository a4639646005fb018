use Rattle.std.proofs.Common.{arith, sym, subst}
use Rattle.gx_tree.specs.Nodes.{files}
use Rattle.gx_tree.specs.Rooms.{IsReach}
use Rattle.gx_tree.specs.Views.{shown_entries}
use Rattle.gx_tree.proofs.Rooms.{at_most, no_less, not_longest}
use Rattle.gx_tree.proofs.reach.reach_after.Goals as goal

pub returns-then-before-after : goal.returns-then-before-after
returns-then-before-after g c = subst (λ n. IsReach n (files (shown_entries c.args.entries.now))) (sym c.max.ensures) (no_less c.args.reach c.args.before c.args.after (files (shown_entries c.args.entries.now)) c.if-before-after.true c.requires.changes)

pub returns-then-before-reach : goal.returns-then-before-reach
returns-then-before-reach g c = not_longest c.args.reach c.args.before c.args.after (files (shown_entries c.args.entries.now)) (omega (arith, c.if-before-after.false)) c.if-before-reach.true c.requires.changes

pub reach_within-requires : goal.reach_within-requires
reach_within-requires g c = record {
  level = c.requires.level;
  most = at_most c.args.reach c.args.before c.args.after (files (shown_entries c.args.entries.now)) (omega (arith, c.if-before-after.false)) c.requires.changes;
}
