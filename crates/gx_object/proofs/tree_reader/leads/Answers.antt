use Rattle.std.proofs.Common.{refl}
use Rattle.gx_object.specs.Entries.{shown}
use Rattle.gx_object.specs.Trees.{entries_left}
use Rattle.gx_object.proofs.Steps.{past_apart}
use Rattle.gx_object.proofs.tree_reader.leads.Goals as goal

pub returns-then-is_apart-clause-leads : goal.returns-then-is_apart-clause-leads
returns-then-is_apart-clause-leads c = λ _.
    past_apart (shown c.args.first.now) (shown c.args.next.now) (entries_left c.args.after.now) _ _ _ c.requires.proper (c.if-is_apart.ensures.order refl) (c.if-is_apart.ensures.front refl) (c.pass.ensures.met (entries_left c.args.after.now))
