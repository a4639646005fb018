use Rattle.std.proofs.Common.{◌∙◌}
use Rattle.gx_bundled.proofs.ExcludedCommits.{all_named, none_named, one_named}
use Rattle.gx_bundled.proofs.excluded.names_in.Goals as goal

pub loop-commit-init : goal.loop-commit-init
loop-commit-init g c = none_named c.args.front.now.entries _ _ (c.into_iter-commit-iterator.ensures.into_iter_gives ∙ c.iter-commit-items.ensures.rest) c.new-names.ensures.items

pub loop-commit-preserved : goal.loop-commit-preserved
loop-commit-preserved g c =
    one_named c.args.front.now.entries c.loop-commit.commit-iterator c.next.new.self _ c.loop-commit.names.items c.push.new.self.items c.in-Some.ensures.steps c.in_ok-push.ensures.items c.loop-commit.invariant

pub returns-clause-names : goal.returns-clause-names
returns-clause-names g c = all_named c.args.front.now.entries _ c.loop-commit.names.items c.in-None.ensures.steps.0 c.loop-commit.invariant
