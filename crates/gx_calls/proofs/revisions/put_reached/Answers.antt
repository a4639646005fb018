use Rattle.gx_calls.proofs.revisions.put_reached.Goals as goal

pub is_ancestor-requires-clause-holds : goal.is_ancestor-requires-clause-holds
is_ancestor-requires-clause-holds g c = c.new-parents.ensures c.args.repo.now.1
