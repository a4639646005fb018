use Rattle.gx_asked.proofs.asked.Asked.enter.Goals as goal

pub returns-in-Commit-clause-fault : goal.returns-in-Commit-clause-fault
returns-in-Commit-clause-fault g c = rw c.in-Commit.is c.enter_commit.ensures.fault
