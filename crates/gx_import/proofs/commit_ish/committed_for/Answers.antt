use Rattle.gx_import.proofs.commit_ish.committed_for.Goals as goal

pub committed_with-requires : goal.committed_with-requires
committed_with-requires g c = record { walk = c.new-first_parents.ensures c.args.repo.now.1 }
