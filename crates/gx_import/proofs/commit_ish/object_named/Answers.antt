use Rattle.gx_import.proofs.commit_ish.object_named.Goals as goal

pub object_named_with-requires : goal.object_named_with-requires
object_named_with-requires g c = record { walk = c.new-first_parents.ensures c.args.repo.now.1 }
