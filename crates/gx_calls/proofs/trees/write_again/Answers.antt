use Rattle.gx_calls.proofs.trees.write_again.Goals as goal

pub write_shared-requires : goal.write_shared-requires
write_shared-requires g c = record { home = rw c.write.ensures.namer (c.modify.ensures.home _ _ c.in-Ok.ensures.home) }
