use Rattle.gx_tree.proofs.path_tree.PathTree.write.Goals as goal

pub write_shared-requires : goal.write_shared-requires
write_shared-requires g c = record { home = c.in_ok-tree.ensures.home (g.N.Namer.name_of c.args.store.now.0) c.args.store.now.1 tt }
