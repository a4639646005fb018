use Rattle.gx_tree.proofs.path_tree.PathTree.load.Goals as goal

pub load_among-requires : goal.load_among-requires
load_among-requires g c = record { held = c.requires; loaded = c.new-loaded.ensures (g.N.Namer.name_of c.args.store.now.0) c.args.store.now.1 }
