use Rattle.std.proofs.Common.{Ok, sym, ap}
use Rattle.gx_tree.proofs.HeldLevels.{within_all}
use Rattle.gx_tree.proofs.OneMap.{one_map}
use Rattle.gx_tree.proofs.path_tree.PathTree.load_among.Goals as goal

pub load-requires : goal.load-requires
load-requires g c = record {
  held = (c.requires.held.0, (c.requires.held.1, within_all c.requires.held.0 c.requires.held.1.map));
  loaded = c.make_room.ensures (g.N.Namer.name_of c.args.store.now.0) c.args.store.now.1 c.requires.loaded;
}

pub invariant_of-result : goal.invariant_of-result
invariant_of-result g c = c.in_ok-directory.ensures.directory.held.map

pub returns-clause-files : goal.returns-clause-files
returns-clause-files g c = λ f h.
    let name = g.N.Namer.name_of c.args.store.now.0 in
    ap Ok (sym (one_map name c.args.store.now.1 (g.met.N.Namer.is_namer c.args.store.now.0) c.args.name.now.bytes _ f c.in_ok-directory.ensures.directory.held h))

pub returns-clause-home : goal.returns-clause-home
returns-clause-home g c = c.in_ok-directory.ensures.directory.home
