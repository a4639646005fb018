use Rattle.std.proofs.Common.{◌≡◌, sym}
use Rattle.std.proofs.lemmas.Result.{err_from_is_err_and}
use Rattle.gx_model.specs.Records.{named_map}
use Rattle.gx_model.specs.Histories.Values.{files_of}
use Rattle.gx_model.specs.Objects.NameMaps.{IsHeldTree}
use Rattle.gx_rev.specs.Objects.{commit_at}
use Rattle.gx_model.proofs.Records.HeldTrees.{files_are_held}
use Rattle.gx_import.proofs.LoadFaults.{load_fault}
use Rattle.gx_import.proofs.files.loaded_files.Goals as goal

pub load_among-requires : goal.load_among-requires
load_among-requires g c =
    let name = g.N.Namer.name_of c.args.repo.now.0 in
    let f = files_of (commit_at c.args.repo.now.1 c.args.commit.now) in
    record {
      held = (named_map name f, rw (c.store.ensures.held, c.tree_of-tree.ensures) (files_are_held name (g.met.N.Namer.is_namer c.args.repo.now.0) c.args.repo.now.1 c.store.ensures.sound c.args.commit.now.bytes c.requires.commit));
      loaded = rw c.store.ensures.held c.requires.loaded;
    }

pub returns-in_err-load_among-clause-fault : goal.returns-in_err-load_among-clause-fault
returns-in_err-load_among-clause-fault g c =
    let name = g.N.Namer.name_of c.args.repo.now.0 in
    let f = files_of (commit_at c.args.repo.now.1 c.args.commit.now) in
    let p = err_from_is_err_and c.from_residual.result c.from_residual.ensures.1 in
    let held : IsHeldTree (g.N.Namer.name_of c.store.result.now.0) c.store.result.now.1 c.tree_of-tree.result.bytes (named_map name f) = rw (c.store.ensures.held, c.tree_of-tree.ensures) (files_are_held name (g.met.N.Namer.is_namer c.args.repo.now.0) c.args.repo.now.1 c.store.ensures.sound c.args.commit.now.bytes c.requires.commit) in
    rw (p.1, p.2) (load_fault c.in_err-load_among.field-0.0 (named_map name f) (c.in_err-load_among.ensures.files (named_map name f) held))

pub returns-clause-files : goal.returns-clause-files
returns-clause-files g c =
    let name = g.N.Namer.name_of c.args.repo.now.0 in
    let f = files_of (commit_at c.args.repo.now.1 c.args.commit.now) in
    let held : IsHeldTree (g.N.Namer.name_of c.store.result.now.0) c.store.result.now.1 c.tree_of-tree.result.bytes (named_map name f) = rw (c.store.ensures.held, c.tree_of-tree.ensures) (files_are_held name (g.met.N.Namer.is_namer c.args.repo.now.0) c.args.repo.now.1 c.store.ensures.sound c.args.commit.now.bytes c.requires.commit) in
    let e = c.in_ok-load_among.ensures.files (named_map name f) held in
    let same : named_map name f ≡ c.in_ok-load_among.field-0.files = cc e in
    sym same

pub returns-clause-home : goal.returns-clause-home
returns-clause-home g c = rw c.store.ensures.held at c.in_ok-load_among.ensures.home
