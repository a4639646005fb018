use Rattle.std.proofs.Common.{◌≡◌, sym, ap, subst, ◌∙◌}
use Rattle.std.specs.Prelude.{IfOk}
use Rattle.std.proofs.lemmas.Result.{err_from_is_err_and}
use Rattle.gx_model.specs.Records.{named_map}
use Rattle.gx_tree.specs.Named.{IsAtHome}
use Rattle.gx_import.proofs.LoadFaults.{load_fault}
use Rattle.gx_import.proofs.Parents.{parent_files, parent_held, taken_files}
use Rattle.gx_import.proofs.TipHomes.{taken_home}
use Rattle.gx_import.proofs.files.other_files.Goals as goal

pub loaded_files-requires : goal.loaded_files-requires
loaded_files-requires g c =
    let given = c.requires.stands in
    let held = parent_held (g.N.Namer.name_of c.args.repo.now.0) (g.met.N.Namer.is_namer c.args.repo.now.0) c.args.repo.now.1 c.sound.ensures given.0 given.2.history given.1 c.args.commit.now given.3 in
    record { commit = held; loaded = c.requires.homes.loaded }

pub returns-in_err-duplicate-in-Some-clause-fault : goal.returns-in_err-duplicate-in-Some-clause-fault
returns-in_err-duplicate-in-Some-clause-fault g c =
    let p = err_from_is_err_and c.from_residual.result c.from_residual.ensures.1 in
    rw (p.1, p.2) (load_fault c.in_err-duplicate-in-Some.field-0.0 c.in-Some.files.now c.in_err-duplicate-in-Some.ensures)

pub returns-in_ok-duplicate-in-Some-clause-files : goal.returns-in_ok-duplicate-in-Some-clause-files
returns-in_ok-duplicate-in-Some-clause-files g c = λ s made h first.
    let name = g.N.Namer.name_of c.args.repo.now.0 in
    let same : c.in-Some.files.now ≡ c.in_ok-duplicate-in-Some.field-0 = cc c.in_ok-duplicate-in-Some.ensures in
    let were = c.in-Some.ensures in
    ap (λ t. t.files) (sym same) ∙ taken_files name (g.met.N.Namer.is_namer c.args.repo.now.0) c.args.repo.now.1 c.sound.ensures c.args.tables.now s h were.0 c.args.commit.now c.in-Some.files.now were.1 made first

pub returns-in_ok-duplicate-in-Some-clause-home : goal.returns-in_ok-duplicate-in-Some-clause-home
returns-in_ok-duplicate-in-Some-clause-home g c = λ h.
    let name = g.N.Namer.name_of c.args.repo.now.0 in
    let same : c.in-Some.files.now ≡ c.in_ok-duplicate-in-Some.field-0 = cc c.in_ok-duplicate-in-Some.ensures in
    let were = c.in-Some.ensures in
    subst (IsAtHome name c.args.repo.now.1.records) same (taken_home name c.args.repo.now.1.records were.0 c.args.tables.now.branches c.args.commit.now c.in-Some.files.now were.1 h.tips)

pub returns-in-None-clause-files : goal.returns-in-None-clause-files
returns-in-None-clause-files g c = λ s made h first.
    let name = g.N.Namer.name_of c.args.repo.now.0 in
    subst (λ f. IfOk c.loaded_files.result (λ files. files.files ≡ named_map name f))
    (parent_files name (g.met.N.Namer.is_namer c.args.repo.now.0) c.args.repo.now.1 c.sound.ensures s h.history made c.args.commit.now first) c.loaded_files.ensures.files

pub returns-in-None-clause-tables : goal.returns-in-None-clause-tables
returns-in-None-clause-tables g c = λ s h. record {
  history = h.history;
  marks = h.marks;
  branches = h.branches;
  tags = h.tags;
  ref_names = h.ref_names;
  own = h.own;
  forced = h.forced;
  published = h.published;
}

pub returns-in-None-clause-homes : goal.returns-in-None-clause-homes
returns-in-None-clause-homes g c = λ h. record { tips = h.tips; loaded = c.loaded_files.ensures.loaded }
