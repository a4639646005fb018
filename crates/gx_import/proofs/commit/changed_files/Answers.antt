use Rattle.std.proofs.Common.{map, ap}
use Rattle.std.proofs.lemmas.Result.{err_from_is_err_and}
use Rattle.gx_model.specs.Replay.{starting_files}
use Rattle.gx_command.specs.Views.{shown_change}
use Rattle.gx_import.specs.Asking.{AsksByChange, is_of_reference}
use Rattle.gx_import.proofs.AskedReferences.{none_vain}
use Rattle.gx_import.proofs.FilesByName.{first_files}
use Rattle.gx_import.proofs.Parents.{taken_stands}
use Rattle.gx_import.proofs.TipHomes.{tips_longer, tips_taken}
use Rattle.gx_import.proofs.commit.changed_files.Goals as goal

pub returns-in_err-change_all-clause-steps : goal.returns-in_err-change_all-clause-steps
returns-in_err-change_all-clause-steps g c = λ s made h both.
    let name = g.N.Namer.name_of c.args.repo.now.0 in
    let p = err_from_is_err_and c.from_residual-in_err-change_all.result c.from_residual-in_err-change_all.ensures.1 in
    let room = taken_stands name c.args.repo.now.1 c.args.tables.now c.make_room.new.self s h c.make_room.ensures.others c.make_room.ensures.taken in
    let start = first_files name (g.met.N.Namer.is_namer c.args.repo.now.0) c.args.repo.now.1 c.sound.ensures s h.history made c.args.first both c.in_ok-files.files.files (c.in_ok-files.ensures.files s made room both) in
    rw (p.1, p.2) (c.in_err-change_all.ensures.steps s (starting_files made) (c.starting_files.ensures.tables s room) start)

pub returns-clause-steps : goal.returns-clause-steps
returns-clause-steps g c = λ s made h both.
    let name = g.N.Namer.name_of c.args.repo.now.0 in
    let room = taken_stands name c.args.repo.now.1 c.args.tables.now c.make_room.new.self s h c.make_room.ensures.others c.make_room.ensures.taken in
    let start = first_files name (g.met.N.Namer.is_namer c.args.repo.now.0) c.args.repo.now.1 c.sound.ensures s h.history made c.args.first both c.in_ok-files.files.files (c.in_ok-files.ensures.files s made room both) in
    c.in_ok-change_all.ensures.steps s (starting_files made) (c.starting_files.ensures.tables s room) start

pub returns-clause-home : goal.returns-clause-home
returns-clause-home g c = c.in_ok-change_all.ensures.home (c.in_ok-files.ensures.home (tips_taken (g.N.Namer.name_of c.args.repo.now.0) c.args.repo.now.1.records c.args.tables.now c.make_room.new.self c.requires.homes (ap (λ t. t.loaded) c.make_room.ensures.others) c.make_room.ensures.taken))

pub returns-clause-homes : goal.returns-clause-homes
returns-clause-homes g c =
    tips_longer (g.N.Namer.name_of c.args.repo.now.0) c.records_keep_home.ensures c.records_keep_loaded.ensures c.args.repo.now.1.records c.change_all.new.repo.1.records c.starting_files.new.tables c.change_all.ensures.only.extends (c.starting_files.ensures.homes (tips_taken (g.N.Namer.name_of c.args.repo.now.0) c.args.repo.now.1.records c.args.tables.now c.make_room.new.self c.requires.homes (ap (λ t. t.loaded) c.make_room.ensures.others) c.make_room.ensures.taken))

pub returns-in_err-files-clause-steps : goal.returns-in_err-files-clause-steps
returns-in_err-files-clause-steps g c = λ s made h both.
    let p = err_from_is_err_and c.from_residual.result c.from_residual.ensures.1 in
    rw (p.1, p.2, c.in_err-files.ensures.fault) tt

pub starting_files-requires : goal.starting_files-requires
starting_files-requires g c =
    let name = g.N.Namer.name_of c.args.repo.now.0 in
    let s = c.requires.stands.0 in
    let h = c.requires.stands.2 in
    record {
      stands = (s, c.requires.stands.1, taken_stands name c.args.repo.now.1 c.args.tables.now c.make_room.new.self s h c.make_room.ensures.others c.make_room.ensures.taken, c.requires.stands.3);
      homes = tips_taken (g.N.Namer.name_of c.args.repo.now.0) c.args.repo.now.1.records c.args.tables.now c.make_room.new.self c.requires.homes (ap (λ t. t.loaded) c.make_room.ensures.others) c.make_room.ensures.taken;
    }

pub returns-in_err-change_all-clause-told : goal.returns-in_err-change_all-clause-told
returns-in_err-change_all-clause-told g c = λ s made h both.
    let name = g.N.Namer.name_of c.args.repo.now.0 in
    let p = err_from_is_err_and c.from_residual-in_err-change_all.result c.from_residual-in_err-change_all.ensures.1 in
    let room = taken_stands name c.args.repo.now.1 c.args.tables.now c.make_room.new.self s h c.make_room.ensures.others c.make_room.ensures.taken in
    let start = first_files name (g.met.N.Namer.is_namer c.args.repo.now.0) c.args.repo.now.1 c.sound.ensures s h.history made c.args.first both c.in_ok-files.files.files (c.in_ok-files.ensures.files s made room both) in
    rw (p.1, p.2) (c.in_err-change_all.ensures.told s (starting_files made) (c.starting_files.ensures.tables s room) start)

pub returns-in_err-files-clause-told : goal.returns-in_err-files-clause-told
returns-in_err-files-clause-told g c = λ s made h both.
    let p = err_from_is_err_and c.from_residual.result c.from_residual.ensures.1 in
    rw (p.1, p.2, c.requires.blank.0) (c.in_err-files.ensures.fault, c.requires.blank.1)

pub returns-clause-told : goal.returns-clause-told
returns-clause-told g c = λ s made h both.
    let name = g.N.Namer.name_of c.args.repo.now.0 in
    let room = taken_stands name c.args.repo.now.1 c.args.tables.now c.make_room.new.self s h c.make_room.ensures.others c.make_room.ensures.taken in
    let start = first_files name (g.met.N.Namer.is_namer c.args.repo.now.0) c.args.repo.now.1 c.sound.ensures s h.history made c.args.first both c.in_ok-files.files.files (c.in_ok-files.ensures.files s made room both) in
    c.in_ok-change_all.ensures.told s (starting_files made) (c.starting_files.ensures.tables s room) start

-- ---- what is asked for

pub returns-in_err-change_all-clause-asked : goal.returns-in_err-change_all-clause-asked
returns-in_err-change_all-clause-asked g c = λ s made h both.
    let name = g.N.Namer.name_of c.args.repo.now.0 in
    let p = err_from_is_err_and c.from_residual-in_err-change_all.result c.from_residual-in_err-change_all.ensures.1 in
    let room = taken_stands name c.args.repo.now.1 c.args.tables.now c.make_room.new.self s h c.make_room.ensures.others c.make_room.ensures.taken in
    let start = first_files name (g.met.N.Namer.is_namer c.args.repo.now.0) c.args.repo.now.1 c.sound.ensures s h.history made c.args.first both c.in_ok-files.files.files (c.in_ok-files.ensures.files s made room both) in
    rw (p.1, p.2) (c.in_err-change_all.ensures.asked s (starting_files made) (c.starting_files.ensures.tables s room) start)

pub returns-in_err-files-clause-asked : goal.returns-in_err-files-clause-asked
returns-in_err-files-clause-asked g c = λ s made h both.
    let name = g.N.Namer.name_of c.args.repo.now.0 in
    let p = err_from_is_err_and c.from_residual.result c.from_residual.ensures.1 in
    let e = c.in_err-files.field-0.0 in
    rw (p.1, p.2) (none_vain (AsksByChange name s (starting_files made) (map shown_change c.args.changes.items) e) e c.args.told.now.asked c.requires.unasked (ap is_of_reference c.in_err-files.ensures.fault))

pub returns-clause-asked : goal.returns-clause-asked
returns-clause-asked g c = λ s made h both.
    let name = g.N.Namer.name_of c.args.repo.now.0 in
    let room = taken_stands name c.args.repo.now.1 c.args.tables.now c.make_room.new.self s h c.make_room.ensures.others c.make_room.ensures.taken in
    let start = first_files name (g.met.N.Namer.is_namer c.args.repo.now.0) c.args.repo.now.1 c.sound.ensures s h.history made c.args.first both c.in_ok-files.files.files (c.in_ok-files.ensures.files s made room both) in
    c.in_ok-change_all.ensures.asked s (starting_files made) (c.starting_files.ensures.tables s room) start
