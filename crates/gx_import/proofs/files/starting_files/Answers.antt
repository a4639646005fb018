use Rattle.std.proofs.Common.{refl}
use Rattle.gx_import.proofs.TipHomes.{taken_home, tips_taken}
use Rattle.gx_import.proofs.Parents.{taken_files, taken_stands}
use Rattle.gx_import.proofs.files.starting_files.Goals as goal

pub other_files-requires : goal.other_files-requires
other_files-requires g c =
    let name = g.N.Namer.name_of c.args.repo.now.0 in
    let given = rw c.in-Some.is at c.requires.stands in
    record { homes = tips_taken name c.args.repo.now.1.records c.args.tables.now _ c.requires.homes refl c.take_files.ensures.taken; stands = (given.0, given.1, taken_stands name c.args.repo.now.1 c.args.tables.now _ given.0 given.2 refl c.take_files.ensures.taken, given.3) }

pub returns-in-Some-take_files-clause-tables : goal.returns-in-Some-take_files-clause-tables
returns-in-Some-take_files-clause-tables g c = λ s h.
    let name = g.N.Namer.name_of c.args.repo.now.0 in
    taken_stands name c.args.repo.now.1 c.args.tables.now _ s h refl c.take_files.ensures.taken

pub returns-in-Some-take_files-clause-files : goal.returns-in-Some-take_files-clause-files
returns-in-Some-take_files-clause-files g c = λ s made h first.
    let name = g.N.Namer.name_of c.args.repo.now.0 in
    let parent = rw c.in-Some.is at first in
    taken_files name (g.met.N.Namer.is_namer c.args.repo.now.0) c.args.repo.now.1 c.sound.ensures c.args.tables.now s h c.args.branch.now c.in-Some.commit c.in-Some-take_files.files c.in-Some-take_files.ensures.files made parent

pub returns-in-None-clause-tables : goal.returns-in-None-clause-tables
returns-in-None-clause-tables g c = λ s h.
    let name = g.N.Namer.name_of c.args.repo.now.0 in
    c.other_files.ensures.tables s (taken_stands name c.args.repo.now.1 c.args.tables.now _ s h refl c.take_files.ensures.taken)

pub returns-in-None-clause-files : goal.returns-in-None-clause-files
returns-in-None-clause-files g c = λ s made h first.
    let name = g.N.Namer.name_of c.args.repo.now.0 in
    let parent = rw c.in-Some.is at first in
    c.other_files.ensures.files s made (taken_stands name c.args.repo.now.1 c.args.tables.now _ s h refl c.take_files.ensures.taken) parent

pub returns-in-Some-take_files-clause-homes : goal.returns-in-Some-take_files-clause-homes
returns-in-Some-take_files-clause-homes g c = λ h. tips_taken (g.N.Namer.name_of c.args.repo.now.0) c.args.repo.now.1.records c.args.tables.now _ h refl c.take_files.ensures.taken

pub returns-in-Some-take_files-clause-home : goal.returns-in-Some-take_files-clause-home
returns-in-Some-take_files-clause-home g c = λ h. taken_home (g.N.Namer.name_of c.args.repo.now.0) c.args.repo.now.1.records c.args.branch.now c.args.tables.now.branches c.in-Some.commit c.in-Some-take_files.files c.in-Some-take_files.ensures.files h.tips

pub returns-in-None-clause-homes : goal.returns-in-None-clause-homes
returns-in-None-clause-homes g c = λ h. c.other_files.ensures.homes (tips_taken (g.N.Namer.name_of c.args.repo.now.0) c.args.repo.now.1.records c.args.tables.now _ h refl c.take_files.ensures.taken)

pub returns-in-None-clause-home : goal.returns-in-None-clause-home
returns-in-None-clause-home g c = λ h. c.other_files.ensures.home (tips_taken (g.N.Namer.name_of c.args.repo.now.0) c.args.repo.now.1.records c.args.tables.now _ h refl c.take_files.ensures.taken)
