use Rattle.std.proofs.Common.{[], Err, sym, subst}
use Rattle.std.proofs.lemmas.Result.{err_from_is_err_and}
use Rattle.gx_command.specs.Views.{commit_parts, shown_commit}
use Rattle.gx_tree.specs.Named.{NamedTree, IsAtHome}
use Rattle.gx_import.specs.Calls.{EditsFrom}
use Rattle.gx_import.specs.Standing.{Follows}
use Rattle.gx_model.specs.Objects.NameMaps.{AreFiles}
use Rattle.gx_import.specs.Asking.{AsksByCommit}
use Rattle.gx_import.proofs.AskedReferences.{change_vain, late_vain}
use Rattle.gx_import.proofs.CommitRuns.{AddGives, add_fails, add_told, add_vain, changes_fail, commit_done, named_after, on_ok, parents_held, set_or_full}
use Rattle.gx_import.proofs.Extended.{only_more}
use Rattle.gx_import.specs.Telling.{AskedByEditsFrom, TellsEditsFrom}
use Rattle.gx_import.proofs.ToldCommits.{change_told, late_told}
use Rattle.gx_import.proofs.TipHomes.{tips_longer}
use Rattle.gx_import.proofs.commit.make_commit.Goals as goal

pub changed_files-requires-clause-stands : goal.changed_files-requires-clause-stands
changed_files-requires-clause-stands g c =
    let s = c.requires.stands.0 in
    let h = c.requires.stands.1 in
    let p = c.requires.parents s h in
    (s, p.0, h, p.4)

pub returns-in_err-files-clause-steps : goal.returns-in_err-files-clause-steps
returns-in_err-files-clause-steps g c = λ s h.
    let name = g.N.Namer.name_of c.args.repo.now.0 in
    let f = err_from_is_err_and c.from_residual.result c.from_residual.ensures.1 in
    let p = c.requires.parents s h in
    let e = c.in_err-files.field-0.0 in
    let steps = subst (λ cs. EditsFrom g.N.Namer.name_of c.args.repo.now c.changed_files.new.repo c.args.tables.now c.changed_files.new.tables c.args.first cs (Err e)) c.replace-changes.ensures.value c.in_err-files.ensures.steps in
    rw (f.1, f.2) (changes_fail name c.args.repo.now.1 c.changed_files.new.repo.1 c.changed_files.new.repo.1 c.args.tables.now c.changed_files.new.tables [] s h (commit_parts c.args.commit) c.args.first c.args.parents.now p {X = NamedTree}
    (λ r files. Follows name c.changed_files.new.repo.1 c.changed_files.new.tables s r.0 × AreFiles name r.0.history.values r.1 files.files) e (steps s p.0 h p.4) {Z = Unit {0}} (λ t x. Unit {0}))

pub add-requires-clause-named : goal.add-requires-clause-named
add-requires-clause-named g c =
    let s = c.requires.stands.0 in
    let h = c.requires.stands.1 in
    let p = c.requires.parents s h in
    let steps = rw c.replace-changes.ensures.value at c.in_ok-files.ensures.steps in
    let sound = rw c.changed_files.ensures.only.namer at c.sound.ensures in
    named_after (g.N.Namer.name_of c.args.repo.now.0) _ _ _ _ s (commit_parts c.args.commit) (steps s p.0 h p.4) _ _ p.5 (g.met.N.Namer.is_namer c.args.repo.now.0) sound

pub add-requires-clause-parents : goal.add-requires-clause-parents
add-requires-clause-parents g c =
    let s = c.requires.stands.0 in
    let h = c.requires.stands.1 in
    let p = c.requires.parents s h in
    let steps = rw c.replace-changes.ensures.value at c.in_ok-files.ensures.steps in
    let sound = rw c.changed_files.ensures.only.namer at c.sound.ensures in
    parents_held (g.N.Namer.name_of c.args.repo.now.0) _ _ _ _ s (commit_parts c.args.commit) (steps s p.0 h p.4) _ _ p.5 (g.met.N.Namer.is_namer c.args.repo.now.0) sound

pub add-requires-clause-home : goal.add-requires-clause-home
add-requires-clause-home g c =
    subst (λ n. IsAtHome (g.N.Namer.name_of n) c.changed_files.new.repo.1.records c.in_ok-files.files) (sym c.changed_files.ensures.only.namer) c.in_ok-files.ensures.home

pub returns-in_err-name-clause-only : goal.returns-in_err-name-clause-only
returns-in_err-name-clause-only g c = only_more _ _ _ c.changed_files.ensures.only c.add.ensures.only

pub returns-in_err-name-clause-steps : goal.returns-in_err-name-clause-steps
returns-in_err-name-clause-steps g c = λ s h.
    let f = err_from_is_err_and c.from_residual-in_err-name.result c.from_residual-in_err-name.ensures.1 in
    let p = c.requires.parents s h in
    let steps = rw c.replace-changes.ensures.value at c.in_ok-files.ensures.steps in
    let e = c.in_err-name.field-0.0 in
    let adds = subst (λ n. AddGives (g.N.Namer.name_of n) g.row.A.Denot c.changed_files.new.repo.1 c.add.new.repo.1 c.in_ok-files.files.files c.args.parents.now (commit_parts c.args.commit) (Err e)) c.changed_files.ensures.only.namer c.in_err-name.ensures.steps in
    rw (f.1, f.2) (add_fails (g.N.Namer.name_of c.args.repo.now.0) c.args.repo.now.1 c.changed_files.new.repo.1 c.add.new.repo.1 c.args.tables.now c.changed_files.new.tables c.in_ok-files.files.files s h (commit_parts c.args.commit) c.args.first c.args.parents.now p (steps s p.0 h p.4) e adds {Z = Unit {0}} (λ t x. Unit {0}))

pub returns-clause-only : goal.returns-clause-only
returns-clause-only g c = only_more _ _ _ c.changed_files.ensures.only c.add.ensures.only

pub returns-clause-homes : goal.returns-clause-homes
returns-clause-homes g c =
    let name = g.N.Namer.name_of c.args.repo.now.0 in
    let new = c.add.new.repo.1.records in
    let homes = tips_longer name c.records_keep_home.ensures c.records_keep_loaded.ensures c.changed_files.new.repo.1.records new c.changed_files.new.tables c.add.ensures.only.extends c.in_ok-files.ensures.homes in
    let home = rw c.changed_files.ensures.only.namer at c.in_ok-name.ensures.home in
    on_ok c.set_mark_and_branch.result c.set_mark_and_branch.ensures.homes (λ keeps. keeps name new home homes)

pub returns-clause-steps : goal.returns-clause-steps
returns-clause-steps g c = λ s h.
    let name = g.N.Namer.name_of c.args.repo.now.0 in
    let p = c.requires.parents s h in
    let tables = c.set_mark_and_branch.new.tables in
    let steps = rw c.replace-changes.ensures.value at c.in_ok-files.ensures.steps in
    let adds = rw c.changed_files.ensures.only.namer at c.in_ok-name.ensures.steps in
    set_or_full _ (λ t x. Follows name c.add.new.repo.1 tables s t) _ c.set_mark_and_branch.result c.set_mark_and_branch.ensures.steps c.set_mark_and_branch.ensures.fault
    (λ set. let d = commit_done name c.args.repo.now.1 c.changed_files.new.repo.1 c.add.new.repo.1 c.args.tables.now c.changed_files.new.tables c.in_ok-files.files.files s h (commit_parts c.args.commit) c.args.first c.args.parents.now p (steps s p.0 h p.4) c.in_ok-name.name adds c.add.new.files c.add.ensures.files tables set in (d.0, d.1, λ x. d.2))

pub returns-in_err-files-clause-told : goal.returns-in_err-files-clause-told
returns-in_err-files-clause-told g c = λ s h.
    let name = g.N.Namer.name_of c.args.repo.now.0 in
    let f = err_from_is_err_and c.from_residual.result c.from_residual.ensures.1 in
    let p = c.requires.parents s h in
    let e = c.in_err-files.field-0.0 in
    let told = subst (λ cs. TellsEditsFrom g.N.Namer.name_of {X = NamedTree} c.args.repo.now c.args.tables.now c.args.first cs (Err e) c.changed_files.new.told) c.replace-changes.ensures.value c.in_err-files.ensures.told in
    rw (f.1, f.2) (change_told name s (commit_parts c.args.commit) p.0 p.1 p.2 p.3 c.changed_files.new.told e (told s p.0 h p.4))

-- nothing is told where all changes were made
pub returns-in_err-name-clause-told : goal.returns-in_err-name-clause-told
returns-in_err-name-clause-told g c = λ s h.
    let name = g.N.Namer.name_of c.args.repo.now.0 in
    let f = err_from_is_err_and c.from_residual-in_err-name.result c.from_residual-in_err-name.ensures.1 in
    let p = c.requires.parents s h in
    let steps = rw c.replace-changes.ensures.value at c.in_ok-files.ensures.steps in
    let e = c.in_err-name.field-0.0 in
    let blank = c.in_ok-files.ensures.told s p.0 h p.4 in
    let adds = subst (λ n. AddGives (g.N.Namer.name_of n) g.row.A.Denot c.changed_files.new.repo.1 c.add.new.repo.1 c.in_ok-files.files.files c.args.parents.now (commit_parts c.args.commit) (Err e)) c.changed_files.ensures.only.namer c.in_err-name.ensures.steps in
    rw (f.1, f.2) (add_told name c.args.repo.now.1 c.changed_files.new.repo.1 c.add.new.repo.1 c.args.tables.now c.changed_files.new.tables c.in_ok-files.files.files s h (commit_parts c.args.commit) c.args.first c.args.parents.now p (steps s p.0 h p.4) e adds c.changed_files.new.told blank)

pub returns-clause-told : goal.returns-clause-told
returns-clause-told g c = λ s h.
    let name = g.N.Namer.name_of c.args.repo.now.0 in
    let p = c.requires.parents s h in
    late_told name s (shown_commit c.args.commit) c.changed_files.new.told (c.in_ok-files.ensures.told s p.0 h p.4) c.set_mark_and_branch.result c.set_mark_and_branch.ensures.fault

-- ---- what is asked for

pub returns-in_err-files-clause-asked : goal.returns-in_err-files-clause-asked
returns-in_err-files-clause-asked g c = λ s h.
    let name = g.N.Namer.name_of c.args.repo.now.0 in
    let f = err_from_is_err_and c.from_residual.result c.from_residual.ensures.1 in
    let p = c.requires.parents s h in
    let e = c.in_err-files.field-0.0 in
    let told = c.changed_files.new.told in
    let asked = subst (λ cs. AskedByEditsFrom g.N.Namer.name_of {X = NamedTree} c.args.repo.now c.args.tables.now c.args.first cs (Err e) told) c.replace-changes.ensures.value c.in_err-files.ensures.asked in
    rw (f.1, f.2) (change_vain name s (commit_parts c.args.commit) p.0 p.1 p.2 p.3 e told.asked (asked s p.0 h p.4))

pub returns-in_err-name-clause-asked : goal.returns-in_err-name-clause-asked
returns-in_err-name-clause-asked g c = λ s h.
    let name = g.N.Namer.name_of c.args.repo.now.0 in
    let f = err_from_is_err_and c.from_residual-in_err-name.result c.from_residual-in_err-name.ensures.1 in
    let p = c.requires.parents s h in
    let steps = rw c.replace-changes.ensures.value at c.in_ok-files.ensures.steps in
    let e = c.in_err-name.field-0.0 in
    let blank = c.in_ok-files.ensures.asked s p.0 h p.4 in
    let adds = subst (λ n. AddGives (g.N.Namer.name_of n) g.row.A.Denot c.changed_files.new.repo.1 c.add.new.repo.1 c.in_ok-files.files.files c.args.parents.now (commit_parts c.args.commit) (Err e)) c.changed_files.ensures.only.namer c.in_err-name.ensures.steps in
    rw (f.1, f.2) (add_vain name c.args.repo.now.1 c.changed_files.new.repo.1 c.add.new.repo.1 c.args.tables.now c.changed_files.new.tables c.in_ok-files.files.files s h (commit_parts c.args.commit) c.args.first c.args.parents.now p (steps s p.0 h p.4) (AsksByCommit name s (commit_parts c.args.commit) e) e adds c.changed_files.new.told.asked blank)

pub returns-clause-asked : goal.returns-clause-asked
returns-clause-asked g c = λ s h.
    let name = g.N.Namer.name_of c.args.repo.now.0 in
    let p = c.requires.parents s h in
    late_vain (AsksByCommit name s (commit_parts c.args.commit)) c.changed_files.new.told.asked (c.in_ok-files.ensures.asked s p.0 h p.4) c.set_mark_and_branch.result c.set_mark_and_branch.ensures.fault
