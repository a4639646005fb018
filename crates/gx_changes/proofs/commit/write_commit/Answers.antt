use Rattle.std.proofs.Common.{◌≡◌, List, Ok, Err, sym, subst}
use Rattle.std.specs.Prelude.{IfSome}
use Rattle.std.proofs.lemmas.Result.{err_from_is_err_and}
use Rattle.gx_model.specs.Changes.{with_changes}
use Rattle.gx_model.specs.Histories.Values.{Value}
use Rattle.gx_rev.specs.Objects.{commit_at}
use Rattle.gx_export.specs.ChangedParts.{one_on}
use Rattle.gx_export.specs.Texts.{items_of}
use Rattle.gx_differences.specs.Differences.{HaveFiles}
use Rattle.gx_differences.specs.declared.differences.Differences.{Differences}
use Rattle.gx_sending.specs.Files.{blobs_at}
use Rattle.gx_sending.specs.Marks.{AddsBlobs, HasWritten}
use Rattle.gx_changes.proofs.Commits.{blobs_stop_told, files_told, lines_stop_told, marked_told}
use Rattle.gx_changes.proofs.OwnFiles.{parts_told}
use Rattle.gx_changes.proofs.Told.{asked_stops, on_the_way}
use Rattle.gx_changes.proofs.commit.write_commit.Goals as goal

pub returns-in_err-found-clause-adds : goal.returns-in_err-found-clause-adds
returns-in_err-found-clause-adds g c =
    let o = c.args.objects.now in
    let commit = c.args.commit.now in
    let p = err_from_is_err_and c.from_residual-in_err-found.result c.from_residual-in_err-found.ensures.1 in
    rw (p.1, p.2) (asked_stops (Differences g.row.A.Denot) (g.O.Objects.told o) c.in_err-found.field-0.0 (λ r ws. with_changes ws (commit_at r commit)) (λ r ws. items_of (one_on (g.O.Objects.name_of o) c.args.branch.now ws (commit_at r commit))) c.args.written.now c.in_err-found.ensures.fault)

pub write_blobs-requires-clause-held : goal.write_blobs-requires-clause-held
write_blobs-requires-clause-held g c =
    let o = c.args.objects.now in
    let name = g.O.Objects.name_of o in
    let told = g.O.Objects.told o in
    let s = c.sound_if_told.ensures in
    let is = parts_told name c.args.commit.now told (c.in_ok-view.field-0-0, c.in_ok-view.view) c.requires.held c.in_ok-view.ensures.commit in
    subst (λ files. IfSome told (HaveFiles files)) (sym c.deref.ensures.value) (files_told name s.namer c.args.branch.now c.args.commit.now c.in_ok-view.view c.args.written.now c.in_ok-found.found told is c.in_ok-found.ensures.found)

pub returns-in_err-write_blobs-clause-adds : goal.returns-in_err-write_blobs-clause-adds
returns-in_err-write_blobs-clause-adds g c =
    let o = c.args.objects.now in
    let name = g.O.Objects.name_of o in
    let told = g.O.Objects.told o in
    let s = c.sound_if_told.ensures in
    let old = c.args.written.now in
    let new = c.write_blobs.new.written in
    let fault = c.in_err-write_blobs.field-0.0 in
    let is = parts_told name c.args.commit.now told (c.in_ok-view.field-0-0, c.in_ok-view.view) c.requires.held c.in_ok-view.ensures.commit in
    let blobs = subst (λ files. IfSome told (λ r. (ws : List Value) → HasWritten r ws old → AddsBlobs ws (blobs_at r files) old new (Err fault) r)) c.deref.ensures.value c.in_err-write_blobs.ensures.adds in
    let p = err_from_is_err_and c.from_residual-in_err-write_blobs.result c.from_residual-in_err-write_blobs.ensures.1 in
    rw (p.1, p.2) (blobs_stop_told name s.namer c.args.branch.now c.args.commit.now c.in_ok-view.view old c.in_ok-found.found told new fault s.sound is c.in_ok-found.ensures.found blobs)

pub returns-in_err-write_lines-clause-adds : goal.returns-in_err-write_lines-clause-adds
returns-in_err-write_lines-clause-adds g c =
    let o = c.args.objects.now in
    let name = g.O.Objects.name_of o in
    let told = g.O.Objects.told o in
    let s = c.sound_if_told.ensures in
    let old = c.args.written.now in
    let mid = c.write_blobs.new.written in
    let is = parts_told name c.args.commit.now told (c.in_ok-view.field-0-0, c.in_ok-view.view) c.requires.held c.in_ok-view.ensures.commit in
    let blobs = subst (λ files. IfSome told (λ r. (ws : List Value) → HasWritten r ws old → AddsBlobs ws (blobs_at r files) old mid (Ok tt) r)) c.deref.ensures.value c.in_ok-write_blobs.ensures.adds in
    let p = err_from_is_err_and c.from_residual-in_err-write_lines.result c.from_residual-in_err-write_lines.ensures.1 in
    rw (p.1, p.2) (lines_stop_told name s.namer c.args.branch.now c.args.commit.now c.in_ok-view.view old c.in_ok-found.found mid told c.write_lines.new.written c.in_err-write_lines.field-0.0 s.sound is c.in_ok-found.ensures.found blobs c.in_err-write_lines.ensures)

pub returns-in_err-write_lines-clause-fault : goal.returns-in_err-write_lines-clause-fault
returns-in_err-write_lines-clause-fault g c =
    let o = c.args.objects.now in
    let name = g.O.Objects.name_of o in
    let told = g.O.Objects.told o in
    let s = c.sound_if_told.ensures in
    let commit = c.args.commit.now in
    let branch = c.args.branch.now in
    let old = c.args.written.now in
    let mid = c.write_blobs.new.written in
    let new = c.write_lines.new.written in
    let fault = c.in_err-write_lines.field-0.0 in
    let is = parts_told name commit told (c.in_ok-view.field-0-0, c.in_ok-view.view) c.requires.held c.in_ok-view.ensures.commit in
    let blobs = subst (λ files. IfSome told (λ r. (ws : List Value) → HasWritten r ws old → AddsBlobs ws (blobs_at r files) old mid (Ok tt) r)) c.deref.ensures.value c.in_ok-write_blobs.ensures.adds in
    let stop = lines_stop_told name s.namer branch commit c.in_ok-view.view old c.in_ok-found.found mid told new fault s.sound is c.in_ok-found.ensures.found blobs c.in_err-write_lines.ensures in
    let p = err_from_is_err_and c.from_residual-in_err-write_lines.result c.from_residual-in_err-write_lines.ensures.1 in
    rw (p.1, p.2) (on_the_way told fault (λ r ws. with_changes ws (commit_at r commit)) (λ r ws. items_of (one_on name branch ws (commit_at r commit))) old new c.requires.written stop)

pub returns-clause-adds : goal.returns-clause-adds
returns-clause-adds g c =
    let o = c.args.objects.now in
    let name = g.O.Objects.name_of o in
    let told = g.O.Objects.told o in
    let s = c.sound_if_told.ensures in
    let old = c.args.written.now in
    let mid = c.write_blobs.new.written in
    let is = parts_told name c.args.commit.now told (c.in_ok-view.field-0-0, c.in_ok-view.view) c.requires.held c.in_ok-view.ensures.commit in
    let blobs = subst (λ files. IfSome told (λ r. (ws : List Value) → HasWritten r ws old → AddsBlobs ws (blobs_at r files) old mid (Ok tt) r)) c.deref.ensures.value c.in_ok-write_blobs.ensures.adds in
    marked_told name s.namer c.args.branch.now c.args.commit.now c.in_ok-view.view old c.in_ok-found.found mid told c.write_lines.new.written c.mark.new.self c.mark.result s.sound is c.in_ok-found.ensures.found blobs c.in_ok-write_lines.ensures c.mark.ensures.value c.mark.ensures.output c.mark.ensures.fault
