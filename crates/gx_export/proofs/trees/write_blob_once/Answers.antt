use Rattle.std.proofs.Common.{◌≡◌, ◌<◌, ◌+◌, ◌∙◌, sym, subst, arith, Some, Ok, Err}
use Rattle.std.proofs.lemmas.Result.{err_from_is_err_and}
use Rattle.gx_model.specs.Streams.Commands.{Blob}
use Rattle.gx_model.specs.Export.{number_in}
use Rattle.gx_model.specs.Histories.Values.{blob_value}
use Rattle.gx_model.specs.Laws.RepositoryLaws.{values_of}
use Rattle.gx_model.proofs.Records.Standing.{at_within}
use Rattle.gx_export.specs.Outputs.{Writes}
use Rattle.gx_export.specs.Texts.{command_text}
use Rattle.gx_export.proofs.Numbering.{adds_new_blob, adds_old_blob, body_here, mark_here, only_place, place_marked, stops_new_blob}
use Rattle.gx_export.proofs.trees.write_blob_once.Goals as goal

pub returns-then-index-gt0-clause-adds : goal.returns-then-index-gt0-clause-adds
returns-then-index-gt0-clause-adds g c = λ x ws e h.
    let name = g.N.Namer.name_of c.args.repo.now.0 in
    let namer = g.met.N.Namer.is_namer c.args.repo.now.0 in
    let r = c.args.repo.now.1 in
    let mark = c.index.ensures ∙ mark_here name namer r c.sound.ensures ws c.args.written.now.marks.items (blob_value x) c.args.place c.index.result.now h.marks e in
    let some : 0 < number_in ws (blob_value x) = omega (arith, mark, c.if-index-gt0.true) in
    adds_old_blob ws x r c.args.written.now h some

pub index-requires : goal.index-requires
index-requires g c =
    let within = place_marked (g.N.Namer.name_of c.args.repo.now.0) (g.met.N.Namer.is_namer c.args.repo.now.0) c.args.repo.now.1 c.sound.ensures c.requires.written.0 c.args.written.now.marks.items (blob_value c.requires.blob.0) c.args.place c.requires.written.1.marks c.requires.blob.1 in
    omega (arith, within, c.args.written.now.marks.ok)

pub body_at-body-requires : goal.body_at-body-requires
body_at-body-requires g c = at_within (values_of c.args.repo.now.1) c.args.place (blob_value c.requires.blob.0) c.requires.blob.1

pub returns-in_err-write_blob-clause-adds : goal.returns-in_err-write_blob-clause-adds
returns-in_err-write_blob-clause-adds g c = λ x ws e h.
    let name = g.N.Namer.name_of c.args.repo.now.0 in
    let namer = g.met.N.Namer.is_namer c.args.repo.now.0 in
    let r = c.args.repo.now.1 in
    let old = c.args.written.now in
    let p = err_from_is_err_and c.from_residual.result c.from_residual.ensures.1 in
    let mark = c.index.ensures ∙ mark_here name namer r c.sound.ensures ws old.marks.items (blob_value x) c.args.place c.index.result.now h.marks e in
    let none : number_in ws (blob_value x) ≡ 0 = omega (arith, mark, c.if-index-gt0.false) in
    let body = body_here name namer r c.sound.ensures c.args.place x c.body_at-body.result.now e c.body_at-body.ensures in
    let fault = c.in_err-write_blob.field-0.0 in
    rw (p.1, p.2) (stops_new_blob ws x r old h c.write_blob.new.output fault none (subst (λ y. Writes c.args.written.now.output c.write_blob.new.output (command_text (Blob (record { mark = Some (old.count + 1); bytes = y }))) (Err fault)) body c.in_err-write_blob.ensures.text))

pub mark-requires-clause-place : goal.mark-requires-clause-place
mark-requires-clause-place g c =
    place_marked (g.N.Namer.name_of c.args.repo.now.0) (g.met.N.Namer.is_namer c.args.repo.now.0) c.args.repo.now.1 c.sound.ensures c.requires.written.0 c.args.written.now.marks.items (blob_value c.requires.blob.0) c.args.place c.requires.written.1.marks c.requires.blob.1

pub mark-requires-clause-room : goal.mark-requires-clause-room
mark-requires-clause-room g c =
    let each = c.requires.written.1.each in
    let room = c.requires.written.1.most in
    omega arith

pub returns-clause-adds : goal.returns-clause-adds
returns-clause-adds g c = λ x ws e h.
    let name = g.N.Namer.name_of c.args.repo.now.0 in
    let namer = g.met.N.Namer.is_namer c.args.repo.now.0 in
    let r = c.args.repo.now.1 in
    let sound = c.sound.ensures in
    let v = blob_value x in
    let old = c.args.written.now in
    let mark = c.index.ensures ∙ mark_here name namer r sound ws old.marks.items v c.args.place c.index.result.now h.marks e in
    let none : number_in ws (blob_value x) ≡ 0 = omega (arith, mark, c.if-index-gt0.false) in
    let body = body_here name namer r sound c.args.place x c.body_at-body.result.now e c.body_at-body.ensures in
    let done = subst (λ y. Writes c.args.written.now.output c.write_blob.new.output (command_text (Blob (record { mark = Some (old.count + 1); bytes = y }))) (Ok tt)) body c.in_ok-write_blob.ensures.text in
    let same = subst (λ s. Writes c.args.written.now.output s (command_text (Blob (record { mark = Some (old.count + 1); bytes = x }))) (Ok tt)) (sym c.mark.ensures.output) done in
    let only = only_place name namer r sound v c.args.place e in
    adds_new_blob ws x r old h c.mark.new.self c.args.place none only (place_marked name namer r sound ws old.marks.items v c.args.place h.marks e) c.mark.ensures.count c.mark.ensures.marks same
