use Rattle.std.proofs.Common.{sym, ◌≡◌, ◌≢◌, ◌∙◌, ap, [], ◌∷◌, true, false, arith, rules}
use denote.Enum.Bare.{same_true, sameb}
use Rattle.std.proofs.lemmas.Result.{err_from_is_err_and}
use Rattle.gx_model.specs.contracts.objects.Mode.{the_type}
use Rattle.gx_model.specs.declared.objects.Kind.TheVariants as kind
use Rattle.gx_model.specs.declared.objects.Mode.TheVariants.{Gitlink}
use Rattle.gx_model.specs.Export.{blob_commands, items_text, with_blobs}
use Rattle.gx_model.specs.Records.HistoryOf.{bytes_of_blob, named_values}
use Rattle.gx_rev.specs.Objects.{value_at}
use Rattle.gx_model.proofs.Records.HeldValues.{holds_held, kind_held}
use Rattle.gx_export.specs.declared.fault.ExportFault.TheVariants.{OutOfMemory}
use Rattle.gx_export.specs.FileTexts.{bytes_in}
use Rattle.gx_export.specs.Texts.{items_of}
use Rattle.gx_export.proofs.CommitLines.{file_held}
use Rattle.gx_export.proofs.Gathering.{file_stops, gathers_file, gathers_gitlink}
use Rattle.gx_export.proofs.Numbering.{blob_place, mark_of_blob, place_marked}
use Rattle.gx_export.proofs.Writing.{stops_first, stops_last}
use Rattle.gx_export.proofs.trees.add_file.Goals as goal

pub place_of-place-requires : goal.place_of-place-requires
place_of-place-requires g c =
    let name = g.N.Namer.name_of c.args.repo.now.0 in
    let namer = g.met.N.Namer.is_namer c.args.repo.now.0 in
    let r = c.args.repo.now.1 in
    let n = c.args.name.now.bytes in
    let other : c.args.mode ≢ Gitlink = λ e. (let f : false ≡ true = c.if-eq.ensures ∙ ap (λ m. sameb the_type m Gitlink) e in cc f) in
    (kind_held name namer r c.sound.ensures kind.Blob n (holds_held name namer r c.sound.ensures kind.Blob n (file_held r.records c.args.mode n other c.requires.file c.requires.held))).0

pub write_blob_once-requires-clause-blob : goal.write_blob_once-requires-clause-blob
write_blob_once-requires-clause-blob g c =
    let name = g.N.Namer.name_of c.args.repo.now.0 in
    let namer = g.met.N.Namer.is_namer c.args.repo.now.0 in
    let r = c.args.repo.now.1 in
    let n = c.args.name.now.bytes in
    let other : c.args.mode ≢ Gitlink = λ e. (let f : false ≡ true = c.if-eq.ensures ∙ ap (λ m. sameb the_type m Gitlink) e in cc f) in
    let held = holds_held name namer r c.sound.ensures kind.Blob n (file_held r.records c.args.mode n other c.requires.file c.requires.held) in
    (bytes_of_blob (value_at r c.args.name.now), blob_place name namer r c.sound.ensures n held c.place_of-place.result c.place_of-place.ensures)

pub returns-in_err-add_gitlink : goal.returns-in_err-add_gitlink
returns-in_err-add_gitlink g c = λ ws h kept.
    let here = (c.args.path.now, (c.args.mode, c.args.name.now.bytes)) ∷ [] in
    let p = err_from_is_err_and c.from_residual.result c.from_residual.ensures.1 in
    rw (p.1, p.2) (stops_first c.args.written.now.output (items_text (items_of (blob_commands ws (bytes_in (named_values c.args.repo.now.1.records) here)))))

pub returns-then-eq : goal.returns-then-eq
returns-then-eq g c = λ ws h kept.
    let name = g.N.Namer.name_of c.args.repo.now.0 in
    let r = c.args.repo.now.1 in
    let is : c.args.mode ≡ Gitlink = same_true the_type (search rules) _ _ (sym c.if-eq.ensures) in
    gathers_gitlink name r ws c.args.path.now c.args.mode c.args.name.now.bytes c.args.written.now c.args.written.now c.args.lines.now c.add_gitlink.new.self is h c.in_ok-add_gitlink.ensures.text (c.in_ok-add_gitlink.ensures.kept name r ws kept)

pub returns-in_err-write_blob_once : goal.returns-in_err-write_blob_once
returns-in_err-write_blob_once g c = λ ws h kept.
    let name = g.N.Namer.name_of c.args.repo.now.0 in
    let namer = g.met.N.Namer.is_namer c.args.repo.now.0 in
    let r = c.args.repo.now.1 in
    let n = c.args.name.now.bytes in
    let other : c.args.mode ≢ Gitlink = λ e. (let f : false ≡ true = c.if-eq.ensures ∙ ap (λ m. sameb the_type m Gitlink) e in cc f) in
    let held = holds_held name namer r c.sound.ensures kind.Blob n (file_held r.records c.args.mode n other c.requires.file c.requires.held) in
    let at = blob_place name namer r c.sound.ensures n held c.place_of-place.result c.place_of-place.ensures in
    let x = bytes_of_blob (value_at r c.args.name.now) in
    let p = err_from_is_err_and c.from_residual-in_err-write_blob_once.result c.from_residual-in_err-write_blob_once.ensures.1 in
    rw (p.1, p.2) (file_stops (g.N.Namer.name_of c.args.repo.now.0) c.args.repo.now.1 ws c.args.path.now c.args.mode c.args.name.now.bytes c.args.written.now c.write_blob_once.new.written c.args.lines.now c.args.lines.now other c.requires.file
    c.in_err-write_blob_once.field-0.0 (c.in_err-write_blob_once.ensures.adds x ws at h))

pub index-requires : goal.index-requires
index-requires g c =
    let name = g.N.Namer.name_of c.args.repo.now.0 in
    let namer = g.met.N.Namer.is_namer c.args.repo.now.0 in
    let r = c.args.repo.now.1 in
    let n = c.args.name.now.bytes in
    let other : c.args.mode ≢ Gitlink = λ e. (let f : false ≡ true = c.if-eq.ensures ∙ ap (λ m. sameb the_type m Gitlink) e in cc f) in
    let held = holds_held name namer r c.sound.ensures kind.Blob n (file_held r.records c.args.mode n other c.requires.file c.requires.held) in
    let at = blob_place name namer r c.sound.ensures n held c.place_of-place.result c.place_of-place.ensures in
    let x = bytes_of_blob (value_at r c.args.name.now) in
    let ws = c.requires.written.0 in
    let h = (c.in_ok-write_blob_once.ensures.adds x ws at c.requires.written.1).0 in
    let k = place_marked name namer r c.sound.ensures (with_blobs ws (x ∷ [])) c.write_blob_once.new.written.marks.items (value_at r c.args.name.now) c.place_of-place.result h.marks c.place_of-place.ensures in
    let long = c.write_blob_once.new.written.marks.ok in
    omega (arith, k, long)

pub returns-in_err-add_file : goal.returns-in_err-add_file
returns-in_err-add_file g c = λ ws h kept.
    let name = g.N.Namer.name_of c.args.repo.now.0 in
    let namer = g.met.N.Namer.is_namer c.args.repo.now.0 in
    let r = c.args.repo.now.1 in
    let n = c.args.name.now.bytes in
    let other : c.args.mode ≢ Gitlink = λ e. (let f : false ≡ true = c.if-eq.ensures ∙ ap (λ m. sameb the_type m Gitlink) e in cc f) in
    let p = err_from_is_err_and c.from_residual-in_err-add_file.result c.from_residual-in_err-add_file.ensures.1 in
    let held = holds_held name namer r c.sound.ensures kind.Blob n (file_held r.records c.args.mode n other c.requires.file c.requires.held) in
    let at = blob_place name namer r c.sound.ensures n held c.place_of-place.result c.place_of-place.ensures in
    let x = bytes_of_blob (value_at r c.args.name.now) in
    let out = c.in_ok-write_blob_once.ensures.adds x ws at h in
    let stop = stops_last c.args.written.now.output c.write_blob_once.new.written.output (items_text (items_of (blob_commands ws (x ∷ [])))) out.1 in
    rw (p.1, p.2) (file_stops (g.N.Namer.name_of c.args.repo.now.0) c.args.repo.now.1 ws c.args.path.now c.args.mode c.args.name.now.bytes c.args.written.now c.write_blob_once.new.written c.args.lines.now c.args.lines.now other c.requires.file OutOfMemory stop)

pub returns : goal.returns
returns g c = λ ws h kept.
    let name = g.N.Namer.name_of c.args.repo.now.0 in
    let namer = g.met.N.Namer.is_namer c.args.repo.now.0 in
    let r = c.args.repo.now.1 in
    let n = c.args.name.now.bytes in
    let v = value_at r c.args.name.now in
    let other : c.args.mode ≢ Gitlink = λ e. (let f : false ≡ true = c.if-eq.ensures ∙ ap (λ m. sameb the_type m Gitlink) e in cc f) in
    let held = holds_held name namer r c.sound.ensures kind.Blob n (file_held r.records c.args.mode n other c.requires.file c.requires.held) in
    let at = blob_place name namer r c.sound.ensures n held c.place_of-place.result c.place_of-place.ensures in
    let us = with_blobs ws (bytes_of_blob v ∷ []) in
    let out = c.in_ok-write_blob_once.ensures.adds (bytes_of_blob v) ws at h in
    let mark = c.index.ensures ∙ mark_of_blob name namer r c.sound.ensures n held us c.write_blob_once.new.written.marks.items c.place_of-place.result c.index.result.now out.0.marks c.place_of-place.ensures in
    gathers_file name r ws c.args.path.now c.args.mode n c.args.written.now c.write_blob_once.new.written c.args.lines.now c.add_file.new.self other c.requires.file c.index.result.now out mark c.in_ok-add_file.ensures.text (c.in_ok-add_file.ensures.kept name r ws kept)
