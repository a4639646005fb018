use Rattle.std.proofs.Common.{◌≤◌, length, arith}
use Rattle.std.proofs.lemmas.Result.{err_from_is_err_and}
use Rattle.gx_sending.proofs.SentBlobs.{all_first, blob_there, first_written, is_link, next_blob, next_link, none_first, not_link, stops_at_blob}
use Rattle.gx_sending.proofs.blobs.write_blobs.Goals as goal
use Rattle.gx_sending.proofs.blobs.write_blobs.Goals.{then-ne+in_ok-write_blob_once, else-ne}

pub loop-file-init : goal.loop-file-init
loop-file-init g c = none_first c.args.files.now c.args.written.now (g.O.Objects.told c.args.objects.now)

pub write_blob_once-requires-clause-held : goal.write_blob_once-requires-clause-held
write_blob_once-requires-clause-held g c =
    let o = c.args.objects.now in
    let link = not_link c.file-item.result.mode c.if-ne.ensures in
    blob_there c.args.files.now c.args.written.now c.loop-file.file-index c.file-item.result c.loop-file-test.true c.file-item.is c.loop-file.written (g.O.Objects.name_of o) c.sound_if_told.ensures.namer link (g.O.Objects.told o) c.sound_if_told.ensures.sound c.requires.held

pub write_blob_once-requires-clause-written : goal.write_blob_once-requires-clause-written
write_blob_once-requires-clause-written g c = first_written c.args.files.now c.args.written.now (g.O.Objects.told c.args.objects.now) c.loop-file.file-index c.loop-file.written c.requires.written c.loop-file.invariant

pub returns-in_err-write_blob_once-clause-adds : goal.returns-in_err-write_blob_once-clause-adds
returns-in_err-write_blob_once-clause-adds g c =
    let o = c.args.objects.now in
    let link = not_link c.file-item.result.mode c.if-ne.ensures in
    let p = err_from_is_err_and c.from_residual.result c.from_residual.ensures.1 in
    rw (p.1, p.2) (stops_at_blob c.args.files.now c.args.written.now c.loop-file.file-index c.file-item.result c.loop-file-test.true c.file-item.is c.loop-file.written (g.O.Objects.name_of o) c.sound_if_told.ensures.namer link
    (g.O.Objects.told o) c.write_blob_once.new.written c.in_err-write_blob_once.field-0.0 c.loop-file.invariant c.in_err-write_blob_once.ensures.adds)

pub loop-file-preserved : goal.loop-file-preserved
loop-file-preserved g c =
    let o = c.args.objects.now in
    elim c.if-ne.branch [
      | then-ne+in_ok-write_blob_once w ↦ rw w.written-is (next_blob c.args.files.now c.args.written.now c.loop-file.file-index c.file-item.result c.loop-file-test.true c.file-item.is c.loop-file.written (g.O.Objects.name_of o) c.sound_if_told.ensures.namer
          (not_link c.file-item.result.mode w.if-ne.ensures) (g.O.Objects.told o) w.write_blob_once.new.written c.loop-file.invariant w.in_ok-write_blob_once.ensures.adds)
      | else-ne w ↦ rw w.written-is (next_link c.args.files.now c.args.written.now c.loop-file.file-index c.file-item.result c.loop-file-test.true c.file-item.is c.loop-file.written (g.O.Objects.told o) (is_link c.file-item.result.mode w.if-ne.ensures) c.loop-file.invariant)
    ]

pub returns-clause-adds : goal.returns-clause-adds
returns-clause-adds g c =
    let all : length c.args.files.now ≤ c.loop-file.file-index = omega (arith, c.loop-file-test.false) in
    all_first c.args.files.now c.args.written.now (g.O.Objects.told c.args.objects.now) c.loop-file.file-index all c.loop-file.written c.loop-file.invariant
