use Rattle.std.proofs.Common.{◌+◌, arith, sym, ◌∙◌}
use Rattle.std.proofs.lemmas.Result.{err_from_is_err_and}
use Rattle.gx_listed.specs.Listings.{Listed}
use Rattle.gx_kept.proofs.LaidMarks.{some_at}
use Rattle.gx_kept.proofs.SentObjects.{stands_told}
use Rattle.gx_kept.proofs.Spreading.{all_listed, stands_listed}
use Rattle.gx_kept.proofs.WrittenObjects.{all_written, entry_stops, none_written, object_there, one_stops, one_written, past_written}
use Rattle.gx_kept.proofs.bundling.write_objects.Goals as goal
use Rattle.gx_kept.proofs.bundling.write_objects.Goals.{then-marks-number+in-Some+in_ok-write_object, else-marks-number}

pub loop-number-init : goal.loop-number-init
loop-number-init g c = none_written (g.O.Objects.name_of c.args.objects.now) (g.O.Objects.told c.args.objects.now) c.args.listing.now c.args.marks.now c.args.pack.now

pub write_object-requires : goal.write_object-requires
write_object-requires g c = record {
  there = stands_listed (g.O.Objects.name_of c.args.objects.now) (g.O.Objects.stands c.args.objects.now) (g.O.Objects.told c.args.objects.now) c.args.listing.now c.sound_if_told.ensures.sound c.requires.listed
      c.loop-number.number (c.in-Some.name, c.in-Some.standing) c.in-Some.ensures;
}

pub returns-in_err-write_object-clause-objects : goal.returns-in_err-write_object-clause-objects
returns-in_err-write_object-clause-objects g c =
    let p = err_from_is_err_and c.from_residual.result c.from_residual.ensures.1 in
    let name = g.O.Objects.name_of c.args.objects.now in
    let told = g.O.Objects.told c.args.objects.now in
    let listed = c.args.listing.now in
    let l = c.loop-number in
    let now = c.write_object.new.pack in
    let one : Listed = (c.in-Some.name, c.in-Some.standing) in
    let fault = c.in_err-write_object.field-0.0 in
    let failed = c.in_err-write_object.ensures.object in
    rw (p.1, p.2) (
      failed.0 ∙ l.invariant.wrote.0,
      one_stops name told listed c.args.marks.now c.args.pack.now l.number l.pack l.invariant one (sym c.in-Some.ensures) now fault c.if-marks-number.true
          (entry_stops name (g.O.Objects.stands c.args.objects.now) told listed c.sound_if_told.ensures.sound c.requires.listed l.number one c.in-Some.ensures l.pack.taken now.taken fault failed.1),
    )

pub loop-number-preserved : goal.loop-number-preserved
loop-number-preserved g c =
    let name = g.O.Objects.name_of c.args.objects.now in
    let stands = g.O.Objects.stands c.args.objects.now in
    let told = g.O.Objects.told c.args.objects.now in
    let listed = c.args.listing.now in
    let marks = c.args.marks.now in
    let was = c.args.pack.now in
    let sound = c.sound_if_told.ensures.sound in
    let l = c.loop-number in
    let there = some_at listed l.number (omega (arith, c.loop-number-test.true, c.len-number-end.ensures)) in
    elim c.if-marks-number.branch [
      | then-marks-number+in-Some+in_ok-write_object w ↦
          let one : Listed = (w.in-Some.name, w.in-Some.standing) in
          let sent = w.in_ok-write_object.ensures.object in
          rw w.pack-is (one_written name told listed marks was l.number l.pack l.invariant one (sym w.in-Some.ensures) sent.0 w.write_object.new.pack w.if-marks-number.true sent.1 sent.2
          (object_there name stands told listed sound c.requires.listed l.number one w.in-Some.ensures sent.0 sent.3))
      | else-marks-number w ↦
          rw w.pack-is (past_written name told listed marks was l.number l.pack l.invariant there.0 there.1 w.if-marks-number.false
          (stands_told name stands told listed sound c.requires.listed l.number there.0 (sym there.1)))
    ]

pub returns-clause-objects : goal.returns-clause-objects
returns-clause-objects g c =
    let told = g.O.Objects.told c.args.objects.now in
    let listed = c.args.listing.now in
    all_written (g.O.Objects.name_of c.args.objects.now) told listed c.args.marks.now c.args.pack.now c.loop-number.number c.loop-number.pack c.loop-number.invariant
    (omega (arith, c.loop-number-test.false, c.len-number-end.ensures)) (all_listed (g.O.Objects.stands c.args.objects.now) told listed c.requires.listed)
