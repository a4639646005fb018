use Rattle.std.proofs.Common.{◌+◌, arith, sym}
use Rattle.std.proofs.lemmas.Result.{err_from_is_err_and}
use Rattle.gx_listed.specs.Listings.{Listed}
use Rattle.gx_kept.proofs.LaidMarks.{some_at}
use Rattle.gx_kept.proofs.SentObjects.{known_told, stands_told, stops_told, there_told}
use Rattle.gx_kept.proofs.SentRecords.{all_sent, none_sent, one_sent, one_stops, past_sent}
use Rattle.gx_kept.proofs.Spreading.{all_listed, stands_listed}
use Rattle.gx_kept.proofs.sending.send_records.Goals as goal
use Rattle.gx_kept.proofs.sending.send_records.Goals.{then-marks-number+in-Some+in_ok-send_object, else-marks-number}

pub loop-number-init : goal.loop-number-init
loop-number-init g c = none_sent (g.O.Objects.name_of c.args.objects.now) (g.O.Objects.told c.args.objects.now) c.args.listing.now c.args.marks.now (g.W.Sink.taken c.args.sink.now)

pub send_object-requires-clause-there : goal.send_object-requires-clause-there
send_object-requires-clause-there g c =
    stands_listed (g.O.Objects.name_of c.args.objects.now) (g.O.Objects.stands c.args.objects.now) (g.O.Objects.told c.args.objects.now) c.args.listing.now c.sound_if_told.ensures.sound c.requires.listed
    c.loop-number.number (c.in-Some.name, c.in-Some.standing) c.in-Some.ensures

pub send_object-requires-clause-known : goal.send_object-requires-clause-known
send_object-requires-clause-known g c =
    known_told (g.O.Objects.name_of c.args.objects.now) (g.O.Objects.stands c.args.objects.now) (g.O.Objects.told c.args.objects.now) c.args.listing.now c.sound_if_told.ensures.sound c.requires.listed
    c.loop-number.number (c.in-Some.name, c.in-Some.standing) c.in-Some.ensures

pub returns-in_err-send_object-clause-records : goal.returns-in_err-send_object-clause-records
returns-in_err-send_object-clause-records g c =
    let p = err_from_is_err_and c.from_residual.result c.from_residual.ensures.1 in
    let name = g.O.Objects.name_of c.args.objects.now in
    let stands = g.O.Objects.stands c.args.objects.now in
    let told = g.O.Objects.told c.args.objects.now in
    let listed = c.args.listing.now in
    let mid = g.W.Sink.taken c.loop-number.sink in
    let now = g.W.Sink.taken c.send_object.new.sink in
    let one : Listed = (c.in-Some.name, c.in-Some.standing) in
    rw (p.1, p.2) (one_stops name told listed c.args.marks.now (g.W.Sink.taken c.args.sink.now) c.loop-number.number mid c.loop-number.invariant one (sym c.in-Some.ensures) now c.in_err-send_object.field-0.0 c.if-marks-number.true
    (stops_told name stands told listed c.sound_if_told.ensures.sound c.requires.listed c.loop-number.number one c.in-Some.ensures mid now c.in_err-send_object.field-0.0 c.in_err-send_object.ensures.record))

pub loop-number-preserved : goal.loop-number-preserved
loop-number-preserved g c =
    let name = g.O.Objects.name_of c.args.objects.now in
    let stands = g.O.Objects.stands c.args.objects.now in
    let told = g.O.Objects.told c.args.objects.now in
    let listed = c.args.listing.now in
    let marks = c.args.marks.now in
    let was = g.W.Sink.taken c.args.sink.now in
    let sound = c.sound_if_told.ensures.sound in
    let l = c.loop-number in
    let mid = g.W.Sink.taken l.sink in
    let there = some_at listed l.number (omega (arith, c.loop-number-test.true, c.len-number-end.ensures)) in
    elim c.if-marks-number.branch [
      | then-marks-number+in-Some+in_ok-send_object w ↦
          let one : Listed = (w.in-Some.name, w.in-Some.standing) in
          let sent = w.in_ok-send_object.ensures.record in
          rw w.sink-is (one_sent name told listed marks was l.number mid l.invariant one (sym w.in-Some.ensures)
          sent.0 (g.W.Sink.taken w.send_object.new.sink) w.if-marks-number.true sent.1 sent.2 sent.3
          (there_told name stands told listed sound c.requires.listed l.number one w.in-Some.ensures sent.0 sent.4))
      | else-marks-number w ↦
          rw w.sink-is (past_sent name told listed marks was l.number mid l.invariant there.0 there.1 w.if-marks-number.false
          (stands_told name stands told listed sound c.requires.listed l.number there.0 (sym there.1)))
    ]

pub returns-clause-records : goal.returns-clause-records
returns-clause-records g c =
    let told = g.O.Objects.told c.args.objects.now in
    let listed = c.args.listing.now in
    all_sent (g.O.Objects.name_of c.args.objects.now) told listed c.args.marks.now (g.W.Sink.taken c.args.sink.now) c.loop-number.number (g.W.Sink.taken c.loop-number.sink) c.loop-number.invariant
    (omega (arith, c.loop-number-test.false, c.len-number-end.ensures)) (all_listed (g.O.Objects.stands c.args.objects.now) told listed c.requires.listed)
