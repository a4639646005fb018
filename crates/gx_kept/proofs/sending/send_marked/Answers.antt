use Rattle.std.proofs.lemmas.Result.{err_from_is_err_and}
use Rattle.sha2.specs.Sha256.{sha256}
use Rattle.gx_growing.specs.GrowingText.{growing_text}
use Rattle.gx_kept.specs.Faults.{Stops, of_look}
use Rattle.gx_kept.specs.Sending.{left_of}
use Rattle.gx_kept.specs.declared.fault.KeptFault.TheVariants.{OutOfMemory}
use Rattle.gx_kept.proofs.MarkedTexts.{all_went, count_stops, head_stops, named_went, records_stop, short_told, table_stops}
use Rattle.gx_kept.proofs.Stopping.{look_stops, look_told, none_went, of_told}
use Rattle.gx_kept.proofs.sending.send_marked.Goals as goal

pub returns-in_err-ref_lines-clause-text : goal.returns-in_err-ref_lines-clause-text
returns-in_err-ref_lines-clause-text g c =
    let p = err_from_is_err_and c.from_residual.result c.from_residual.ensures.1 in
    let was = g.W.Sink.taken c.args.sink.now in
    let fault = c.in_err-ref_lines.field-0.0 in
    rw (p.1, p.2) (of_told (g.O.Objects.told c.args.objects.now) (λ r. Stops (growing_text sha256 (left_of c.args.marks.now r)) was was (of_look fault))
    (λ r. look_stops was fault (growing_text sha256 (left_of c.args.marks.now r))))

pub returns-in_err-ref_lines-clause-fault : goal.returns-in_err-ref_lines-clause-fault
returns-in_err-ref_lines-clause-fault g c =
    let p = err_from_is_err_and c.from_residual.result c.from_residual.ensures.1 in
    rw (p.1, p.2) (look_told (Unit {0}) (g.O.Objects.told c.args.objects.now) c.in_err-ref_lines.field-0.0 c.in_err-ref_lines.ensures.fault)

pub returns-in_err-layout-clause-text : goal.returns-in_err-layout-clause-text
returns-in_err-layout-clause-text g c =
    let p = err_from_is_err_and c.from_residual-in_err-layout.result c.from_residual-in_err-layout.ensures.1 in
    let was = g.W.Sink.taken c.args.sink.now in
    rw (p.1, p.2) (of_told (g.O.Objects.told c.args.objects.now) (λ r. Stops (growing_text sha256 (left_of c.args.marks.now r)) was was OutOfMemory)
    (λ r. none_went was (growing_text sha256 (left_of c.args.marks.now r))))

pub returns-in_err-send_head-clause-text : goal.returns-in_err-send_head-clause-text
returns-in_err-send_head-clause-text g c =
    let p = err_from_is_err_and c.from_residual-in_err-send_head.result c.from_residual-in_err-send_head.ensures.1 in
    rw (p.1, p.2) (head_stops (g.O.Objects.name_of c.args.objects.now) c.sound_if_told.ensures.namer (g.O.Objects.stands c.args.objects.now) (g.O.Objects.told c.args.objects.now) c.args.listing.now c.args.marks.now
    c.in_ok-ref_lines.field-0.now c.in_ok-layout.layout c.in_ok-layout.ensures c.sound_if_told.ensures.sound c.requires.listed c.in_ok-ref_lines.ensures.lines (g.W.Sink.taken c.args.sink.now)
    (g.W.Sink.taken c.send_head.new.sink) c.in_err-send_head.ensures)

pub returns-in_err-send_count-clause-text : goal.returns-in_err-send_count-clause-text
returns-in_err-send_count-clause-text g c =
    let p = err_from_is_err_and c.from_residual-in_err-send_count.result c.from_residual-in_err-send_count.ensures.1 in
    rw (p.1, p.2) (count_stops (g.O.Objects.name_of c.args.objects.now) c.sound_if_told.ensures.namer (g.O.Objects.stands c.args.objects.now) (g.O.Objects.told c.args.objects.now) c.args.listing.now c.args.marks.now
    c.in_ok-ref_lines.field-0.now c.in_ok-layout.layout c.in_ok-layout.ensures c.sound_if_told.ensures.sound c.requires.listed c.in_ok-ref_lines.ensures.lines (g.W.Sink.taken c.args.sink.now)
    c.count_marks-count.result c.requires.long c.count_marks-count.ensures (g.W.Sink.taken c.send_head.new.sink) (g.W.Sink.taken c.send_count.new.sink) c.in_ok-send_head.ensures c.in_err-send_count.ensures)

pub returns-in_err-send_records-clause-text : goal.returns-in_err-send_records-clause-text
returns-in_err-send_records-clause-text g c =
    let p = err_from_is_err_and c.from_residual-in_err-send_records.result c.from_residual-in_err-send_records.ensures.1 in
    rw (p.1, p.2) (records_stop (g.O.Objects.name_of c.args.objects.now) c.sound_if_told.ensures.namer (g.O.Objects.stands c.args.objects.now) (g.O.Objects.told c.args.objects.now) c.args.listing.now c.args.marks.now
    c.in_ok-ref_lines.field-0.now c.in_ok-layout.layout c.in_ok-layout.ensures c.sound_if_told.ensures.sound c.requires.listed c.in_ok-ref_lines.ensures.lines (g.W.Sink.taken c.args.sink.now)
    c.count_marks-count.result c.requires.long c.count_marks-count.ensures (g.W.Sink.taken c.send_head.new.sink) (g.W.Sink.taken c.send_count.new.sink) c.in_ok-send_head.ensures c.in_ok-send_count.ensures (g.W.Sink.taken c.send_records.new.sink) c.in_err-send_records.field-0.0 c.in_err-send_records.ensures.records)

pub returns-in_err-send_table-clause-text : goal.returns-in_err-send_table-clause-text
returns-in_err-send_table-clause-text g c =
    let p = err_from_is_err_and c.from_residual-in_err-send_table.result c.from_residual-in_err-send_table.ensures.1 in
    rw (p.1, p.2) (table_stops (g.O.Objects.name_of c.args.objects.now) c.sound_if_told.ensures.namer (g.O.Objects.stands c.args.objects.now) (g.O.Objects.told c.args.objects.now) c.args.listing.now c.args.marks.now
    c.in_ok-ref_lines.field-0.now c.in_ok-layout.layout c.in_ok-layout.ensures c.sound_if_told.ensures.sound c.requires.listed c.in_ok-ref_lines.ensures.lines (g.W.Sink.taken c.args.sink.now)
    c.count_marks-count.result c.requires.long c.count_marks-count.ensures (g.W.Sink.taken c.send_head.new.sink) (g.W.Sink.taken c.send_count.new.sink) c.in_ok-send_head.ensures c.in_ok-send_count.ensures (g.W.Sink.taken c.send_records.new.sink) c.in_ok-send_records.ensures.records c.as_slice.result.now c.as_slice.ensures.value
    (g.W.Sink.taken c.send_table.new.sink) c.in_err-send_table.ensures)

pub returns-clause-text : goal.returns-clause-text
returns-clause-text g c = all_went (g.O.Objects.name_of c.args.objects.now) c.sound_if_told.ensures.namer (g.O.Objects.stands c.args.objects.now) (g.O.Objects.told c.args.objects.now) c.args.listing.now c.args.marks.now
    c.in_ok-ref_lines.field-0.now c.in_ok-layout.layout c.in_ok-layout.ensures c.sound_if_told.ensures.sound c.requires.listed c.in_ok-ref_lines.ensures.lines (g.W.Sink.taken c.args.sink.now)
    c.count_marks-count.result c.requires.long c.count_marks-count.ensures (g.W.Sink.taken c.send_head.new.sink) (g.W.Sink.taken c.send_count.new.sink) c.in_ok-send_head.ensures c.in_ok-send_count.ensures (g.W.Sink.taken c.send_records.new.sink) c.in_ok-send_records.ensures.records c.as_slice.result.now c.as_slice.ensures.value
    (g.W.Sink.taken c.send_table.new.sink) c.in_ok-send_table.ensures

pub returns-clause-short : goal.returns-clause-short
returns-clause-short g c = short_told (g.O.Objects.name_of c.args.objects.now) c.sound_if_told.ensures.namer (g.O.Objects.stands c.args.objects.now) (g.O.Objects.told c.args.objects.now) c.args.listing.now c.args.marks.now
    c.in_ok-ref_lines.field-0.now c.in_ok-layout.layout c.in_ok-layout.ensures c.sound_if_told.ensures.sound c.requires.listed c.in_ok-ref_lines.ensures.lines (g.W.Sink.taken c.args.sink.now)

pub returns-clause-named : goal.returns-clause-named
returns-clause-named g c = named_went (g.O.Objects.name_of c.args.objects.now) c.sound_if_told.ensures.namer (g.O.Objects.stands c.args.objects.now) (g.O.Objects.told c.args.objects.now) c.args.listing.now c.args.marks.now
    c.in_ok-ref_lines.field-0.now c.in_ok-layout.layout c.in_ok-layout.ensures c.sound_if_told.ensures.sound c.requires.listed c.in_ok-ref_lines.ensures.lines (g.W.Sink.taken c.args.sink.now)
    c.count_marks-count.result c.requires.long c.count_marks-count.ensures (g.W.Sink.taken c.send_head.new.sink) (g.W.Sink.taken c.send_count.new.sink) c.in_ok-send_head.ensures c.in_ok-send_count.ensures (g.W.Sink.taken c.send_records.new.sink) c.in_ok-send_records.ensures.records c.as_slice.result.now c.as_slice.ensures.value
    (g.W.Sink.taken c.send_table.new.sink) c.in_ok-ref_lines.ensures.spelled c.in_ok-send_table.ensures
