use Rattle.std.proofs.Common.{refl}
use Rattle.sha2.specs.Sha256.{sha256}
use Rattle.gx_append.specs.Appending.{IsReadAs, Shows}
use Rattle.gx_append.proofs.Moments.{Known, so_too}
use Rattle.gx_growing_parts.proofs.Digesters.{digester}
use Rattle.gx_additions.proofs.Growths.{all_was, cut_read, is_asked, same_growth, slot_was, still_read}
use Rattle.gx_additions.proofs.appending.append_addition.Goals as goal

pub returns-in-Ok-clause-reads : goal.returns-in-Ok-clause-reads
returns-in-Ok-clause-reads g c name namer repository new given =
    let grown = same_growth name (g.D.ReadAt.text c.args.device.now) c.args.ending.is_first c.args.ending.ends c.as_slice-segment.result.now c.args.added.now.segment.items c.as_slice-slot.result.now
    c.args.added.now.slot.items repository new c.as_slice-segment.ensures.value c.as_slice-slot.ensures.value given in
    c.in-Ok.ensures.reads name namer sha256 digester repository new grown

pub returns-in-Ok-clause-read : goal.returns-in-Ok-clause-read
returns-in-Ok-clause-read g c name namer repository new given =
    let grown = same_growth name (g.D.ReadAt.text c.args.device.now) c.args.ending.is_first c.args.ending.ends c.as_slice-segment.result.now c.args.added.now.segment.items c.as_slice-slot.result.now
    c.args.added.now.slot.items repository new c.as_slice-segment.ensures.value c.as_slice-slot.ensures.value given in
    c.in-Ok.ensures.read name namer sha256 digester repository new grown

pub returns-in-Err-clause-reads : goal.returns-in-Err-clause-reads
returns-in-Err-clause-reads g c name namer repository new given =
    let grown = same_growth name (g.D.ReadAt.text c.args.device.now) c.args.ending.is_first c.args.ending.ends c.as_slice-segment.result.now c.args.added.now.segment.items c.as_slice-slot.result.now
    c.args.added.now.slot.items repository new c.as_slice-segment.ensures.value c.as_slice-slot.ensures.value given in
    c.in-Err.ensures.reads name namer sha256 digester repository new grown

pub returns-in-Err-clause-unwritten : goal.returns-in-Err-clause-unwritten
returns-in-Err-clause-unwritten g c unwritten name namer repository new given =
    let grown = same_growth name (g.D.ReadAt.text c.args.device.now) c.args.ending.is_first c.args.ending.ends c.as_slice-segment.result.now c.args.added.now.segment.items c.as_slice-slot.result.now
    c.args.added.now.slot.items repository new c.as_slice-segment.ensures.value c.as_slice-slot.ensures.value given in
    let k : Known g.row.D.Denot = record { text = g.D.ReadAt.text; moment = g.D.Device.moment; left_since = g.D.Device.left_since; may_leave = g.D.Device.may_leave; counts_now = g.met.D.Device.counts_now; only_now = g.met.D.Device.only_now } in
    let was = slot_was name namer (g.D.ReadAt.text c.args.device.now) c.args.ending.is_first c.args.ending.ends c.as_slice-segment.result.now c.as_slice-slot.result.now repository new grown in
    let all = all_was name namer (g.D.ReadAt.text c.args.device.now) c.args.ending.is_first c.args.ending.ends c.as_slice-segment.result.now c.as_slice-slot.result.now repository new grown in
    so_too k c.args.device.now c.append.new.device (Shows c.args.ending.is_first was all) (IsReadAs name sha256 repository) (still_read name namer (g.D.ReadAt.text c.args.device.now) c.args.ending.is_first c.args.ending.ends c.as_slice-segment.result.now c.as_slice-slot.result.now repository new grown)
    (c.in-Err.ensures.unwritten unwritten was all (is_asked name namer (g.D.ReadAt.text c.args.device.now) c.args.ending.is_first c.args.ending.ends c.as_slice-segment.result.now c.as_slice-slot.result.now repository new grown))

pub returns-in-Err-clause-cut : goal.returns-in-Err-clause-cut
returns-in-Err-clause-cut g c unwritten name namer repository new given few counted =
    let grown = same_growth name (g.D.ReadAt.text c.args.device.now) c.args.ending.is_first c.args.ending.ends c.as_slice-segment.result.now c.args.added.now.segment.items c.as_slice-slot.result.now
    c.args.added.now.slot.items repository new c.as_slice-segment.ensures.value c.as_slice-slot.ensures.value given in
    cut_read name namer (g.D.ReadAt.text c.args.device.now) c.args.ending.is_first c.args.ending.ends c.as_slice-segment.result.now c.as_slice-slot.result.now repository new grown (g.D.ReadAt.text c.append.new.device)
    (c.in-Err.ensures.cut unwritten (slot_was name namer (g.D.ReadAt.text c.args.device.now) c.args.ending.is_first c.args.ending.ends c.as_slice-segment.result.now c.as_slice-slot.result.now repository new grown) (all_was name namer (g.D.ReadAt.text c.args.device.now) c.args.ending.is_first c.args.ending.ends c.as_slice-segment.result.now c.as_slice-slot.result.now repository new grown) (is_asked name namer (g.D.ReadAt.text c.args.device.now) c.args.ending.is_first c.args.ending.ends c.as_slice-segment.result.now c.as_slice-slot.result.now repository new grown) few counted)

pub returns-in-Err-clause-cause : goal.returns-in-Err-clause-cause
returns-in-Err-clause-cause g c name namer repository new given counted =
    let grown = same_growth name (g.D.ReadAt.text c.args.device.now) c.args.ending.is_first c.args.ending.ends c.as_slice-segment.result.now c.args.added.now.segment.items c.as_slice-slot.result.now
    c.args.added.now.slot.items repository new c.as_slice-segment.ensures.value c.as_slice-slot.ensures.value given in
    c.in-Err.ensures.cause (slot_was name namer (g.D.ReadAt.text c.args.device.now) c.args.ending.is_first c.args.ending.ends c.as_slice-segment.result.now c.as_slice-slot.result.now repository new grown) (all_was name namer (g.D.ReadAt.text c.args.device.now) c.args.ending.is_first c.args.ending.ends c.as_slice-segment.result.now c.as_slice-slot.result.now repository new grown) (is_asked name namer (g.D.ReadAt.text c.args.device.now) c.args.ending.is_first c.args.ending.ends c.as_slice-segment.result.now c.as_slice-slot.result.now repository new grown) refl counted
