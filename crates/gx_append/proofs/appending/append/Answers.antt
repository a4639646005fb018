use Rattle.std.proofs.Common.{inl, refl, sym, subst, arith}
use Rattle.gx_append.specs.Devices.{OnlyText}
use Rattle.gx_append.specs.Appending.{IsBeforeOrAfter, IsReadAsEither, IsTold, Shows, Staged}
use Rattle.gx_growing.specs.GrowingText.{slot_text}
use Rattle.gx_append.proofs.Moments.{Known, go_on, no_change, so_too, then_left}
use Rattle.gx_append.proofs.Readings.{after_read, either_read, growth_asked, segments_of}
use Rattle.gx_append.proofs.Staging.{after_cut, asked_still, at_first, cut_back}
use Rattle.gx_append.proofs.Steps.{Has, fails_counted, has_begun}
use Rattle.gx_append.proofs.appending.append.Goals as goal

pub returns-in-Err-clause-any_moment : goal.returns-in-Err-clause-any_moment
returns-in-Err-clause-any_moment g c was segments asked =
    let k : Known g.row.D.Denot = record { text = g.D.ReadAt.text; moment = g.D.Device.moment; left_since = g.D.Device.left_since; may_leave = g.D.Device.may_leave; counts_now = g.met.D.Device.counts_now; only_now = g.met.D.Device.only_now } in
    no_change k c.args.device.now c.sync.new.self (IsBeforeOrAfter c.args.is_first was segments c.args.slot.now c.args.segment.now) c.sync.ensures.time c.sync.ensures.left

pub returns-in-Err-stage-clause-any_moment : goal.returns-in-Err-stage-clause-any_moment
returns-in-Err-stage-clause-any_moment g c was segments asked =
    let k : Known g.row.D.Denot = record { text = g.D.ReadAt.text; moment = g.D.Device.moment; left_since = g.D.Device.left_since; may_leave = g.D.Device.may_leave; counts_now = g.met.D.Device.counts_now; only_now = g.met.D.Device.only_now } in
    let asks = asked_still (g.D.ReadAt.text c.args.device.now) (g.D.ReadAt.text c.sync.new.self) c.args.is_first c.args.end c.args.slot.now was segments c.sync.ensures.same asked in
    let durable = subst (λ t. OnlyText t (g.D.Device.may_leave c.sync.new.self)) (sym c.sync.ensures.same) c.in_default.ensures.durable in
    let begun = at_first k c.sync.new.self c.args.is_first c.args.end c.args.slot.now was segments asks durable in
    let staged = c.stage.ensures.any_moment was segments asks in
    let has : Has k c.sync.new.self c.stage.new.device (Shows c.args.is_first was segments) = record { told = c.stage.ensures.kept was segments asks; left = then_left k c.sync.new.self c.stage.new.device (Shows c.args.is_first was segments) staged begun.left; leaves = staged } in
    let cut = after_cut k c.sync.new.self c.args.is_first c.args.end c.args.slot.now was segments asks c.sync.new.self c.stage.new.device c.cut.new.self c.cut.result has c.cut.ensures.kept c.cut.ensures.left c.cut.ensures.time in
    let all = has_begun k c.args.device.now c.sync.new.self c.cut.new.self (Shows c.args.is_first was segments) c.sync.ensures.time c.sync.ensures.left cut in
    so_too k c.args.device.now c.cut.new.self (Shows c.args.is_first was segments) (IsBeforeOrAfter c.args.is_first was segments c.args.slot.now c.args.segment.now) (λ x shows. inl shows) all.leaves

pub returns-in-Err-stage-clause-unwritten : goal.returns-in-Err-stage-clause-unwritten
returns-in-Err-stage-clause-unwritten g c unwritten was segments asked =
    let k : Known g.row.D.Denot = record { text = g.D.ReadAt.text; moment = g.D.Device.moment; left_since = g.D.Device.left_since; may_leave = g.D.Device.may_leave; counts_now = g.met.D.Device.counts_now; only_now = g.met.D.Device.only_now } in
    let asks = asked_still (g.D.ReadAt.text c.args.device.now) (g.D.ReadAt.text c.sync.new.self) c.args.is_first c.args.end c.args.slot.now was segments c.sync.ensures.same asked in
    let durable = subst (λ t. OnlyText t (g.D.Device.may_leave c.sync.new.self)) (sym c.sync.ensures.same) c.in_default.ensures.durable in
    let begun = at_first k c.sync.new.self c.args.is_first c.args.end c.args.slot.now was segments asks durable in
    let staged = c.stage.ensures.any_moment was segments asks in
    let has : Has k c.sync.new.self c.stage.new.device (Shows c.args.is_first was segments) = record { told = c.stage.ensures.kept was segments asks; left = then_left k c.sync.new.self c.stage.new.device (Shows c.args.is_first was segments) staged begun.left; leaves = staged } in
    let cut = after_cut k c.sync.new.self c.args.is_first c.args.end c.args.slot.now was segments asks c.sync.new.self c.stage.new.device c.cut.new.self c.cut.result has c.cut.ensures.kept c.cut.ensures.left c.cut.ensures.time in
    let all = has_begun k c.args.device.now c.sync.new.self c.cut.new.self (Shows c.args.is_first was segments) c.sync.ensures.time c.sync.ensures.left cut in
    all.leaves

pub returns-in-Err-stage-clause-cut : goal.returns-in-Err-stage-clause-cut
returns-in-Err-stage-clause-cut g c unwritten was segments asked few counted =
    let k : Known g.row.D.Denot = record { text = g.D.ReadAt.text; moment = g.D.Device.moment; left_since = g.D.Device.left_since; may_leave = g.D.Device.may_leave; counts_now = g.met.D.Device.counts_now; only_now = g.met.D.Device.only_now } in
    let asks = asked_still (g.D.ReadAt.text c.args.device.now) (g.D.ReadAt.text c.sync.new.self) c.args.is_first c.args.end c.args.slot.now was segments c.sync.ensures.same asked in
    let first = fails_counted (g.D.ReadAt.text c.args.device.now) (Shows c.args.is_first was segments) (g.D.Device.faults c.args.device.now) (g.D.Device.faults c.sync.new.self) c.sync.result (asked.file, asked.is, asked.shows) c.sync.ensures.cause in
    let second = c.stage.ensures.cause was segments asks in
    let more = c.in-Err-stage.ensures.cause was segments asks in
    let third = fails_counted (g.D.ReadAt.text c.stage.new.device) (Shows c.args.is_first was segments) (g.D.Device.faults c.stage.new.device) (g.D.Device.faults c.cut.new.self) c.cut.result (c.stage.ensures.kept was segments asks) c.cut.ensures.cause in
    let failed = more.failed refl (omega (arith, third.later, counted)) in
    (cut_back c.args.is_first c.args.end was segments (g.D.ReadAt.text c.args.device.now) (g.D.ReadAt.text c.stage.new.device) (g.D.ReadAt.text c.cut.new.self) c.cut.result (g.D.Device.faults c.stage.new.device) (g.D.Device.faults c.cut.new.self) asked.ends_are (c.stage.ensures.kept was segments asks) c.cut.ensures.kept c.cut.ensures.cause counted (omega (arith, first.later, failed, few)))

pub returns-in-Err-stage-clause-cause : goal.returns-in-Err-stage-clause-cause
returns-in-Err-stage-clause-cause g c was segments asked failed counted =
    let k : Known g.row.D.Denot = record { text = g.D.ReadAt.text; moment = g.D.Device.moment; left_since = g.D.Device.left_since; may_leave = g.D.Device.may_leave; counts_now = g.met.D.Device.counts_now; only_now = g.met.D.Device.only_now } in
    let asks = asked_still (g.D.ReadAt.text c.args.device.now) (g.D.ReadAt.text c.sync.new.self) c.args.is_first c.args.end c.args.slot.now was segments c.sync.ensures.same asked in
    let first = fails_counted (g.D.ReadAt.text c.args.device.now) (Shows c.args.is_first was segments) (g.D.Device.faults c.args.device.now) (g.D.Device.faults c.sync.new.self) c.sync.result (asked.file, asked.is, asked.shows) c.sync.ensures.cause in
    let second = c.stage.ensures.cause was segments asks in
    let more = c.in-Err-stage.ensures.cause was segments asks in
    let third = fails_counted (g.D.ReadAt.text c.stage.new.device) (Shows c.args.is_first was segments) (g.D.Device.faults c.stage.new.device) (g.D.Device.faults c.cut.new.self) c.cut.result (c.stage.ensures.kept was segments asks) c.cut.ensures.cause in
    omega (arith, first.later, more.failed refl (omega (arith, third.later, counted)), third.later)

pub pick-requires : goal.pick-requires
pick-requires g c = record { durable = c.in_default-stage.ensures.durable }

pub returns-in-Ok-clause-any_moment : goal.returns-in-Ok-clause-any_moment
returns-in-Ok-clause-any_moment g c was segments asked =
    let k : Known g.row.D.Denot = record { text = g.D.ReadAt.text; moment = g.D.Device.moment; left_since = g.D.Device.left_since; may_leave = g.D.Device.may_leave; counts_now = g.met.D.Device.counts_now; only_now = g.met.D.Device.only_now } in
    let asks = asked_still (g.D.ReadAt.text c.args.device.now) (g.D.ReadAt.text c.sync.new.self) c.args.is_first c.args.end c.args.slot.now was segments c.sync.ensures.same asked in
    let staged = c.in_default-stage.ensures.staged was segments asks in
    let stood : IsTold (g.D.ReadAt.text c.stage.new.device) (Staged c.args.is_first was segments c.args.slot.now c.args.segment.now) = (staged.0, staged.1, staged.2.1) in
    let before = so_too k c.sync.new.self c.stage.new.device (Shows c.args.is_first was segments) (IsBeforeOrAfter c.args.is_first was segments c.args.slot.now c.args.segment.now) (λ x shows. inl shows) (c.stage.ensures.any_moment was segments asks) in
    let begun = no_change k c.args.device.now c.sync.new.self (IsBeforeOrAfter c.args.is_first was segments c.args.slot.now c.args.segment.now) c.sync.ensures.time c.sync.ensures.left in
    let picked = c.pick.ensures.any_moment was segments c.args.slot.now c.args.segment.now stood in
    go_on k c.args.device.now c.sync.new.self c.pick.new.device (IsBeforeOrAfter c.args.is_first was segments c.args.slot.now c.args.segment.now) begun (go_on k c.sync.new.self c.stage.new.device c.pick.new.device (IsBeforeOrAfter c.args.is_first was segments c.args.slot.now c.args.segment.now) before picked)

pub returns-in-Ok-clause-appended : goal.returns-in-Ok-clause-appended
returns-in-Ok-clause-appended g c was segments asked =
    let k : Known g.row.D.Denot = record { text = g.D.ReadAt.text; moment = g.D.Device.moment; left_since = g.D.Device.left_since; may_leave = g.D.Device.may_leave; counts_now = g.met.D.Device.counts_now; only_now = g.met.D.Device.only_now } in
    let asks = asked_still (g.D.ReadAt.text c.args.device.now) (g.D.ReadAt.text c.sync.new.self) c.args.is_first c.args.end c.args.slot.now was segments c.sync.ensures.same asked in
    let staged = c.in_default-stage.ensures.staged was segments asks in
    let stood : IsTold (g.D.ReadAt.text c.stage.new.device) (Staged c.args.is_first was segments c.args.slot.now c.args.segment.now) = (staged.0, staged.1, staged.2.1) in
    c.in-Ok.ensures.picked was segments c.args.slot.now c.args.segment.now stood

pub returns-in-Err-pick-clause-any_moment : goal.returns-in-Err-pick-clause-any_moment
returns-in-Err-pick-clause-any_moment g c was segments asked =
    let k : Known g.row.D.Denot = record { text = g.D.ReadAt.text; moment = g.D.Device.moment; left_since = g.D.Device.left_since; may_leave = g.D.Device.may_leave; counts_now = g.met.D.Device.counts_now; only_now = g.met.D.Device.only_now } in
    let asks = asked_still (g.D.ReadAt.text c.args.device.now) (g.D.ReadAt.text c.sync.new.self) c.args.is_first c.args.end c.args.slot.now was segments c.sync.ensures.same asked in
    let staged = c.in_default-stage.ensures.staged was segments asks in
    let stood : IsTold (g.D.ReadAt.text c.stage.new.device) (Staged c.args.is_first was segments c.args.slot.now c.args.segment.now) = (staged.0, staged.1, staged.2.1) in
    let before = so_too k c.sync.new.self c.stage.new.device (Shows c.args.is_first was segments) (IsBeforeOrAfter c.args.is_first was segments c.args.slot.now c.args.segment.now) (λ x shows. inl shows) (c.stage.ensures.any_moment was segments asks) in
    let begun = no_change k c.args.device.now c.sync.new.self (IsBeforeOrAfter c.args.is_first was segments c.args.slot.now c.args.segment.now) c.sync.ensures.time c.sync.ensures.left in
    let picked = c.pick.ensures.any_moment was segments c.args.slot.now c.args.segment.now stood in
    go_on k c.args.device.now c.sync.new.self c.pick.new.device (IsBeforeOrAfter c.args.is_first was segments c.args.slot.now c.args.segment.now) begun (go_on k c.sync.new.self c.stage.new.device c.pick.new.device (IsBeforeOrAfter c.args.is_first was segments c.args.slot.now c.args.segment.now) before picked)

pub returns-in-Err-pick-clause-cause : goal.returns-in-Err-pick-clause-cause
returns-in-Err-pick-clause-cause g c was segments asked failed counted =
    let asks = asked_still (g.D.ReadAt.text c.args.device.now) (g.D.ReadAt.text c.sync.new.self) c.args.is_first c.args.end c.args.slot.now was segments c.sync.ensures.same asked in
    let staged = c.in_default-stage.ensures.staged was segments asks in
    let stood : IsTold (g.D.ReadAt.text c.stage.new.device) (Staged c.args.is_first was segments c.args.slot.now c.args.segment.now) = (staged.0, staged.1, staged.2.1) in
    let first = fails_counted (g.D.ReadAt.text c.args.device.now) (Shows c.args.is_first was segments) (g.D.Device.faults c.args.device.now) (g.D.Device.faults c.sync.new.self) c.sync.result (asked.file, asked.is, asked.shows) c.sync.ensures.cause in
    let second = c.stage.ensures.cause was segments asks in
    let more = c.in-Err-pick.ensures.cause was segments c.args.slot.now c.args.segment.now stood in
    omega (arith, first.later, second.later, more.failed refl counted)

pub returns-in-Err-clause-reads : goal.returns-in-Err-clause-reads
returns-in-Err-clause-reads g c name namer digest digester repository new growth =
    let k : Known g.row.D.Denot = record { text = g.D.ReadAt.text; moment = g.D.Device.moment; left_since = g.D.Device.left_since; may_leave = g.D.Device.may_leave; counts_now = g.met.D.Device.counts_now; only_now = g.met.D.Device.only_now } in
    let was = slot_text growth.old.slot in
    let all = segments_of name namer digest digester (g.D.ReadAt.text c.args.device.now) c.args.is_first c.args.end c.args.segment.now c.args.slot.now repository new growth in
    so_too k c.args.device.now c.sync.new.self (IsBeforeOrAfter c.args.is_first was all c.args.slot.now c.args.segment.now) (IsReadAsEither name digest repository new) (either_read name namer digest digester (g.D.ReadAt.text c.args.device.now) c.args.is_first c.args.end c.args.segment.now c.args.slot.now repository new growth) (returns-in-Err-clause-any_moment g c was all (growth_asked name namer digest digester (g.D.ReadAt.text c.args.device.now) c.args.is_first c.args.end c.args.segment.now c.args.slot.now repository new growth))

pub returns-in-Err-stage-clause-reads : goal.returns-in-Err-stage-clause-reads
returns-in-Err-stage-clause-reads g c name namer digest digester repository new growth =
    let k : Known g.row.D.Denot = record { text = g.D.ReadAt.text; moment = g.D.Device.moment; left_since = g.D.Device.left_since; may_leave = g.D.Device.may_leave; counts_now = g.met.D.Device.counts_now; only_now = g.met.D.Device.only_now } in
    let was = slot_text growth.old.slot in
    let all = segments_of name namer digest digester (g.D.ReadAt.text c.args.device.now) c.args.is_first c.args.end c.args.segment.now c.args.slot.now repository new growth in
    so_too k c.args.device.now c.cut.new.self (IsBeforeOrAfter c.args.is_first was all c.args.slot.now c.args.segment.now) (IsReadAsEither name digest repository new) (either_read name namer digest digester (g.D.ReadAt.text c.args.device.now) c.args.is_first c.args.end c.args.segment.now c.args.slot.now repository new growth) (returns-in-Err-stage-clause-any_moment g c was all (growth_asked name namer digest digester (g.D.ReadAt.text c.args.device.now) c.args.is_first c.args.end c.args.segment.now c.args.slot.now repository new growth))

pub returns-in-Ok-clause-reads : goal.returns-in-Ok-clause-reads
returns-in-Ok-clause-reads g c name namer digest digester repository new growth =
    let k : Known g.row.D.Denot = record { text = g.D.ReadAt.text; moment = g.D.Device.moment; left_since = g.D.Device.left_since; may_leave = g.D.Device.may_leave; counts_now = g.met.D.Device.counts_now; only_now = g.met.D.Device.only_now } in
    let was = slot_text growth.old.slot in
    let all = segments_of name namer digest digester (g.D.ReadAt.text c.args.device.now) c.args.is_first c.args.end c.args.segment.now c.args.slot.now repository new growth in
    so_too k c.args.device.now c.pick.new.device (IsBeforeOrAfter c.args.is_first was all c.args.slot.now c.args.segment.now) (IsReadAsEither name digest repository new) (either_read name namer digest digester (g.D.ReadAt.text c.args.device.now) c.args.is_first c.args.end c.args.segment.now c.args.slot.now repository new growth) (returns-in-Ok-clause-any_moment g c was all (growth_asked name namer digest digester (g.D.ReadAt.text c.args.device.now) c.args.is_first c.args.end c.args.segment.now c.args.slot.now repository new growth))

pub returns-in-Err-pick-clause-reads : goal.returns-in-Err-pick-clause-reads
returns-in-Err-pick-clause-reads g c name namer digest digester repository new growth =
    let k : Known g.row.D.Denot = record { text = g.D.ReadAt.text; moment = g.D.Device.moment; left_since = g.D.Device.left_since; may_leave = g.D.Device.may_leave; counts_now = g.met.D.Device.counts_now; only_now = g.met.D.Device.only_now } in
    let was = slot_text growth.old.slot in
    let all = segments_of name namer digest digester (g.D.ReadAt.text c.args.device.now) c.args.is_first c.args.end c.args.segment.now c.args.slot.now repository new growth in
    so_too k c.args.device.now c.pick.new.device (IsBeforeOrAfter c.args.is_first was all c.args.slot.now c.args.segment.now) (IsReadAsEither name digest repository new) (either_read name namer digest digester (g.D.ReadAt.text c.args.device.now) c.args.is_first c.args.end c.args.segment.now c.args.slot.now repository new growth) (returns-in-Err-pick-clause-any_moment g c was all (growth_asked name namer digest digester (g.D.ReadAt.text c.args.device.now) c.args.is_first c.args.end c.args.segment.now c.args.slot.now repository new growth))

pub returns-in-Ok-clause-read : goal.returns-in-Ok-clause-read
returns-in-Ok-clause-read g c name namer digest digester repository new growth =
    let appended = returns-in-Ok-clause-appended g c (slot_text growth.old.slot) (segments_of name namer digest digester (g.D.ReadAt.text c.args.device.now) c.args.is_first c.args.end c.args.segment.now c.args.slot.now repository new growth) (growth_asked name namer digest digester (g.D.ReadAt.text c.args.device.now) c.args.is_first c.args.end c.args.segment.now c.args.slot.now repository new growth) in
    (appended.0, appended.1, (appended.2.0, after_read name namer digest digester (g.D.ReadAt.text c.args.device.now) c.args.is_first c.args.end c.args.segment.now c.args.slot.now repository new growth appended.0 appended.2.1))
