use Rattle.gx_append.specs.Appending.{Shows, Staged}
use Rattle.gx_append.proofs.Moments.{Known}
use Rattle.gx_append.proofs.Staging.{after_segment, after_slot, both_held}
use Rattle.gx_append.proofs.Steps.{OnOk_of, has_synced, synced}
use Rattle.gx_append.proofs.appending.stage.Goals as goal

pub returns-in_err-write_at-clause-any_moment : goal.returns-in_err-write_at-clause-any_moment
returns-in_err-write_at-clause-any_moment g c was segments asked =
    let k : Known g.row.D.Denot = record { text = g.D.ReadAt.text; moment = g.D.Device.moment; left_since = g.D.Device.left_since; may_leave = g.D.Device.may_leave; counts_now = g.met.D.Device.counts_now; only_now = g.met.D.Device.only_now } in
    let one = after_segment k c.args.device.now c.args.is_first c.args.end c.args.slot.now was segments asked c.write_at.new.self c.args.segment.now c.write_at.result c.requires.durable c.write_at.ensures.written c.write_at.ensures.left c.write_at.ensures.time in
    one.leaves

pub returns-in_err-write_at-clause-kept : goal.returns-in_err-write_at-clause-kept
returns-in_err-write_at-clause-kept g c was segments asked =
    let k : Known g.row.D.Denot = record { text = g.D.ReadAt.text; moment = g.D.Device.moment; left_since = g.D.Device.left_since; may_leave = g.D.Device.may_leave; counts_now = g.met.D.Device.counts_now; only_now = g.met.D.Device.only_now } in
    let one = after_segment k c.args.device.now c.args.is_first c.args.end c.args.slot.now was segments asked c.write_at.new.self c.args.segment.now c.write_at.result c.requires.durable c.write_at.ensures.written c.write_at.ensures.left c.write_at.ensures.time in
    one.told

pub returns-in_err-write_at-2-clause-any_moment : goal.returns-in_err-write_at-2-clause-any_moment
returns-in_err-write_at-2-clause-any_moment g c was segments asked =
    let k : Known g.row.D.Denot = record { text = g.D.ReadAt.text; moment = g.D.Device.moment; left_since = g.D.Device.left_since; may_leave = g.D.Device.may_leave; counts_now = g.met.D.Device.counts_now; only_now = g.met.D.Device.only_now } in
    let one = after_segment k c.args.device.now c.args.is_first c.args.end c.args.slot.now was segments asked c.write_at.new.self c.args.segment.now c.write_at.result c.requires.durable c.write_at.ensures.written c.write_at.ensures.left c.write_at.ensures.time in
    let two = after_slot k c.args.device.now c.args.is_first c.args.end c.args.slot.now was segments asked c.write_at.new.self c.write_at-2.new.self c.place_of.result c.write_at-2.result c.place_of.ensures one c.write_at-2.ensures.written c.write_at-2.ensures.left c.write_at-2.ensures.time in
    two.leaves

pub returns-in_err-write_at-2-clause-kept : goal.returns-in_err-write_at-2-clause-kept
returns-in_err-write_at-2-clause-kept g c was segments asked =
    let k : Known g.row.D.Denot = record { text = g.D.ReadAt.text; moment = g.D.Device.moment; left_since = g.D.Device.left_since; may_leave = g.D.Device.may_leave; counts_now = g.met.D.Device.counts_now; only_now = g.met.D.Device.only_now } in
    let one = after_segment k c.args.device.now c.args.is_first c.args.end c.args.slot.now was segments asked c.write_at.new.self c.args.segment.now c.write_at.result c.requires.durable c.write_at.ensures.written c.write_at.ensures.left c.write_at.ensures.time in
    let two = after_slot k c.args.device.now c.args.is_first c.args.end c.args.slot.now was segments asked c.write_at.new.self c.write_at-2.new.self c.place_of.result c.write_at-2.result c.place_of.ensures one c.write_at-2.ensures.written c.write_at-2.ensures.left c.write_at-2.ensures.time in
    two.told

pub returns-clause-any_moment : goal.returns-clause-any_moment
returns-clause-any_moment g c was segments asked =
    let k : Known g.row.D.Denot = record { text = g.D.ReadAt.text; moment = g.D.Device.moment; left_since = g.D.Device.left_since; may_leave = g.D.Device.may_leave; counts_now = g.met.D.Device.counts_now; only_now = g.met.D.Device.only_now } in
    let one = after_segment k c.args.device.now c.args.is_first c.args.end c.args.slot.now was segments asked c.write_at.new.self c.args.segment.now c.write_at.result c.requires.durable c.write_at.ensures.written c.write_at.ensures.left c.write_at.ensures.time in
    let two = after_slot k c.args.device.now c.args.is_first c.args.end c.args.slot.now was segments asked c.write_at.new.self c.write_at-2.new.self c.place_of.result c.write_at-2.result c.place_of.ensures one c.write_at-2.ensures.written c.write_at-2.ensures.left c.write_at-2.ensures.time in
    let three = has_synced k c.args.device.now c.write_at-2.new.self c.sync.new.self (Shows c.args.is_first was segments) two c.sync.ensures.same c.sync.ensures.left c.sync.ensures.time in
    three.leaves

pub returns-clause-kept : goal.returns-clause-kept
returns-clause-kept g c was segments asked =
    let k : Known g.row.D.Denot = record { text = g.D.ReadAt.text; moment = g.D.Device.moment; left_since = g.D.Device.left_since; may_leave = g.D.Device.may_leave; counts_now = g.met.D.Device.counts_now; only_now = g.met.D.Device.only_now } in
    let one = after_segment k c.args.device.now c.args.is_first c.args.end c.args.slot.now was segments asked c.write_at.new.self c.args.segment.now c.write_at.result c.requires.durable c.write_at.ensures.written c.write_at.ensures.left c.write_at.ensures.time in
    let two = after_slot k c.args.device.now c.args.is_first c.args.end c.args.slot.now was segments asked c.write_at.new.self c.write_at-2.new.self c.place_of.result c.write_at-2.result c.place_of.ensures one c.write_at-2.ensures.written c.write_at-2.ensures.left c.write_at-2.ensures.time in
    let three = has_synced k c.args.device.now c.write_at-2.new.self c.sync.new.self (Shows c.args.is_first was segments) two c.sync.ensures.same c.sync.ensures.left c.sync.ensures.time in
    three.told

pub returns-clause-staged : goal.returns-clause-staged
returns-clause-staged g c = OnOk_of c.sync.result c.sync.ensures.durable (λ durable was segments asked.
    let k : Known g.row.D.Denot = record { text = g.D.ReadAt.text; moment = g.D.Device.moment; left_since = g.D.Device.left_since; may_leave = g.D.Device.may_leave; counts_now = g.met.D.Device.counts_now; only_now = g.met.D.Device.only_now } in
    let both = both_held k c.args.device.now c.args.is_first c.args.end c.args.slot.now was segments asked (g.D.ReadAt.text c.write_at.new.self) (g.D.ReadAt.text c.write_at-2.new.self) c.args.segment.now c.place_of.result c.place_of.ensures c.in_ok-write_at.ensures.written c.in_ok-write_at-2.ensures.written in
    synced k c.write_at-2.new.self c.sync.new.self (Staged c.args.is_first was segments c.args.slot.now c.args.segment.now) both c.sync.ensures.same durable)
