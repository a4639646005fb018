use Rattle.std.proofs.Common.{[], ◌∷◌, ◌++◌, not}
use Rattle.gx_append.specs.Appending.{IsBeforeOrAfter, Shows, Staged}
use Rattle.gx_append.proofs.Moments.{Known}
use Rattle.gx_append.proofs.Shown.{before_stays, pick_held, pick_long, pick_torn}
use Rattle.gx_append.proofs.Steps.{OnOk_of, has, has_synced, has_written, synced, writes_held}
use Rattle.gx_append.proofs.appending.pick.Goals as goal

pub returns-in_err-write_at-clause-any_moment : goal.returns-in_err-write_at-clause-any_moment
returns-in_err-write_at-clause-any_moment g c was segments slot segment told =
    let k : Known g.row.D.Denot = record { text = g.D.ReadAt.text; moment = g.D.Device.moment; left_since = g.D.Device.left_since; may_leave = g.D.Device.may_leave; counts_now = g.met.D.Device.counts_now; only_now = g.met.D.Device.only_now } in
    let d = c.args.device.now in
    let P = Staged c.args.is_first was segments slot segment in
    let Q = IsBeforeOrAfter c.args.is_first was segments slot segment in
    let first = has k d P told.0 c.requires.durable told.1 told.2 in
    let second = has_written k d d c.write_at.new.self P Q 10 (c.selector.result ∷ []) c.write_at.result (pick_long c.args.is_first was segments slot segment) (before_stays c.args.is_first was segments slot segment) (pick_torn c.args.is_first was segments slot segment) first c.write_at.ensures.written c.write_at.ensures.left c.write_at.ensures.time in
    second.leaves

pub returns-clause-any_moment : goal.returns-clause-any_moment
returns-clause-any_moment g c was segments slot segment told =
    let k : Known g.row.D.Denot = record { text = g.D.ReadAt.text; moment = g.D.Device.moment; left_since = g.D.Device.left_since; may_leave = g.D.Device.may_leave; counts_now = g.met.D.Device.counts_now; only_now = g.met.D.Device.only_now } in
    let d = c.args.device.now in
    let P = Staged c.args.is_first was segments slot segment in
    let Q = IsBeforeOrAfter c.args.is_first was segments slot segment in
    let first = has k d P told.0 c.requires.durable told.1 told.2 in
    let second = has_written k d d c.write_at.new.self P Q 10 (c.selector.result ∷ []) c.write_at.result (pick_long c.args.is_first was segments slot segment) (before_stays c.args.is_first was segments slot segment) (pick_torn c.args.is_first was segments slot segment) first c.write_at.ensures.written c.write_at.ensures.left c.write_at.ensures.time in
    (has_synced k d c.write_at.new.self c.sync.new.self Q second c.sync.ensures.same c.sync.ensures.left c.sync.ensures.time).leaves

pub returns-clause-picked : goal.returns-clause-picked
returns-clause-picked g c = OnOk_of c.sync.result c.sync.ensures.durable (λ durable was segments slot segment told.
    let k : Known g.row.D.Denot = record { text = g.D.ReadAt.text; moment = g.D.Device.moment; left_since = g.D.Device.left_since; may_leave = g.D.Device.may_leave; counts_now = g.met.D.Device.counts_now; only_now = g.met.D.Device.only_now } in
    let P = Staged c.args.is_first was segments slot segment in
    let held = writes_held 10 (c.selector.result ∷ []) (g.D.ReadAt.text c.args.device.now) (g.D.ReadAt.text c.write_at.new.self) told.0 told.1 (pick_long c.args.is_first was segments slot segment told.0 told.2) c.in_ok-write_at.ensures.written in
    let shows = pick_held c.args.is_first was segments slot segment told.0 told.2 c.selector.result c.selector.ensures in
    synced k c.write_at.new.self c.sync.new.self (Shows (not c.args.is_first) slot (segments ++ segment)) (_, held, shows) c.sync.ensures.same durable)
