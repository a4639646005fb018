use Rattle.std.proofs.Common.{◌≡◌, length, ap, arith, length-take}
use Rattle.gx_append.specs.Devices.{Torn, written_at}
use Rattle.gx_disk.proofs.Stops.{part_torn, where_ok}
use Rattle.gx_disk.proofs.stop.torn.Goals as goal

pub returns-in-Done : goal.returns-in-Done
returns-in-Done g c =
    let at = c.args.at in
    let bytes = c.args.bytes.now in
    let left = c.args.left.items in
    where_ok (λ new. new.items ≡ written_at at bytes c.as_slice.result.now) (λ new. Torn at (length bytes) left new.items) c.overwritten.result
    (λ new is. part_torn at bytes bytes c.as_slice.result.now left new.items (omega arith) c.as_slice.ensures.value is) c.overwritten.ensures

pub returns-in-Front : goal.returns-in-Front
returns-in-Front g c =
    let at = c.args.at in
    let bytes = c.args.bytes.now in
    let left = c.args.left.items in
    let part = c.split_at.result.0.now in
    let slice = c.as_slice-in-Front.result.now in
    let short = length-take c.min.result bytes in
    where_ok (λ new. new.items ≡ written_at at part slice) (λ new. Torn at (length bytes) left new.items) c.overwritten-in-Front.result
    (λ new is. part_torn at bytes part slice left new.items (omega (arith, ap length c.split_at.ensures.front, short)) c.as_slice-in-Front.ensures.value is) c.overwritten-in-Front.ensures

pub returns-in_ok-spoiled-in-Spoiled : goal.returns-in_ok-spoiled-in-Spoiled
returns-in_ok-spoiled-in-Spoiled g c =
    let at = c.args.at in
    let bytes = c.args.bytes.now in
    let left = c.args.left.items in
    let part = c.as_slice-in-Spoiled-2.result.now in
    let slice = c.as_slice-in-Spoiled.result.now in
    where_ok (λ new. new.items ≡ written_at at part slice) (λ new. Torn at (length bytes) left new.items) c.overwritten-in-Spoiled.result
    (λ new is. part_torn at bytes part slice left new.items (omega (arith, ap length c.as_slice-in-Spoiled-2.ensures.value, c.in_ok-spoiled-in-Spoiled.ensures)) c.as_slice-in-Spoiled.ensures.value is) c.overwritten-in-Spoiled.ensures
