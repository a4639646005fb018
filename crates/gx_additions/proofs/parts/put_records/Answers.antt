use Rattle.std.proofs.Common.{◌++◌, ◌+◌, codes, drop, length}
use Rattle.std.specs.List.{flat_map}
use Rattle.gx_model.specs.declared.store_versions.Version.TheVariants.{Two}
use Rattle.gx_model.specs.Histories.{Record}
use Rattle.gx_model.specs.Objects.{line}
use Rattle.gx_model.specs.Texts.Numbers.{number_text}
use Rattle.gx_model.specs.Stores.StoreText.{stored_record}
use Rattle.gx_growing_rows.proofs.LaidOut.{from_place}
use Rattle.gx_additions.proofs.Puts.{next_put}
use Rattle.gx_additions.proofs.parts.put_records.Goals as goal

pub loop-place-preserved : goal.loop-place-preserved
loop-place-preserved g c =
    let rs = c.args.store.now.1 in
    let place = c.loop-place.place in
    let r : Record = record { name = c.in-Some.name.bytes; kind = c.in-Some.kind; body = c.in-Some.body.now } in
    let whole = c.args.bytes.now.items ++ (line (codes "objects") (number_text (length (drop c.args.held rs))) ++ flat_map (stored_record Two) (drop c.args.held rs)) in
    next_put (stored_record Two) whole c.loop-place.bytes.items c.put_record.new.bytes.items (drop place rs) r (drop (place + 1) rs) (from_place rs place r c.in-Some.ensures) c.loop-place.invariant c.in_ok-put_record.ensures
