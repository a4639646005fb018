use Rattle.std.proofs.Common.{◌≡◌, ◌<◌, length, take, Some, slice_get, sym, subst, ap, ◌∙◌, arith}
use Rattle.std.proofs.lemmas.Option.{slice_get_within}
use Rattle.gx_model.specs.Histories.{Record}
use Rattle.gx_model.specs.Records.Sound.{IsLinked}
use Rattle.gx_repo.specs.Rooms.{rooms_of}
use Rattle.gx_repo.proofs.RecordRooms.{front_entered, linked_at, rooms_all, rooms_entered, rooms_taken}
use Rattle.gx_repo.proofs.rooms.enter_rooms.Goals as goal

pub room_of-room-requires-clause-rooms : goal.room_of-room-requires-clause-rooms
room_of-room-requires-clause-rooms g c =
    let rs = c.args.store.now.1 in
    subst (λ z. z ≡ rooms_of (take (length z) rs)) (sym c.as_slice.ensures.value) (c.loop-kind.invariant.0 ∙ sym (rooms_taken (length c.loop-kind.rooms.items) rs))

pub room_of-room-requires-clause-linked : goal.room_of-room-requires-clause-linked
room_of-room-requires-clause-linked g c =
    let rs = c.args.store.now.1 in
    let xs = c.loop-kind.rooms.items in
    let r : Record = record { name = c.in-Some.field-0-0.bytes; kind = c.in-Some.kind; body = c.in-Some.body.now } in
    let many : length xs ≡ c.len.result = omega (arith, c.len.ensures, c.loop-kind.rooms.ok.0) in
    let next : slice_get rs (length xs) ≡ Some r = ap (λ j. slice_get rs j) many ∙ sym c.in-Some.ensures in
    subst (λ z. IsLinked (take (length z) rs) c.in-Some.kind c.in-Some.body.now) (sym c.as_slice.ensures.value) (linked_at (g.N.Namer.name_of c.args.store.now.0) rs (length xs) r c.requires.sound next)

pub loop-kind-smaller : goal.loop-kind-smaller
loop-kind-smaller g c =
    let rs = c.args.store.now.1 in
    let xs = c.loop-kind.rooms.items in
    let r : Record = record { name = c.in-Some.field-0-0.bytes; kind = c.in-Some.kind; body = c.in-Some.body.now } in
    let many : length xs ≡ c.len.result = omega (arith, c.len.ensures, c.loop-kind.rooms.ok.0) in
    let next : slice_get rs (length xs) ≡ Some r = ap (λ j. slice_get rs j) many ∙ sym c.in-Some.ensures in
    let within : length xs < length rs = slice_get_within rs (length xs) r next in
    omega (arith, within, c.in_ok-push.ensures.len)

pub loop-kind-preserved : goal.loop-kind-preserved
loop-kind-preserved g c =
    let rs = c.args.store.now.1 in
    let xs = c.loop-kind.rooms.items in
    let r : Record = record { name = c.in-Some.field-0-0.bytes; kind = c.in-Some.kind; body = c.in-Some.body.now } in
    let many : length xs ≡ c.len.result = omega (arith, c.len.ensures, c.loop-kind.rooms.ok.0) in
    let next : slice_get rs (length xs) ≡ Some r = ap (λ j. slice_get rs j) many ∙ sym c.in-Some.ensures in
    let its = rw c.as_slice.ensures.value at c.room_of-room.ensures in (
      rooms_entered rs xs c.push.new.self.items r c.room_of-room.result c.loop-kind.invariant.0 next its c.in_ok-push.ensures.items,
      front_entered c.args.rooms.now.items xs c.push.new.self.items c.room_of-room.result c.loop-kind.invariant.1 c.in_ok-push.ensures.items,
    )

pub returns-clause-ok : goal.returns-clause-ok
returns-clause-ok g c =
    let rs = c.args.store.now.1 in
    let xs = c.loop-kind.rooms.items in
    let many : length xs ≡ c.len.result = omega (arith, c.len.ensures, c.loop-kind.rooms.ok.0) in
    rooms_all rs xs c.loop-kind.invariant.0 (ap (λ j. slice_get rs j) many ∙ sym c.in_default.ensures)
