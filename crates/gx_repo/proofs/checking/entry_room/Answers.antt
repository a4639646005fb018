use Rattle.std.proofs.Common.{◌≡◌, ◌<◌, ◌+◌, Some, length, get_or, sym, ap, ◌∙◌, rules, arith}
use Rattle.gx_object.specs.Entries.{shown}
use Rattle.gx_repo.specs.Rooms.{rooms_of}
use Rattle.gx_repo.proofs.CheckedEntries.{empty_entry, full_entry}
use Rattle.gx_repo.proofs.Places.{is_place}
use Rattle.gx_repo.proofs.RecordRooms.{rooms_count, rooms_small}
use Rattle.gx_repo.proofs.checking.entry_room.Goals as goal

pub offset_bounds-rooms-place : goal.offset_bounds-rooms-place
offset_bounds-rooms-place g c =
    let rs = c.args.store.now.1 in
    let at = c.in_ok-place-in-Dir.place in
    let p = is_place rs c.args.entry.now.name.bytes at (sym c.in_ok-place-in-Dir.ensures.place) in
    let within : at < length c.args.rooms.now = omega (arith, p.within, rooms_count rs, ap length c.requires.rooms) in
    search rules

pub bounds-rooms-place : goal.bounds-rooms-place
bounds-rooms-place g c =
    let rs = c.args.store.now.1 in
    let p = is_place rs c.args.entry.now.name.bytes c.in_ok-place-in-Dir.place (sym c.in_ok-place-in-Dir.ensures.place) in
    omega (arith, p.within, rooms_count rs, ap length c.requires.rooms)

pub overflow_add-result : goal.overflow_add-result
overflow_add-result g c =
    let rs = c.args.store.now.1 in
    let at = c.in_ok-place-in-Dir.place in
    let small = rooms_small (g.N.Namer.name_of c.args.store.now.0) (g.met.N.Namer.is_namer c.args.store.now.0) rs c.requires.sound at in
    omega (arith, small, ap (λ ns. get_or ns at 0) c.requires.rooms)

pub returns-then-below-eq0-clause-room : goal.returns-then-below-eq0-clause-room
returns-then-below-eq0-clause-room g c =
    let rs = c.args.store.now.1 in
    let at = c.in_ok-place-in-Dir.place in
    let none : get_or (rooms_of rs) at 0 ≡ 0 = sym (ap (λ ns. get_or ns at 0) c.requires.rooms) ∙ c.if-below-eq0.true in
    empty_entry (g.N.Namer.name_of c.args.store.now.0) (g.met.N.Namer.is_namer c.args.store.now.0) rs c.requires.sound (shown c.args.entry.now) at c.in-Dir.is c.in_ok-place-in-Dir.ensures.place c.in_ok-place-in-Dir.ensures.held none

pub returns-else-below-eq0-clause-room : goal.returns-else-below-eq0-clause-room
returns-else-below-eq0-clause-room g c =
    let rs = c.args.store.now.1 in
    let at = c.in_ok-place-in-Dir.place in
    let same = ap (λ ns. get_or ns at 0) c.requires.rooms in
    ap (λ x. Some (1 + length c.args.entry.now.component.now + x)) same
    ∙ full_entry (g.N.Namer.name_of c.args.store.now.0) (g.met.N.Namer.is_namer c.args.store.now.0) rs c.requires.sound (shown c.args.entry.now) at c.in-Dir.is c.in_ok-place-in-Dir.ensures.place c.in_ok-place-in-Dir.ensures.held (λ z. c.if-below-eq0.false (same ∙ z))
