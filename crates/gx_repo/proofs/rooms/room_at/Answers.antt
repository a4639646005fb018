use Rattle.std.proofs.Common.{◌+◌, length, take, get_or, sym, subst, ap, ◌∙◌, arith}
use Rattle.gx_model.specs.Records.HistoryOf.{files_at, named_values, placed}
use Rattle.gx_model.specs.Records.Sound.{IsHeldAs}
use Rattle.gx_repo.specs.Rooms.{room}
use Rattle.gx_repo.proofs.EntryRooms.{directory_room}
use Rattle.gx_repo.proofs.RecordRooms.{rooms_small, sound_first}
use Rattle.gx_repo.proofs.rooms.room_at.Goals as goal

pub directory_place-requires-clause-held : goal.directory_place-requires-clause-held
directory_place-requires-clause-held g c = subst (λ m. IsHeldAs (take (length c.args.rooms.now) c.args.store.now.1) m c.args.entry.now.name.bytes) c.in-Dir.is c.requires.held

pub overflow_add-result : goal.overflow_add-result
overflow_add-result g c =
    let rs = take (length c.args.rooms.now) c.args.store.now.1 in
    let name = g.N.Namer.name_of c.args.store.now.0 in
    let small = rooms_small name (g.met.N.Namer.is_namer c.args.store.now.0) rs (sound_first name (length c.args.rooms.now) c.args.store.now.1 c.requires.sound) c.directory_place.result in
    let same = ap (λ ns. get_or ns c.directory_place.result 0) c.requires.rooms in
    omega (arith, small, same)

pub returns-in-Dir : goal.returns-in-Dir
returns-in-Dir g c =
    let rs = take (length c.args.rooms.now) c.args.store.now.1 in
    let name = g.N.Namer.name_of c.args.store.now.0 in
    let n = c.args.entry.now.name.bytes in
    let held = subst (λ m. IsHeldAs rs m n) c.in-Dir.is c.requires.held in
    let its = directory_room name (g.met.N.Namer.is_namer c.args.store.now.0) rs (sound_first name (length c.args.rooms.now) c.args.store.now.1 c.requires.sound) c.args.entry.now.component.now n c.directory_place.result held c.directory_place.ensures.place in
    let same = ap (λ ns. get_or ns c.directory_place.result 0) c.requires.rooms in
    ap (λ x. 1 + length c.args.entry.now.component.now + x) same ∙ sym its ∙ ap (λ m. room (placed c.args.entry.now.component.now (files_at (named_values rs) m n))) (sym c.in-Dir.is)
