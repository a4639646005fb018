use Rattle.std.proofs.Common.{arith, length, length-take}
use Rattle.gx_repo.proofs.EntryRooms.{directory_place, directory_there}
use Rattle.gx_repo.proofs.rooms.directory_place.Goals as goal

pub unreachable-requires : goal.unreachable-requires
unreachable-requires g c = directory_there c.args.store.now.1 (length c.args.rooms.now) c.args.name.now.bytes c.requires.held (c.in-None.ensures)

pub returns-clause-within : goal.returns-clause-within
returns-clause-within g c =
    let p = directory_place c.args.store.now.1 (length c.args.rooms.now) c.args.name.now.bytes c.in-Some.place c.requires.held c.in-Some.ensures in
    omega (arith, length-take (length c.args.rooms.now) c.args.store.now.1, p.within)

pub returns-clause-place : goal.returns-clause-place
returns-clause-place g c = directory_place c.args.store.now.1 (length c.args.rooms.now) c.args.name.now.bytes c.in-Some.place c.requires.held c.in-Some.ensures
