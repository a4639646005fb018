use Rattle.std.proofs.Common.{◌<◌, length, rules, arith}
use Rattle.gx_model.specs.declared.objects.Kind.TheVariants as kinds
use Rattle.gx_object.specs.Entries.{shown}
use Rattle.gx_plain.proofs.Checks.{empty_looked, file_looked, full_looked, link_looked, no_directory, no_file, room_small, room_within}
use Rattle.gx_plain.proofs.checking.entry_room.Goals as goal

pub returns-in-Gitlink : goal.returns-in-Gitlink
returns-in-Gitlink g c = link_looked c.args.listing.now c.args.rooms.now (shown c.args.entry.now) c.in-Gitlink.is

pub returns-in_err-number-in-Dir : goal.returns-in_err-number-in-Dir
returns-in_err-number-in-Dir g c = rw c.from_residual.ensures (no_directory c.args.listing.now c.args.rooms.now (shown c.args.entry.now) c.in-Dir.is c.in_err-number-in-Dir.ensures)

pub offset_bounds-rooms-number : goal.offset_bounds-rooms-number
offset_bounds-rooms-number g c =
    let within : c.in_ok-number-in-Dir.number < length c.args.rooms.now = room_within c.args.listing.now c.args.rooms.now c.requires.held kinds.Tree c.args.entry.now.name.bytes c.in_ok-number-in-Dir.number c.in_ok-number-in-Dir.ensures in
    search rules

pub bounds-rooms-number : goal.bounds-rooms-number
bounds-rooms-number g c = room_within c.args.listing.now c.args.rooms.now c.requires.held kinds.Tree c.args.entry.now.name.bytes c.in_ok-number-in-Dir.number c.in_ok-number-in-Dir.ensures

pub overflow_add-result : goal.overflow_add-result
overflow_add-result g c =
    let small = room_small c.args.listing.now c.args.rooms.now c.requires.held c.in_ok-number-in-Dir.number in
    omega (arith, small)

pub returns-then-below-eq0 : goal.returns-then-below-eq0
returns-then-below-eq0 g c = empty_looked c.args.listing.now c.args.rooms.now (shown c.args.entry.now) c.in-Dir.is c.in_ok-number-in-Dir.number c.in_ok-number-in-Dir.ensures c.if-below-eq0.true

pub returns-else-below-eq0 : goal.returns-else-below-eq0
returns-else-below-eq0 g c = full_looked c.args.listing.now c.args.rooms.now (shown c.args.entry.now) c.in-Dir.is c.in_ok-number-in-Dir.number c.in_ok-number-in-Dir.ensures c.if-below-eq0.false

pub returns-in_err-number_of-in-File : goal.returns-in_err-number_of-in-File
returns-in_err-number_of-in-File g c = rw c.from_residual-in_err-number_of-in-File.ensures (no_file c.args.listing.now c.args.rooms.now (shown c.args.entry.now) c.in-File.is c.in_err-number_of-in-File.ensures)

pub returns-in_ok-number_of-in-File : goal.returns-in_ok-number_of-in-File
returns-in_ok-number_of-in-File g c = file_looked c.args.listing.now c.args.rooms.now (shown c.args.entry.now) c.in-File.is c.in_ok-number_of-in-File.field-0 c.in_ok-number_of-in-File.ensures
