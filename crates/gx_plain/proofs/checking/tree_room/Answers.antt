use Rattle.std.proofs.Common.{sym, subst}
use Rattle.gx_object.specs.Entries.{shown}
use Rattle.gx_plain.proofs.Checks.{AreLeft, tree_bad, tree_fine, tree_first, tree_long, tree_next, tree_unlooked}
use Rattle.gx_plain.proofs.checking.tree_room.Goals as goal

pub loop-entry-init : goal.loop-entry-init
loop-entry-init g c = tree_first c.args.listing.now c.args.rooms.now c.args.body.now c.bodies_are_read.ensures c.new-reader.result.entries c.new-reader.ensures.found c.new-reader.ensures.only

pub returns-in_err-room-in-Ok-Some : goal.returns-in_err-room-in-Ok-Some
returns-in_err-room-in-Ok-Some g c =
    rw c.from_residual.ensures (tree_unlooked c.args.listing.now c.args.rooms.now c.args.body.now (shown c.in-Ok-Some.entry) c.loop-entry.widest c.loop-entry.reader.entries c.read.new.self.entries (rw c.in-Ok-Some.field-0-is at c.in-Ok-Some.ensures.next) c.loop-entry.invariant c.in_err-room-in-Ok-Some.ensures)

pub loop-entry-smaller : goal.loop-entry-smaller
loop-entry-smaller g c = rw c.in-Ok-Some.field-0-is at c.in-Ok-Some.ensures.most

pub loop-entry-preserved : goal.loop-entry-preserved
loop-entry-preserved g c =
    subst (λ widest. AreLeft c.args.listing.now c.args.rooms.now c.args.body.now widest c.read.new.self.entries) (sym c.max-widest.ensures)
    (tree_next c.args.listing.now c.args.rooms.now c.args.body.now (shown c.in-Ok-Some.entry) c.loop-entry.widest c.in_ok-room-in-Ok-Some.room c.loop-entry.reader.entries c.read.new.self.entries (rw c.in-Ok-Some.field-0-is at c.in-Ok-Some.ensures.next) c.loop-entry.invariant c.in_ok-room-in-Ok-Some.ensures)

pub returns-in-Err : goal.returns-in-Err
returns-in-Err g c = tree_bad c.args.listing.now c.args.rooms.now c.args.body.now c.loop-entry.widest c.loop-entry.reader.entries c.in-Err.ensures.fault c.loop-entry.invariant

pub returns-then-widest-gt-MOST_ROOM : goal.returns-then-widest-gt-MOST_ROOM
returns-then-widest-gt-MOST_ROOM g c =
    tree_long c.args.listing.now c.args.rooms.now c.args.body.now c.loop-entry.widest c.loop-entry.reader.entries (rw c.in-Ok-None.field-0-is at c.in-Ok-None.ensures.end) c.loop-entry.invariant c.if-widest-gt-MOST_ROOM.true

pub returns-in-Ok-None : goal.returns-in-Ok-None
returns-in-Ok-None g c =
    tree_fine c.args.listing.now c.args.rooms.now c.args.body.now c.loop-entry.widest c.loop-entry.reader.entries (rw c.in-Ok-None.field-0-is at c.in-Ok-None.ensures.end) c.loop-entry.invariant c.if-widest-gt-MOST_ROOM.false
