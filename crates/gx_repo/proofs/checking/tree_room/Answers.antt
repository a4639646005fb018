use Rattle.std.proofs.Common.{Some, sym, ap, ◌∙◌}
use Rattle.gx_model.specs.declared.objects.Kind.TheVariants as kinds
use Rattle.gx_object.specs.Entries.{shown}
use Rattle.gx_repo.specs.Records.{add_fault}
use Rattle.gx_repo.proofs.ContentFaults.{bad_below, empty_below, fine_below, long_below, nothing_against, widest_room}
use Rattle.gx_repo.proofs.ReadTrees.{bad_passed, left_bad, left_dangling, left_end, left_first, left_next}
use Rattle.gx_repo.proofs.checking.tree_room.Goals as goal

pub loop-entry-init : goal.loop-entry-init
loop-entry-init g c = (left_first c.args.store.now.1 c.args.body.now c.bodies_are_read.ensures c.new-reader.result.entries c.new-reader.ensures.found c.new-reader.ensures.only, c.earlier-earlier.ensures)

pub returns-in_err-entry-clause-fault : goal.returns-in_err-entry-clause-fault
returns-in_err-entry-clause-fault g c =
    let rs = c.args.store.now.1 in
    let body = c.args.body.now in
    bad_passed rs kinds.Tree body c.from_residual.result c.from_residual.ensures.1 (left_bad rs body c.loop-entry.widest c.loop-entry.reader.entries c.in_err-entry.ensures.fault c.loop-entry.invariant.0)

pub entry_room-requires-clause-known : goal.entry_room-requires-clause-known
entry_room-requires-clause-known g c = λ known. c.takes-is_known.ensures.held known c.args.store.now.1 c.loop-entry.invariant.1

pub returns-in_default-entry_room-clause-fault : goal.returns-in_default-entry_room-clause-fault
returns-in_default-entry_room-clause-fault g c =
    let rs = c.args.store.now.1 in
    let body = c.args.body.now in
    left_dangling rs body (shown c.in-Some.entry) c.loop-entry.widest c.loop-entry.reader.entries c.read.new.self.entries (rw c.in-Some.is at c.in_ok-entry.ensures.next) c.loop-entry.invariant.0 c.in_default-entry_room.ensures.dangling
    ∙ ap (λ f. Some (add_fault f)) (sym c.fault_behind.ensures)

pub loop-entry-smaller : goal.loop-entry-smaller
loop-entry-smaller g c = rw c.in-Some.is at c.in_ok-entry.ensures.most

pub loop-entry-preserved : goal.loop-entry-preserved
loop-entry-preserved g c =
    let rs = c.args.store.now.1 in
    let body = c.args.body.now in (
      left_next rs body (shown c.in-Some.entry) c.loop-entry.widest c.in-Ok.room c.wider-widest.result c.loop-entry.reader.entries c.read.new.self.entries (rw c.in-Some.is at c.in_ok-entry.ensures.next) c.loop-entry.invariant.0 c.in-Ok.ensures.held c.in-Ok.ensures.room c.wider-widest.ensures,
      c.takes-is_known.ensures.left rs c.loop-entry.invariant.1,
    )

pub returns-in_default-widest-clause-fault : goal.returns-in_default-widest-clause-fault
returns-in_default-widest-clause-fault g c =
    let rs = c.args.store.now.1 in
    let body = c.args.body.now in
    let whole = left_end rs body c.loop-entry.widest c.loop-entry.reader.entries (rw c.in_default.is at c.in_ok-entry.ensures.end) c.loop-entry.invariant.0 in
    bad_below rs kinds.Tree body whole.good whole.links (empty_below rs body (sym c.in_default-widest.is ∙ whole.all))

pub returns-then-room-gt-MOST_ROOM-clause-fault : goal.returns-then-room-gt-MOST_ROOM-clause-fault
returns-then-room-gt-MOST_ROOM-clause-fault g c =
    let rs = c.args.store.now.1 in
    let body = c.args.body.now in
    let whole = left_end rs body c.loop-entry.widest c.loop-entry.reader.entries (rw c.in_default.is at c.in_ok-entry.ensures.end) c.loop-entry.invariant.0 in
    bad_below rs kinds.Tree body whole.good whole.links (long_below rs body c.in-Some-widest.room (sym c.in-Some-widest.is ∙ whole.all) c.if-room-gt-MOST_ROOM.true)

pub returns-clause-ok : goal.returns-clause-ok
returns-clause-ok g c =
    let rs = c.args.store.now.1 in
    let body = c.args.body.now in
    let whole = left_end rs body c.loop-entry.widest c.loop-entry.reader.entries (rw c.in_default.is at c.in_ok-entry.ensures.end) c.loop-entry.invariant.0 in
    nothing_against rs kinds.Tree body whole.good whole.links (fine_below rs body c.in-Some-widest.room (sym c.in-Some-widest.is ∙ whole.all) c.if-room-gt-MOST_ROOM.false)

pub returns-clause-room : goal.returns-clause-room
returns-clause-room g c =
    let rs = c.args.store.now.1 in
    let body = c.args.body.now in
    let whole = left_end rs body c.loop-entry.widest c.loop-entry.reader.entries (rw c.in_default.is at c.in_ok-entry.ensures.end) c.loop-entry.invariant.0 in
    widest_room rs body c.in-Some-widest.room (sym c.in-Some-widest.is ∙ whole.all)
