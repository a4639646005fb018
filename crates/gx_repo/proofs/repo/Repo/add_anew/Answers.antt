use Rattle.std.proofs.Common.{inl, length, sym, ap, ◌∙◌, subst}
use Rattle.gx_model.specs.Histories.{record_for}
use Rattle.gx_model.specs.Records.Sound.{IsLinked, IsSound}
use Rattle.gx_repo.specs.Offered.{bytes_offered}
use Rattle.gx_repo.specs.Calls.{HasShortPathsBelow}
use Rattle.gx_repo.specs.Records.{AddsRecord}
use Rattle.gx_repo.specs.Rooms.{room_below}
use Rattle.gx_repo.proofs.AddedRecords.{acceptable, duplicate, put_refused, room_refused}
use Rattle.gx_repo.proofs.HeldRecords.{put_held, put_last}
use Rattle.gx_repo.proofs.repo.Repo.add_anew.Goals as goal

pub returns-in_err-room-clause-adds : goal.returns-in_err-room-clause-adds
returns-in_err-room-clause-adds g c =
    let old = c.args.self.now.1.records in
    let r = record_for (g.N.Namer.name_of c.args.self.now.0) c.args.kind (bytes_offered c.args.body) in
    subst (λ v. AddsRecord old v.1.records r c.from_residual.result) (sym c.room_of.ensures.same)
    (room_refused old r c.from_residual.result c.in_err-room.field-0.0 c.from_residual.ensures.1 (rw c.as_slice.ensures at c.in_err-room.ensures.fault)).0

pub returns-in_err-room-clause-unhidden : goal.returns-in_err-room-clause-unhidden
returns-in_err-room-clause-unhidden g c =
    let r = record_for (g.N.Namer.name_of c.args.self.now.0) c.args.kind (bytes_offered c.args.body) in
    (room_refused c.args.self.now.1.records r c.from_residual.result c.in_err-room.field-0.0 c.from_residual.ensures.1 (rw c.as_slice.ensures at c.in_err-room.ensures.fault)).1

pub returns-in-Err-OutOfMemory-clause-unhidden : goal.returns-in-Err-OutOfMemory-clause-unhidden
returns-in-Err-OutOfMemory-clause-unhidden g c =
    let r = record_for (g.N.Namer.name_of c.args.self.now.0) c.args.kind (bytes_offered c.args.body) in
    let free = rw c.in-Err-OutOfMemory.field-0-is at c.in-Err-OutOfMemory.ensures.unhidden in
    inl (acceptable c.args.self.now.1.records r (rw c.as_slice.ensures at c.in_ok-room.ensures.ok) (rw c.room_of.ensures.same at free))

pub returns-in-Err-NameHeld-clause-adds : goal.returns-in-Err-NameHeld-clause-adds
returns-in-Err-NameHeld-clause-adds g c =
    let old = c.args.self.now.1.records in
    let r = record_for (g.N.Namer.name_of c.args.self.now.0) c.args.kind (bytes_offered c.args.body) in
    let refused = rw c.in-Err-NameHeld.field-0-is at c.in-Err-NameHeld.ensures.adds in
    let adds = rw c.room_of.ensures.same at refused in
    (duplicate old r (rw c.as_slice.ensures at c.in_ok-room.ensures.ok) (put_refused old r adds.0), adds.1)

pub returns-then-len-held-clause-adds : goal.returns-then-len-held-clause-adds
returns-then-len-held-clause-adds g c =
    let old = c.args.self.now.1.records in
    let new = c.add.new.self.1.records in
    let r = record_for (g.N.Namer.name_of c.args.self.now.0) c.args.kind (bytes_offered c.args.body) in
    let before = c.len-held.ensures.count ∙ ap (λ v. length v.1.records) (c.self.view_is ∙ c.room_of.ensures.same) in
    let after = c.len.ensures.count ∙ ap (λ v. length v.1.records) c.self-2.view_is in
    let adds = rw c.room_of.ensures.same at c.in-Ok.ensures.adds in
    let same = put_held old new r adds.1 (sym after ∙ c.if-len-held.true ∙ before) in
    (duplicate old r (rw c.as_slice.ensures at c.in_ok-room.ensures.ok) same.1, same.0)

pub returns-clause-adds : goal.returns-clause-adds
returns-clause-adds g c =
    let old = c.args.self.now.1.records in
    let new = c.add.new.self.1.records in
    let r = record_for (g.N.Namer.name_of c.args.self.now.0) c.args.kind (bytes_offered c.args.body) in
    let before = c.len-held.ensures.count ∙ ap (λ v. length v.1.records) (c.self.view_is ∙ c.room_of.ensures.same) in
    let after = c.len.ensures.count ∙ ap (λ v. length v.1.records) c.self-2.view_is in
    let adds = rw c.room_of.ensures.same at c.in-Ok.ensures.adds in
    let last = put_last old new r adds.1 (λ e. c.if-len-held.false (after ∙ e ∙ sym before)) in
    (adds.0, acceptable old r (rw c.as_slice.ensures at c.in_ok-room.ensures.ok) last.1, last.0)

pub returns-then-len-held-clause-history : goal.returns-then-len-held-clause-history
returns-then-len-held-clause-history g c = tt

pub returns-in_err-room-clause-namer : goal.returns-in_err-room-clause-namer
returns-in_err-room-clause-namer g c = ap (λ v. v.0) c.room_of.ensures.same

pub returns-in_err-room-clause-refs : goal.returns-in_err-room-clause-refs
returns-in_err-room-clause-refs g c = ap (λ v. v.1.refs) c.room_of.ensures.same

pub add-requires-clause-linked : goal.add-requires-clause-linked
add-requires-clause-linked g c =
    let names = g.N.Namer.name_of c.args.self.now.0 in
    let body = bytes_offered c.args.body in
    let sound = subst (λ v. IsSound (g.N.Namer.name_of v.0) v.1) (c.self.view_is ∙ c.room_of.ensures.same) c.self.invariant.0 in
    let law = c.records_are_taken.ensures names (g.met.N.Namer.is_namer c.args.self.now.0) in
    subst (λ v. IsLinked v.1.records c.args.kind body) (sym c.room_of.ensures.same)
    (law.linked c.args.self.now.1 sound c.args.kind body (rw c.as_slice.ensures at c.in_ok-room.ensures.ok)).0

pub add-requires-clause-short : goal.add-requires-clause-short
add-requires-clause-short g c =
    let names = g.N.Namer.name_of c.args.self.now.0 in
    let body = bytes_offered c.args.body in
    let sound = subst (λ v. IsSound (g.N.Namer.name_of v.0) v.1) (c.self.view_is ∙ c.room_of.ensures.same) c.self.invariant.0 in
    let law = c.records_are_taken.ensures names (g.met.N.Namer.is_namer c.args.self.now.0) in
    subst (λ v. HasShortPathsBelow g.N.Namer.name_of v c.args.kind body) (sym c.room_of.ensures.same)
    (law.linked c.args.self.now.1 sound c.args.kind body (rw c.as_slice.ensures at c.in_ok-room.ensures.ok)).1

pub add-requires-clause-room : goal.add-requires-clause-room
add-requires-clause-room g c =
    let below = rw c.as_slice.ensures at c.in_ok-room.ensures.room in
    below ∙ ap (λ v. room_below v.1.records c.args.kind (bytes_offered c.args.body)) (sym c.room_of.ensures.same)

pub returns-in-Err-NameHeld-clause-namer : goal.returns-in-Err-NameHeld-clause-namer
returns-in-Err-NameHeld-clause-namer g c = c.in-Err-NameHeld.ensures.namer ∙ ap (λ v. v.0) c.room_of.ensures.same

pub returns-in-Err-NameHeld-clause-refs : goal.returns-in-Err-NameHeld-clause-refs
returns-in-Err-NameHeld-clause-refs g c = c.in-Err-NameHeld.ensures.refs ∙ ap (λ v. v.1.refs) c.room_of.ensures.same

pub returns-in-Err-OutOfMemory-clause-namer : goal.returns-in-Err-OutOfMemory-clause-namer
returns-in-Err-OutOfMemory-clause-namer g c = c.in-Err-OutOfMemory.ensures.namer ∙ ap (λ v. v.0) c.room_of.ensures.same

pub returns-in-Err-OutOfMemory-clause-adds : goal.returns-in-Err-OutOfMemory-clause-adds
returns-in-Err-OutOfMemory-clause-adds g c =
    let unchanged = rw c.in-Err-OutOfMemory.field-0-is at c.in-Err-OutOfMemory.ensures.adds in
    unchanged ∙ ap (λ v. v.1.records) c.room_of.ensures.same

pub returns-in-Err-OutOfMemory-clause-refs : goal.returns-in-Err-OutOfMemory-clause-refs
returns-in-Err-OutOfMemory-clause-refs g c = c.in-Err-OutOfMemory.ensures.refs ∙ ap (λ v. v.1.refs) c.room_of.ensures.same

pub returns-then-len-held-clause-namer : goal.returns-then-len-held-clause-namer
returns-then-len-held-clause-namer g c = c.in-Ok.ensures.namer ∙ ap (λ v. v.0) c.room_of.ensures.same

pub returns-then-len-held-clause-refs : goal.returns-then-len-held-clause-refs
returns-then-len-held-clause-refs g c = c.in-Ok.ensures.refs ∙ ap (λ v. v.1.refs) c.room_of.ensures.same

pub returns-clause-namer : goal.returns-clause-namer
returns-clause-namer g c = c.in-Ok.ensures.namer ∙ ap (λ v. v.0) c.room_of.ensures.same

pub returns-clause-refs : goal.returns-clause-refs
returns-clause-refs g c = c.in-Ok.ensures.refs ∙ ap (λ v. v.1.refs) c.room_of.ensures.same

pub returns-clause-history : goal.returns-clause-history
returns-clause-history g c = rw c.room_of.ensures.same at c.in-Ok.ensures.history
