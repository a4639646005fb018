use Rattle.std.proofs.Common.{◌≡◌, None, [], refl, subst}
use Rattle.gx_model.specs.Histories.{Records, record_for}
use Rattle.gx_model.specs.Records.RecordFaults.{content_fault}
use Rattle.gx_repo.specs.Records.{MayRefuseRecord}
use Rattle.gx_repo.specs.Rooms.{room_below}
use Rattle.gx_repo.proofs.ContentFaults.{linked_tree}
use Rattle.gx_repo.proofs.repo.Repo.room_of.Goals as goal

pub checked_room-requires-clause-sound : goal.checked_room-requires-clause-sound
checked_room-requires-clause-sound g c =
    let names = g.N.Namer.name_of c.self.inside.store.0 in
    let r : Records = record { records = c.self.inside.store.1; refs = c.self.inside.refs } in
    ((c.parts_change.ensures names (g.met.N.Namer.is_namer c.self.inside.store.0)).refs r c.self.invariant.0 [] refl refl tt).0

pub returns-in-Err-clause-fault : goal.returns-in-Err-clause-fault
returns-in-Err-clause-fault g c =
    subst (λ v. MayRefuseRecord v.1.records (record_for (g.N.Namer.name_of v.0) c.args.kind c.args.body.now) c.fault_without_memory.result) c.self.view_is c.fault_without_memory.ensures

pub returns-clause-same : goal.returns-clause-same
returns-clause-same g c = c.self.view_is

pub returns-clause-ok : goal.returns-clause-ok
returns-clause-ok g c = subst (λ v. content_fault v.1.records c.args.kind c.args.body.now ≡ None) c.self.view_is c.in-Ok.ensures.ok

pub returns-clause-room : goal.returns-clause-room
returns-clause-room g c = subst (λ v. c.in-Ok.room ≡ room_below v.1.records c.args.kind c.args.body.now) c.self.view_is c.in-Ok.ensures.room

pub invariant_of-self : goal.invariant_of-self
invariant_of-self g c = (c.self.invariant.0, c.checked_room.ensures.front)

pub returns-in_default-clause-same : goal.returns-in_default-clause-same
returns-in_default-clause-same g c = c.self.view_is

pub fault_without_rooms-requires-clause-linked : goal.fault_without_rooms-requires-clause-linked
fault_without_rooms-requires-clause-linked g c = linked_tree c.self.inside.store.1 c.args.kind c.args.body.now c.in_default.ensures c.in-Ok.ensures.ok

pub returns-in_default-clause-fault : goal.returns-in_default-clause-fault
returns-in_default-clause-fault g c =
    subst (λ v. MayRefuseRecord v.1.records (record_for (g.N.Namer.name_of v.0) c.args.kind c.args.body.now) c.fault_without_rooms.result) c.self.view_is
    c.fault_without_rooms.ensures

pub invariant_of-self-2 : goal.invariant_of-self-2
invariant_of-self-2 g c = (c.self.invariant.0, c.checked_room.ensures.front)
