use Rattle.std.proofs.Common.{Err, ap, ◌∙◌, arith}
use Rattle.gx_model.specs.declared.objects.Kind.TheVariants as kinds
use Rattle.gx_repo.proofs.ContentFaults.{may_refuse, refused_by}
use Rattle.gx_repo.proofs.RecordRooms.{front_all}
use Rattle.gx_repo.proofs.checking.entered_room.Goals.{then-len+in_ok-check_links+in_ok-enter_all, else-len}
use Rattle.gx_repo.proofs.checking.entered_room.Goals as goal

pub returns-in_err-check_links-clause-fault : goal.returns-in_err-check_links-clause-fault
returns-in_err-check_links-clause-fault g c =
    let rs = c.args.store.now.1 in
    let body = c.args.body.now in
    let fault = c.in_err-check_links.field-0.0 in
    refused_by rs kinds.Tree body c.from_residual.result fault c.from_residual.ensures.1 (may_refuse {X = Unit {0}} rs kinds.Tree body (Err fault) c.in_err-check_links.ensures.fault)

pub tree_room-requires-clause-rooms : goal.tree_room-requires-clause-rooms
tree_room-requires-clause-rooms g c = c.as_slice.ensures.value ∙ elim c.if-len.branch [
  | then-len+in_ok-check_links+in_ok-enter_all w ↦ ap (λ v. v.items) w.rooms-is ∙ w.in_ok-enter_all.ensures.ok
  | else-len w ↦ ap (λ v. v.items) w.rooms-is ∙ front_all c.args.store.now.1 c.args.rooms.now.items c.requires.front (omega (arith, w.if-len.false, c.len.ensures, c.len-2.ensures.count, c.args.rooms.now.ok.0))
]

pub returns-clause-fault : goal.returns-clause-fault
returns-clause-fault g c = may_refuse c.args.store.now.1 kinds.Tree c.args.body.now c.tree_room.result c.tree_room.ensures.fault
