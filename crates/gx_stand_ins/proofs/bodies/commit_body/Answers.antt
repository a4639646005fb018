use Rattle.gx_stand_ins.proofs.StandInBodies.{commit_stands}
use Rattle.gx_stand_ins.proofs.bodies.commit_body.Goals as goal

pub returns : goal.returns
returns g c =
    commit_stands c.args.tree.bytes c.args.name.now.bytes c.hex.result c.blob_body.result c.new-body.result.items c.extend_from_slice.new.self.items c.extend_from_slice-2.new.self.items c.push.new.self.items
    c.extend_from_slice-3.new.self.items c.extend_from_slice-4.new.self.items c.hex.ensures.bytes c.blob_body.ensures.stands c.hex.ensures.digits c.blob_body.ensures.body c.new-body.ensures.items
    c.in_ok-extend_from_slice.ensures.items c.in_ok-extend_from_slice-2.ensures.items c.in_ok-push.ensures.items c.in_ok-extend_from_slice-3.ensures.items c.in_ok-extend_from_slice-4.ensures.items
