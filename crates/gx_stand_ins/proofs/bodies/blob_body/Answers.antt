use Rattle.std.proofs.Common.{Some, ap, ◌∙◌}
use Rattle.gx_stand_ins.proofs.StandInBodies.{blob_stands}
use Rattle.gx_stand_ins.proofs.bodies.blob_body.Goals as goal

pub returns-clause-stands : goal.returns-clause-stands
returns-clause-stands c = blob_stands c.behind_nonce.result c.as_slice.result.now c.behind_nonce.ensures.body c.behind_nonce.ensures.bytes ∙ ap Some c.as_slice.ensures
