use Rattle.gx_import.proofs.Features.{forced_now}
use Rattle.gx_import.proofs.replay.apply_feature.Goals as goal

pub returns-in-Force-clause-steps : goal.returns-in-Force-clause-steps
returns-in-Force-clause-steps g c = λ name r s h. rw c.in-Force.is (forced_now name r c.args.tables.now s h)
