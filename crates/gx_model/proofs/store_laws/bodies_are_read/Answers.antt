use Rattle.gx_model.proofs.ObjectTexts.BodiesReadBack.{commit_read, entries_read, tag_read}
use Rattle.gx_model.proofs.ObjectTexts.BodyTests.{body_told}
use Rattle.gx_model.proofs.store_laws.bodies_are_read.Goals as goal

pub returns : goal.returns
returns c = record { told = body_told; trees = entries_read; commits = commit_read; tags = tag_read }
