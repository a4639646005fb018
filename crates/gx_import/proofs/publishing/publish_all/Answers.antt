use Rattle.std.proofs.Common.{map}
use Rattle.gx_repo.specs.Refs.{shown_update}
use Rattle.gx_model.proofs.Records.ChangedRefs.{are_set}
use Rattle.gx_import.proofs.SetRefs.{never_refused}
use Rattle.gx_import.proofs.publishing.publish_all.Goals as goal

pub unreachable-requires : goal.unreachable-requires
unreachable-requires g c = never_refused c.args.repo.now.1 (map shown_update c.args.changes.now) c.requires c.in-Err.fault c.in-Err.ensures.refs c.in_default.not-OutOfMemory

pub returns-in-Ok-clause-refs : goal.returns-in-Ok-clause-refs
returns-in-Ok-clause-refs g c = (are_set c.args.repo.now.1 (map shown_update c.args.changes.now) c.publish.new.self.1.refs c.in-Ok.ensures.refs).are
