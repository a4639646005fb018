use Rattle.gx_ref_lines.specs.Refs.{shown_refs}
use Rattle.gx_small_repo.proofs.RefsOf.{push_of}
use Rattle.gx_small_repo.proofs.small.add_change.Goals as goal

pub returns-clause-kept : goal.returns-clause-kept
returns-clause-kept g c = push_of (shown_refs c.args.lines.now.refs.items) c.args.changes.now.items c.push.new.self.items _ c.in_ok-push.ensures.items c.in-Some.ensures
