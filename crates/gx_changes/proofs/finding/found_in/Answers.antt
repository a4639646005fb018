use Rattle.gx_changes.proofs.Found.{both_found}
use Rattle.gx_changes.proofs.finding.found_in.Goals as goal

pub returns-clause-found : goal.returns-clause-found
returns-clause-found g c =
    let o = c.args.objects.now in
    both_found (g.O.Objects.stands o) (g.O.Objects.told o) c.args.spans (record { refs = c.in_ok-refs.refs; commits = c.in_ok-commits.commits }) c.in_ok-refs.ensures.found c.in_ok-commits.ensures.names
