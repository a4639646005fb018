use Rattle.gx_merge_base.proofs.Given.{octopus_told}
use Rattle.gx_merge_base.proofs.bases.common_of.Goals as goal

pub returns-then-octopus-clause-common : goal.returns-then-octopus-clause-common
returns-then-octopus-clause-common g c =
    let o = c.args.objects.now in
    octopus_told g.row.A.Denot (g.O.Objects.stands o) c.args.commits.now c.in-Some.first.now c.from_ref.result.now c.in-Some.others.now c.in-Some.ensures.cases.0 c.from_ref.ensures.value c.in_ok-lefts.lefts.entries (g.O.Objects.told o) c.args.octopus c.common_to_all.result
    c.if-octopus.true c.in_ok-lefts.ensures.front c.common_to_all.ensures.common
