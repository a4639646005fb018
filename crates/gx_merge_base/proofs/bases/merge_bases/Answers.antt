use Rattle.gx_merge_base.proofs.Behind.{bases_told}
use Rattle.gx_merge_base.proofs.bases.merge_bases.Goals as goal

pub returns-clause-bases : goal.returns-clause-bases
returns-clause-bases g c =
    let o = c.args.objects.now in
    bases_told c.args.octopus (g.O.Objects.stands o) c.args.commits.now c.in_ok-common.common.entries (g.O.Objects.told o) c.best_of.result c.in_ok-common.ensures.common c.best_of.ensures.best
