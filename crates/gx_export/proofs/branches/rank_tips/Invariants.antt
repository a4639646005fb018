use Rattle.gx_export.specs.Branches.{shown_tips, targets}
use Rattle.gx_export.proofs.RankedRefs.{ArePassed}
use Rattle.gx_export.proofs.branches.rank_tips.Given as goal

abbrev pub invariant-loop-rank : goal.invariant-loop-rank
invariant-loop-rank g l = ArePassed l.repo.1 (targets l.repo.1 (shown_tips l.tips)) l.ranks l.rank
