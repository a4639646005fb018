use Rattle.std.proofs.Common.{◌≡◌, length, nat_lt, take, true}
use Rattle.std.specs.List.{list_all}
use Rattle.gx_branches.proofs.branches.Branches.reach_all.Given as goal

abbrev pub invariant-loop-rank : goal.invariant-loop-rank
invariant-loop-rank g l = list_all (λ rank. nat_lt rank (length l.self.candidates.items)) (take l.rank-index l.self.ranks.items) ≡ true
