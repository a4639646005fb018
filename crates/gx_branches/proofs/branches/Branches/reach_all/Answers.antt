use Rattle.std.proofs.Common.{◌≡◌, ◌+◌, ◌<◌, ◌∙◌, List, [], ◌∷◌, ap, arith, get_or, length, nat_lt, refl, take, true, ℕ}
use Rattle.std.specs.List.{list_all}
use Rattle.std.specs.Prelude.{◌&&◌}
use Rattle.std.proofs.lemmas.Bool.{lt-ltb}
use Rattle.std.proofs.lemmas.List.Folds.{list_all_more}
use Rattle.gx_branches.proofs.branches.Branches.reach_all.Goals as goal

none_yet : (count : ℕ) (ranks : List ℕ) → list_all (λ rank. nat_lt rank count) (take 0 ranks) ≡ true
none_yet count [] = refl
none_yet count (x ∷ xs) = refl

one_more : (count i : ℕ) (ranks : List ℕ) → i < length ranks → get_or ranks i 0 < count → list_all (λ rank. nat_lt rank count) (take i ranks) ≡ true → list_all (λ rank. nat_lt rank count) (take (i + 1) ranks) ≡ true
one_more count i ranks l b h = list_all_more (λ rank. nat_lt rank count) ranks i 0 l ∙ ap (λ t. t && nat_lt (get_or ranks i 0) count) h ∙ lt-ltb (get_or ranks i 0) count b

pub loop-rank-init : goal.loop-rank-init
loop-rank-init g c = none_yet (length c.args.self.now.candidates.items) c.args.self.now.ranks.items

pub loop-rank-preserved : goal.loop-rank-preserved
loop-rank-preserved g c =
    let count = length c.args.self.now.candidates.items in
    let ranks = c.args.self.now.ranks.items in
    let i = c.loop-rank.rank-index in
    let items = c.deref-rank-items.ensures.value in
    let long = ap length items in
    let same = ap (λ xs. get_or xs i 0) items in
    let within : i < length ranks = omega (arith, c.loop-rank-test.true, long) in
    let low : get_or ranks i 0 < count = omega (arith, c.if-rank-len.false, c.len.ensures, c.args.self.now.candidates.ok, same) in
    one_more count i ranks within low c.loop-rank.invariant
