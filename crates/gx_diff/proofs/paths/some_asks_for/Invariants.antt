use Rattle.std.proofs.Common.{◌≡◌, drop}
use Rattle.std.specs.List.{list_any}
use Rattle.gx_text.specs.Lent.{lent_texts}
use Rattle.gx_diff.specs.Paths.{asks_for}
use Rattle.gx_diff.proofs.paths.some_asks_for.Given as goal

abbrev pub invariant-loop-one : goal.invariant-loop-one
invariant-loop-one l =
    list_any (λ one. asks_for one l.path) (lent_texts (drop l.one-index l.asked)) ≡ list_any (λ one. asks_for one l.path) (lent_texts l.asked)
