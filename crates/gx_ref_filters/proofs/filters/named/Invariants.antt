use Rattle.std.proofs.Common.{◌≡◌, take}
use Rattle.std.specs.List.{filter}
use Rattle.gx_text.specs.Lent.{lent_texts}
use Rattle.gx_ref_filters.specs.Patterns.{is_named}
use Rattle.gx_ref_filters.proofs.filters.named.Given as goal

abbrev pub invariant-loop-tip : goal.invariant-loop-tip
invariant-loop-tip g l = l.found.items ≡ filter (λ tip. is_named (lent_texts l.patterns) tip.name.now) (take l.tip-index l.refs)
