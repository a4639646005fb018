use Rattle.std.proofs.Common.{◌≡◌, false, take}
use Rattle.std.specs.List.{list_any}
use Rattle.gx_text.specs.Lent.{lent_texts}
use Rattle.gx_ref_filters.specs.Patterns.{is_front}
use Rattle.gx_ref_filters.proofs.patterns.is_named.Given as goal

abbrev pub invariant-loop-pattern : goal.invariant-loop-pattern
invariant-loop-pattern l = list_any (λ p. is_front p l.name) (lent_texts (take l.pattern-index l.patterns)) ≡ false
