use Rattle.std.proofs.Common.{◌≡◌, ◌++◌, ◌∷◌}
use Rattle.std.specs.List.{flat_map}
use Rattle.gx_print.specs.Messages.{paragraph, subject}
use Rattle.gx_print.proofs.messages.put_subject.Given as goal

abbrev pub invariant-loop-line : goal.invariant-loop-line
invariant-loop-line g l = l.out.items ++ flat_map (λ line. 32 ∷ line) (paragraph l.line-iterator) ≡ l.fn.out.items ++ subject l.message
