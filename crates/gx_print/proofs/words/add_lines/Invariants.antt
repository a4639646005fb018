use Rattle.std.proofs.Common.{◌≡◌, ◌++◌, map, take}
use Rattle.gx_text.specs.Lent.{lent_texts}
use Rattle.gx_print.proofs.words.add_lines.Given as goal

abbrev pub invariant-loop-line : goal.invariant-loop-line
invariant-loop-line g l = lent_texts l.words.items ≡ lent_texts l.fn.words.items ++ map (λ line. line.items) (take l.line-index l.lines)
