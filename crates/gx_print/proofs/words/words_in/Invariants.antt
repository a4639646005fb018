use Rattle.std.proofs.Common.{◌≡◌, ◌++◌, length}
use Rattle.gx_text.specs.Lent.{lent_texts}
use Rattle.gx_print.specs.Words.{words_in}
use Rattle.gx_print.proofs.words.words_in.Given as goal

abbrev pub invariant-loop-word : goal.invariant-loop-word
invariant-loop-word g l = lent_texts l.words.items ++ words_in l.left ≡ words_in l.text

abbrev pub decreases-loop-word : goal.decreases-loop-word
decreases-loop-word g l = length l.left
