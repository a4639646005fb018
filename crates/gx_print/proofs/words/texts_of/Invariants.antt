use Rattle.std.proofs.Common.{◌≡◌, ◌++◌, drop}
use Rattle.gx_text.specs.Lent.{lent_texts}
use Rattle.gx_print.proofs.words.texts_of.Given as goal

abbrev pub invariant-loop-word : goal.invariant-loop-word
invariant-loop-word g l = lent_texts l.texts.items ++ lent_texts (drop l.word-index l.words) ≡ lent_texts l.words
