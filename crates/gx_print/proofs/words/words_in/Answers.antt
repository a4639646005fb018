use Rattle.std.proofs.Common.{[], ◌∷◌, ◌++◌, ap, append_assoc, sym, ◌∙◌}
use Rattle.std.proofs.lemmas.List.{map-append}
use Rattle.gx_text.specs.Lent.{lent_texts}
use Rattle.gx_print.specs.Words.{words_in}
use Rattle.gx_print.proofs.SplitWords.{only_word_of, shorter_behind, word_before}
use Rattle.gx_print.proofs.words.words_in.Goals as goal

pub loop-word-preserved : goal.loop-word-preserved
loop-word-preserved g c =
    let done = c.loop-word.words.items in
    let word = c.in-Some.word in
    let rest = c.in-Some.rest.now in
    let before = word_before c.loop-word.left.now (word.now, rest) (sym c.in-Some.ensures) in
    rw c.in_ok-push.ensures.items (ap (λ ts. ts ++ words_in rest) (map-append _ done (word ∷ [])) ∙ append_assoc (lent_texts done) (word.now ∷ []) (words_in rest) ∙ ap (λ ts. lent_texts done ++ ts) (sym before) ∙ c.loop-word.invariant)

pub loop-word-smaller : goal.loop-word-smaller
loop-word-smaller g c = shorter_behind c.loop-word.left.now (c.in-Some.word.now, c.in-Some.rest.now) (sym c.in-Some.ensures)

pub returns : goal.returns
returns g c =
    let done = c.loop-word.words.items in
    let left = c.loop-word.left in
    rw c.in_ok-push-2.ensures.items (map-append _ done (left ∷ []) ∙ ap (λ ts. lent_texts done ++ ts) (sym (only_word_of left.now (sym c.in_default.ensures))) ∙ c.loop-word.invariant)
