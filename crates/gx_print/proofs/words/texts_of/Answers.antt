use Rattle.std.proofs.Common.{◌≡◌, ◌+◌, [], ◌∷◌, ◌++◌, ap, append-nil, append_assoc, drop, sym, ◌∙◌}
use Rattle.std.proofs.lemmas.List.{drop_all, drop_more, map-append}
use Rattle.gx_text.specs.Lent.{lent_texts}
use Rattle.gx_print.proofs.words.texts_of.Goals as goal

pub loop-word-preserved : goal.loop-word-preserved
loop-word-preserved g c =
    let words = c.args.words.now in
    let i = c.loop-word.word-index in
    let done = c.loop-word.texts.items in
    let left = lent_texts (drop (i + 1) words) in
    let next : lent_texts (drop i words) ≡ c.as_bytes.result.now ∷ left = ap lent_texts (drop_more words i (record { ref_ptr = (0, 0); now = [] }) c.loop-word-test.true) ∙ ap (λ x. x ∷ left) (sym c.as_bytes.ensures.value) in
    let more : lent_texts (done ++ c.as_bytes.result ∷ []) ≡ lent_texts done ++ c.as_bytes.result.now ∷ [] = map-append _ done (c.as_bytes.result ∷ []) in
    rw c.in_ok-push.ensures.items (ap (λ ts. ts ++ left) more ∙ append_assoc (lent_texts done) (c.as_bytes.result.now ∷ []) left ∙ ap (λ ts. lent_texts done ++ ts) (sym next) ∙ c.loop-word.invariant)

pub returns : goal.returns
returns g c =
    let words = c.args.words.now in
    let done = lent_texts c.loop-word.texts.items in
    sym (ap (λ ts. done ++ lent_texts ts) (drop_all c.loop-word.word-index words c.loop-word-test.false) ∙ append-nil done) ∙ c.loop-word.invariant
