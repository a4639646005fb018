use Rattle.std.proofs.Common.{ℕ, ◌≤◌, List, [], ap, get_or, subst, sym, Bor, ◌∙◌}
use Rattle.std.proofs.lemmas.List.{get_or-map, get_or_past, length-map}
use Rattle.gx_text.specs.Lent.{lent_texts}
use Rattle.gx_print.proofs.words.word_at.Goals as goal

pub returns-then-place-words : goal.returns-then-place-words
returns-then-place-words c =
    let words = c.args.words.now in
    let place = c.saturating_sub-place.result in
    sym (get_or-map (λ (word : Bor (List ℕ)). word.now) words place (record { ref_ptr = (0, 0); now = [] }) [] c.if-place-words.true) ∙ ap (λ i. get_or (lent_texts words) i []) c.saturating_sub-place.ensures

pub returns-else-place-words : goal.returns-else-place-words
returns-else-place-words c =
    let words = c.args.words.now in
    let place = c.saturating_sub-place.result in
    let past = subst (λ n. n ≤ place) (sym (length-map words (λ (word : Bor (List ℕ)). word.now))) c.if-place-words.false in
    sym (get_or_past (lent_texts words) place [] past) ∙ ap (λ i. get_or (lent_texts words) i []) c.saturating_sub-place.ensures
