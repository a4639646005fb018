use Rattle.std.proofs.Common.{◌≡◌, ◌++◌, [], ◌∷◌, ◌+◌, ap, drop, get_or, map, refl, subst, sym, ◌∙◌}
use Rattle.std.proofs.lemmas.List.{drop_all, drop_more, map-append}
use Rattle.gx_model.specs.Revisions.{range_of}
use Rattle.gx_rev.specs.Views.{shown_range}
use Rattle.gx_text.specs.Lent.{lent_texts}
use Rattle.gx_print.proofs.ReadWords.{AreRead, all_read, next_read, word_refused}
use Rattle.gx_print.proofs.words.read_ranges.Goals as goal

pub returns-in-Err : goal.returns-in-Err
returns-in-Err g c =
    let words = c.args.words.now in
    let i = c.loop-place.place in
    let done = map shown_range c.loop-place.ranges.items in
    let left = lent_texts (drop (i + 1) words) in
    let next = ap lent_texts (drop_more words i (record { ref_ptr = (0, 0); now = [] }) c.loop-place-test.true) in
    let read = subst (λ ts. AreRead range_of (lent_texts words) ts i done) next c.loop-place.invariant in
    rw c.refused.ensures (word_refused range_of (lent_texts words) left (get_or words i (record { ref_ptr = (0, 0); now = [] })).now i done c.in-Err.kind c.in-Err.ensures.range read (i + 1) refl)

pub loop-place-preserved : goal.loop-place-preserved
loop-place-preserved g c =
    let words = c.args.words.now in
    let i = c.loop-place.place in
    let done = map shown_range c.loop-place.ranges.items in
    let left = lent_texts (drop (i + 1) words) in
    let next = ap lent_texts (drop_more words i (record { ref_ptr = (0, 0); now = [] }) c.loop-place-test.true) in
    let read = subst (λ ts. AreRead range_of (lent_texts words) ts i done) next c.loop-place.invariant in
    let pushed : c.put.new.all.items ≡ c.loop-place.ranges.items ++ c.in-Ok.range ∷ [] = c.in_ok-put-in-Ok.ensures in
    subst (AreRead range_of (lent_texts words) left (i + 1)) (sym (ap (map shown_range) pushed ∙ map-append shown_range c.loop-place.ranges.items (c.in-Ok.range ∷ [])))
    (next_read range_of (lent_texts words) left (get_or words i (record { ref_ptr = (0, 0); now = [] })).now i done (shown_range c.in-Ok.range) c.in-Ok.ensures.range read)

pub returns : goal.returns
returns g c =
    let words = c.args.words.now in
    let i = c.loop-place.place in
    let done = map shown_range c.loop-place.ranges.items in
    let read = subst (λ ts. AreRead range_of (lent_texts words) ts i done) (ap lent_texts (drop_all i words c.loop-place-test.false)) c.loop-place.invariant in
    all_read range_of (lent_texts words) i done read
