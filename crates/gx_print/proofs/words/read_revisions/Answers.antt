use Rattle.std.proofs.Common.{◌≡◌, [], ◌+◌, ◌∷◌, drop, get_or, refl, ap, subst}
use Rattle.std.proofs.lemmas.List.{drop_all, drop_more}
use Rattle.gx_model.specs.Revisions.{revision_of}
use Rattle.gx_text.specs.Lent.{lent_texts}
use Rattle.gx_print.proofs.ReadWords.{AreRead, all_read, next_read, word_refused}
use Rattle.gx_print.proofs.words.read_revisions.Goals as goal

pub loop-place-preserved : goal.loop-place-preserved
loop-place-preserved g c =
    let words = c.args.words.now in
    let place = c.loop-place.place in
    let done = c.loop-place.revisions.items in
    let text = (get_or words place (record { ref_ptr = (0, 0); now = [] })).now in
    let left = lent_texts (drop (place + 1) words) in
    let from : lent_texts (drop place words) ≡ text ∷ left = ap lent_texts (drop_more words place (record { ref_ptr = (0, 0); now = [] }) c.loop-place-test.true) in
    let so_far = subst (λ ws. AreRead revision_of (lent_texts words) ws place done) from c.loop-place.invariant in
    rw c.in_ok-put-in-Ok.ensures (next_read revision_of (lent_texts words) left text place done c.in-Ok.revision c.in-Ok.ensures.revision so_far)

pub returns-in-Err : goal.returns-in-Err
returns-in-Err g c =
    let words = c.args.words.now in
    let place = c.loop-place.place in
    let done = c.loop-place.revisions.items in
    let text = (get_or words place (record { ref_ptr = (0, 0); now = [] })).now in
    let left = lent_texts (drop (place + 1) words) in
    let from : lent_texts (drop place words) ≡ text ∷ left = ap lent_texts (drop_more words place (record { ref_ptr = (0, 0); now = [] }) c.loop-place-test.true) in
    let so_far = subst (λ ws. AreRead revision_of (lent_texts words) ws place done) from c.loop-place.invariant in
    rw c.refused.ensures (word_refused revision_of (lent_texts words) left text place done c.in-Err.kind c.in-Err.ensures.revision so_far (place + 1) refl)

pub returns : goal.returns
returns g c =
    let words = c.args.words.now in
    let place = c.loop-place.place in
    let done = c.loop-place.revisions.items in
    let so_far = subst (λ ws. AreRead revision_of (lent_texts words) ws place done) (ap lent_texts (drop_all place words c.loop-place-test.false)) c.loop-place.invariant in
    all_read revision_of (lent_texts words) place done so_far
