use Rattle.std.proofs.Common.{◌∙◌, ◌++◌, ap, codes, length, subst}
use Rattle.std.proofs.lemmas.Result.{err_from_is_err_and}
use Rattle.sha2.specs.Sha256.{sha256}
use Rattle.gx_model.specs.Texts.Sinks.{FailedWithin, Took}
use Rattle.gx_model.proofs.Texts.SentTexts.{left_fails, less_left}
use Rattle.gx_file.proofs.SentTexts.{last_left}
use Rattle.gx_file.specs.Sending.{Sent}
use Rattle.gx_growing.specs.GrowingText.{Slot, growing_text, head_text, no_slot, rows_text, slot_text}
use Rattle.gx_growing_file.proofs.SentGrowing.{growing_left, head, objects, table}
use Rattle.gx_growing_file.proofs.sending.send_laid_out.Goals as goal

pub returns-in_err-send_head : goal.returns-in_err-send_head
returns-in_err-send_head g c =
    let p = err_from_is_err_and c.from_residual.result c.from_residual.ensures.1 in
    let r = c.args.repo.now.1 in
    let was = g.W.Sink.taken c.args.sink.now in
    let first = g.W.Sink.taken c.send_head.new.sink in
    let sent = subst (λ (s : Slot). FailedWithin was first (head_text (codes "a") (slot_text s) (slot_text no_slot))) c.requires.slot c.in_err-send_head.ensures in
    rw p.1 (left_fails (growing_text sha256 r) was was first (head r) (objects r ++ table r) (growing_left r was) sent)

pub returns-in_err-send_records : goal.returns-in_err-send_records
returns-in_err-send_records g c =
    let p = err_from_is_err_and c.from_residual-in_err-send_records.result c.from_residual-in_err-send_records.ensures.1 in
    let r = c.args.repo.now.1 in
    let was = g.W.Sink.taken c.args.sink.now in
    let first = g.W.Sink.taken c.send_head.new.sink in
    let second = g.W.Sink.taken c.send_records.new.sink in
    let sent = subst (λ (s : Slot). Took was first (head_text (codes "a") (slot_text s) (slot_text no_slot))) c.requires.slot c.in_ok-send_head.ensures in
    let begun = less_left (growing_text sha256 r) was was first (head r) (objects r ++ table r) (growing_left r was) sent in
    rw p.1 (left_fails (growing_text sha256 r) was first second (objects r) (table r) begun c.in_err-send_records.ensures.text)

pub returns : goal.returns
returns g c =
    let r = c.args.repo.now.1 in
    let was = g.W.Sink.taken c.args.sink.now in
    let first = g.W.Sink.taken c.send_head.new.sink in
    let second = g.W.Sink.taken c.send_records.new.sink in
    let third = g.W.Sink.taken c.send_table.new.sink in
    let sent = subst (λ (s : Slot). Took was first (head_text (codes "a") (slot_text s) (slot_text no_slot))) c.requires.slot c.in_ok-send_head.ensures in
    let begun = less_left (growing_text sha256 r) was was first (head r) (objects r ++ table r) (growing_left r was) sent in
    let half = less_left (growing_text sha256 r) was first second (objects r) (table r) begun c.in_ok-send_records.ensures.text in
    let count = c.len-count.ensures.count ∙ ap (λ s. length s.1) c.store.ensures.held in
    let tail = c.as_slice.ensures.value ∙ c.requires.tail in
    last_left (growing_text sha256 r) was second third (table r) c.send_table.result half
    (subst (λ t. Sent t second third c.send_table.result) (λ i. rows_text (count i) (c.requires.rows i ++ c.requires.digests i) (tail i)) c.send_table.ensures)
