use Rattle.std.proofs.Common.{◌≡◌, ◌-◌, ◌<◌, ◌^◌, arith, length, sym, ap, ◌∙◌, subst}
use Rattle.sha2.specs.Sha256.{sha256}
use Rattle.gx_at.specs.Reads.{StandsAt}
use Rattle.gx_growing_parts.specs.Shown.{shown_slot}
use Rattle.gx_look.proofs.Opening.{tail_is, tail_told}
use Rattle.gx_look.proofs.RecordsInRooms.{told_apart}
use Rattle.gx_look.proofs.tail.read_tail.Goals as goal

pub returns-then-ne-clause-tail : goal.returns-then-ne-clause-tail
returns-then-ne-clause-tail g c =
    let slot = shown_slot c.args.slot.now in
    let room = c.read_on.new.room.items in
    let size : length room ≡ slot.ends - slot.tail = c.in_ok-read_on.ensures.count ∙ c.in-Some.ensures.1 in
    tail_told (g.S.ReadAt.text c.args.source.now) slot _ (λ text is runs refs leads same.
    let spelled = tail_is text slot runs refs leads room (subst (λ z. StandsAt z slot.tail room) is c.in_ok-read_on.ensures.there) size in
    told_apart c.digest_of.result c.args.slot.now.digest c.ne.result c.ne.ensures c.if-ne.true (c.digest_of.ensures ∙ ap sha256 (c.as_slice.ensures.value ∙ spelled) ∙ sym leads.digest))

pub returns-clause-tail : goal.returns-clause-tail
returns-clause-tail g c =
    let slot = shown_slot c.args.slot.now in
    let room = c.read_on.new.room.items in
    let size : length room ≡ slot.ends - slot.tail = c.in_ok-read_on.ensures.count ∙ c.in-Some.ensures.1 in
    let small : length room < 2 ^ 64 = omega arith in
    tail_told (g.S.ReadAt.text c.args.source.now) slot c.tail_of_text.result (λ text is runs refs leads.
    c.tail_of_text.ensures.tail runs refs leads.live leads.named small (tail_is text slot runs refs leads room (subst (λ z. StandsAt z slot.tail room) is c.in_ok-read_on.ensures.there) size))
