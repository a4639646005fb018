use Rattle.std.proofs.Common.{subst}
use Rattle.std.specs.Prelude.{IfSome}
use Rattle.gx_ranges.specs.Fronts.{LeadsToPlace}
use Rattle.gx_tips.proofs.Places.{one_not_reached, one_reached}
use Rattle.gx_tips.proofs.spans.reached_places.Goals as goal

pub loop-place-preserved-in_ok-insert : goal.loop-place-preserved-in_ok-insert
loop-place-preserved-in_ok-insert g c =
    let o = c.args.objects.now in
    let stands = g.O.Objects.stands o in
    let told = g.O.Objects.told o in
    let l = c.loop-place in
    let p = c.in-Some.ensures in
    let answer = subst (λ b. IfSome told (λ r. LeadsToPlace stands c.in-Some.place l.front.entries r b)) c.if-branch.true c.in_ok-is_reached.ensures.answer in
    one_reached stands c.args.front.now.entries c.args.places c.in-Some.place l.left c.pop_last.new.self l.reached c.insert.new.self l.front.entries c.is_reached.new.front.entries p.member p.updates.0 p.greatest
    told c.in_ok-insert.ensures.updates.0 l.invariant c.in_ok-is_reached.ensures.down answer

pub loop-place-preserved : goal.loop-place-preserved
loop-place-preserved g c =
    let o = c.args.objects.now in
    let stands = g.O.Objects.stands o in
    let told = g.O.Objects.told o in
    let l = c.loop-place in
    let p = c.in-Some.ensures in
    let answer = subst (λ b. IfSome told (λ r. LeadsToPlace stands c.in-Some.place l.front.entries r b)) c.if-branch.false c.in_ok-is_reached.ensures.answer in
    one_not_reached stands c.args.front.now.entries c.args.places c.in-Some.place l.left c.pop_last.new.self l.reached l.front.entries c.is_reached.new.front.entries p.member p.updates.0 p.greatest
    told l.invariant c.in_ok-is_reached.ensures.down answer
