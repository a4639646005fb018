use Rattle.std.proofs.Common.{Some, map, subst, sym}
use Rattle.std.specs.Prelude.{IfSome, OnOk}
use Rattle.std.specs.List.{AllByRecursion}
use Rattle.gx_objects.specs.Answers.{StandsThere}
use Rattle.gx_reached.specs.Damages.{AreDamages, Enters}
use Rattle.gx_reached.specs.Links.{shown_link}
use Rattle.gx_reached.specs.Reaching.{AddsAll, IsBefore, IsStep, OnlyAdds, OnlyAddsLinks}
use Rattle.gx_reached.specs.declared.damage.Damage.{Damage}
use Rattle.gx_reached.proofs.Entering.{entered_itself, on_ok, only_unread}
use Rattle.gx_reached.proofs.Leading.{only_linked}
use Rattle.gx_reached.proofs.Stepping.{links_added, links_stand, told_alone}
use Rattle.gx_reached.proofs.reaching.add_links.Goals as goal

pub add_before-requires-clause-before : goal.add_before-requires-clause-before
add_before-requires-clause-before g c =
    let o = c.args.objects.now in
    let stands = g.O.Objects.stands o in
    let told = g.O.Objects.told o in
    let called = c.args.link.now.name.bytes in
    let place = c.args.place in
    let s = c.sound_if_told.ensures in
    let there = told_alone told (λ r. IsStep r stands (place, c.args.link.now)) (λ r. StandsThere stands called r (Some place)) (λ r step. step.0) c.requires.step in
    subst (λ ls. IfSome told (λ r. AllByRecursion (λ l. IsBefore r stands place (shown_link l)) ls)) (sym c.as_slice.ensures.value)
    (links_stand (g.O.Objects.name_of o) stands called place c.in-Ok.object c.in_ok-links-in-Ok.links c.in_ok-links-in-Ok.ensures told s.sound s.order there c.in-Ok.ensures.held)

pub returns-in_ok-links-in-Ok-clause-only : goal.returns-in_ok-links-in-Ok-clause-only
returns-in_ok-links-in-Ok-clause-only g c =
    let o = c.args.objects.now in
    let object = c.in-Ok.object in
    let called = c.args.link.now.name.bytes in
    let links = c.in_ok-links-in-Ok.links in
    let old = c.args.front.now.entries in
    let new = c.add_before.new.front.entries in
    on_ok (OnlyAdds (map shown_link c.as_slice.result.now) old new) (OnlyAddsLinks (g.O.Objects.name_of o) called old new) c.add_before.result
    (λ only. only_linked (g.O.Objects.name_of o) object.kind object.body.now called links old new c.in-Ok.ensures.named c.in_ok-links-in-Ok.ensures (subst (λ ls. OnlyAdds (map shown_link ls) old new) c.as_slice.ensures.value only)) c.add_before.ensures.only

pub returns-in_ok-links-in-Ok-clause-adds : goal.returns-in_ok-links-in-Ok-clause-adds
returns-in_ok-links-in-Ok-clause-adds g c =
    let o = c.args.objects.now in
    let stands = g.O.Objects.stands o in
    let told = g.O.Objects.told o in
    let s = c.sound_if_told.ensures in
    let old = c.args.front.now.entries in
    let new = c.add_before.new.front.entries in
    let bad = c.add_before.new.bad in
    links_added (g.O.Objects.name_of o) stands c.args.link.now.name.bytes c.args.place c.in-Ok.object c.in_ok-links-in-Ok.links c.in_ok-links-in-Ok.ensures told old new bad c.add_before.result s.sound s.order c.in-Ok.ensures.held
    (subst (λ ls. IfSome told (λ r. OnOk c.add_before.result (AddsAll r stands (map shown_link ls) old new bad))) c.as_slice.ensures.value c.add_before.ensures.adds)

pub returns-in_ok-cause_of-in-Err-clause-bad : goal.returns-in_ok-cause_of-in-Err-clause-bad
returns-in_ok-cause_of-in-Err-clause-bad g c =
    let o = c.args.objects.now in
    let name = g.O.Objects.name_of o in
    let told = g.O.Objects.told o in
    let then = c.enter_itself.new.self in
    let damage : Damage = record { object = c.args.link.now.name; cause = c.in_ok-cause_of-in-Err.field-0 } in
    on_ok (Enters c.args.bad.now then damage.object.bytes damage) (AreDamages name told then) c.enter_itself.result
    (λ e. entered_itself c.args.bad.now then damage e name told (only_unread told c.in-Err.fault damage.cause c.in_ok-cause_of-in-Err.ensures.cause c.in-Err.ensures.fault) c.requires.bad) c.enter_itself.ensures
