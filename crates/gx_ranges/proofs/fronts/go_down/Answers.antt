use Rattle.std.proofs.Common.{◌≡◌, ◌≤◌, suc, ap, arith, ◌∙◌}
use Rattle.gx_ranges.specs.Fronts.{behind_last}
use Rattle.gx_ranges.proofs.Steps.{down_tips, goes_further, last_is_tip, rest_are_tips, stays_there}
use Rattle.gx_ranges.proofs.Tips.{behind_below, behind_end}
use Rattle.gx_ranges.proofs.fronts.go_down.Goals as goal

pub loop-last-init : goal.loop-last-init
loop-last-init g c =
    let o = c.args.objects.now in
    stays_there (g.O.Objects.name_of o) c.sound_if_told.ensures.namer (g.O.Objects.stands o) (g.O.Objects.told o) c.args.place c.args.front.now.entries c.requires.tips

pub add_parents-requires-clause-tips : goal.add_parents-requires-clause-tips
add_parents-requires-clause-tips g c =
    let o = c.args.objects.now in
    let name = g.O.Objects.name_of o in
    let namer = c.sound_if_told.ensures.namer in
    let stands = g.O.Objects.stands o in
    let told = g.O.Objects.told o in
    let now = c.loop-last.front.entries in
    rest_are_tips name namer stands told now c.pop_behind.new.front.entries (c.in-Some.last, c.in-Some.commit) c.in-Some.ensures.1.0 (down_tips name namer stands told c.args.place c.args.front.now.entries now c.loop-last.invariant)

pub add_parents-requires-clause-tip : goal.add_parents-requires-clause-tip
add_parents-requires-clause-tip g c =
    let o = c.args.objects.now in
    let name = g.O.Objects.name_of o in
    let namer = c.sound_if_told.ensures.namer in
    let stands = g.O.Objects.stands o in
    let told = g.O.Objects.told o in
    let now = c.loop-last.front.entries in
    last_is_tip name namer stands told now c.pop_behind.new.front.entries (c.in-Some.last, c.in-Some.commit) c.in-Some.ensures.1.0 (down_tips name namer stands told c.args.place c.args.front.now.entries now c.loop-last.invariant)

pub loop-last-preserved : goal.loop-last-preserved
loop-last-preserved g c =
    let o = c.args.objects.now in
    let s = c.sound_if_told.ensures in
    goes_further (g.O.Objects.name_of o) s.namer (g.O.Objects.stands o) (g.O.Objects.told o) c.args.place c.args.front.now.entries c.loop-last.front.entries c.pop_behind.new.front.entries c.add_parents.new.front.entries (c.in-Some.last, c.in-Some.commit)
    c.in-Some.ensures.0 c.in-Some.ensures.1 s.sound s.order c.loop-last.invariant c.in_ok-add_parents.ensures.adds

pub loop-last-smaller : goal.loop-last-smaller
loop-last-smaller g c =
    let rest = c.pop_behind.new.front.entries in
    let was : behind_last c.loop-last.front.entries ≡ suc c.in-Some.last = ap behind_last c.in-Some.ensures.1.0 ∙ behind_end rest (c.in-Some.last, c.in-Some.commit) in
    let now : behind_last c.add_parents.new.front.entries ≤ c.in-Some.last = behind_below c.in-Some.last c.add_parents.new.front.entries (c.in_ok-add_parents.ensures.below c.in-Some.ensures.1.1) in
    omega (arith, was, now)
