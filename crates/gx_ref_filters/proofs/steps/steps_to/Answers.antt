use Rattle.std.proofs.Common.{◌≡◌, ◌≤◌, suc, ap, arith, ◌∙◌}
use Rattle.gx_ranges.specs.Fronts.{behind_last}
use Rattle.gx_ranges.proofs.Steps.{last_is_tip, rest_are_tips}
use Rattle.gx_ranges.proofs.Tips.{behind_below, behind_end}
use Rattle.gx_ref_filters.proofs.Stepping.{goes_on, going_tips, gone_down, not_gone}
use Rattle.gx_ref_filters.proofs.steps.steps_to.Goals as goal

pub loop-last-init : goal.loop-last-init
loop-last-init g c =
    let o = c.args.objects.now in
    not_gone (g.O.Objects.stands o) c.args.place c.args.front.now.entries (g.O.Objects.told o) c.new-steps.result.items c.new-steps.ensures.items c.requires.tips

pub step_down-requires-clause-tips : goal.step_down-requires-clause-tips
step_down-requires-clause-tips g c =
    let o = c.args.objects.now in
    let stands = g.O.Objects.stands o in
    let told = g.O.Objects.told o in
    let now = c.loop-last.front.entries in
    rest_are_tips (g.O.Objects.name_of o) c.sound_if_told.ensures.namer stands told now c.pop_behind.new.front.entries (c.in-Some.last, c.in-Some.commit) c.in-Some.ensures.1.0 (going_tips stands c.args.place c.args.front.now.entries told now c.loop-last.steps.items c.loop-last.invariant)

pub step_down-requires-clause-tip : goal.step_down-requires-clause-tip
step_down-requires-clause-tip g c =
    let o = c.args.objects.now in
    let stands = g.O.Objects.stands o in
    let told = g.O.Objects.told o in
    let now = c.loop-last.front.entries in
    last_is_tip (g.O.Objects.name_of o) c.sound_if_told.ensures.namer stands told now c.pop_behind.new.front.entries (c.in-Some.last, c.in-Some.commit) c.in-Some.ensures.1.0 (going_tips stands c.args.place c.args.front.now.entries told now c.loop-last.steps.items c.loop-last.invariant)

pub loop-last-preserved : goal.loop-last-preserved
loop-last-preserved g c =
    let o = c.args.objects.now in
    let l = c.loop-last in
    goes_on (g.O.Objects.stands o) c.args.place c.args.front.now.entries (g.O.Objects.told o) (c.in-Some.last, c.in-Some.commit) l.front.entries c.pop_behind.new.front.entries c.step_down.new.front.entries l.steps.items c.step_down.new.steps.items
    c.in-Some.ensures.0 c.in-Some.ensures.1.0 l.invariant c.in_ok-step_down.ensures.steps

pub loop-last-smaller : goal.loop-last-smaller
loop-last-smaller g c =
    let rest = c.pop_behind.new.front.entries in
    let was : behind_last c.loop-last.front.entries ≡ suc c.in-Some.last = ap behind_last c.in-Some.ensures.1.0 ∙ behind_end rest (c.in-Some.last, c.in-Some.commit) in
    let now : behind_last c.step_down.new.front.entries ≤ c.in-Some.last = behind_below c.in-Some.last c.step_down.new.front.entries (c.in_ok-step_down.ensures.below c.in-Some.ensures.1.1) in
    omega (arith, was, now)

pub returns-clause-steps : goal.returns-clause-steps
returns-clause-steps g c =
    let o = c.args.objects.now in
    let s = c.sound_if_told.ensures in
    let l = c.loop-last in
    gone_down (g.O.Objects.stands o) c.args.place c.args.front.now.entries (g.O.Objects.name_of o) s.namer (g.O.Objects.told o) l.front.entries l.steps.items c.in_default.ensures.1 s.sound s.order l.invariant
