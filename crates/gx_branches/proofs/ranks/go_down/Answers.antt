use Rattle.std.proofs.Common.{◌≡◌, ◌≤◌, suc, ap, arith, ◌∙◌}
use Rattle.gx_ranges.specs.Fronts.{behind_last}
use Rattle.gx_ranges.proofs.Tips.{behind_below, behind_end}
use Rattle.gx_branches.specs.Ranks.{Ranked, all_unranked, unranked}
use Rattle.gx_branches.proofs.RankedFronts.{unranked_last}
use Rattle.gx_branches.proofs.Told.{goes_further, last_is_tip, rest_is_ranked, stays_there}
use Rattle.gx_branches.proofs.ranks.go_down.Goals as goal

pub loop-last-init : goal.loop-last-init
loop-last-init g c =
    let o = c.args.objects.now in
    let s = c.sound_if_told.ensures in
    stays_there (g.O.Objects.name_of o) s.namer (g.O.Objects.stands o) (g.O.Objects.told o) s.sound s.order c.args.place c.args.front.now.entries c.requires.ranked

pub lower_parents-requires-clause-ranked : goal.lower_parents-requires-clause-ranked
lower_parents-requires-clause-ranked g c =
    let o = c.args.objects.now in
    let s = c.sound_if_told.ensures in
    let last : Ranked = (c.in-Some.last, (c.in-Some.commit, c.in-Some.rank)) in
    rest_is_ranked (g.O.Objects.name_of o) s.namer (g.O.Objects.stands o) (g.O.Objects.told o) s.sound s.order c.args.place c.args.front.now.entries c.loop-last.front.entries c.pop_behind.new.front.entries last c.in-Some.ensures.1 c.loop-last.invariant

pub lower_parents-requires-clause-tip : goal.lower_parents-requires-clause-tip
lower_parents-requires-clause-tip g c =
    let o = c.args.objects.now in
    let s = c.sound_if_told.ensures in
    let last : Ranked = (c.in-Some.last, (c.in-Some.commit, c.in-Some.rank)) in
    last_is_tip (g.O.Objects.name_of o) s.namer (g.O.Objects.stands o) (g.O.Objects.told o) s.sound s.order c.args.place c.args.front.now.entries c.loop-last.front.entries c.pop_behind.new.front.entries last c.in-Some.ensures.1 c.loop-last.invariant

pub loop-last-preserved : goal.loop-last-preserved
loop-last-preserved g c =
    let o = c.args.objects.now in
    let s = c.sound_if_told.ensures in
    let last : Ranked = (c.in-Some.last, (c.in-Some.commit, c.in-Some.rank)) in
    goes_further (g.O.Objects.name_of o) s.namer (g.O.Objects.stands o) (g.O.Objects.told o) s.sound s.order c.args.place c.args.front.now.entries c.loop-last.front.entries c.pop_behind.new.front.entries c.lower_parents.new.front.entries last
    c.in-Some.ensures.0 c.in-Some.ensures.1 c.loop-last.invariant c.in_ok-lower_parents.ensures.lowers

pub loop-last-smaller : goal.loop-last-smaller
loop-last-smaller g c =
    let rest = c.pop_behind.new.front.entries in
    let new = all_unranked c.lower_parents.new.front.entries in
    let last : Ranked = (c.in-Some.last, (c.in-Some.commit, c.in-Some.rank)) in
    let was : behind_last (all_unranked c.loop-last.front.entries) ≡ suc c.in-Some.last =
    ap (λ xs. behind_last (all_unranked xs)) c.in-Some.ensures.1 ∙ ap behind_last (unranked_last rest last) ∙ behind_end (all_unranked rest) (unranked last) in
    let now : behind_last new ≤ c.in-Some.last = behind_below c.in-Some.last new (c.in_ok-lower_parents.ensures.below c.in-Some.ensures.2) in
    omega (arith, was, now)
