use Rattle.std.proofs.Common.{arith, get_or, length, ◌≤◌}
use Rattle.std.proofs.lemmas.Option.{slice_get-get_or}
use Rattle.gx_branches.proofs.Tips.{no_tip}
use Rattle.gx_branches.proofs.Told.{all_tips, next_tip, no_tip_yet, ranked_first, tip_is_there}
use Rattle.gx_branches.proofs.ranks.front_of.Goals as goal

pub loop-rank-init : goal.loop-rank-init
loop-rank-init g c =
    let o = c.args.objects.now in
    let s = c.sound_if_told.ensures in
    no_tip_yet (g.O.Objects.name_of o) s.namer (g.O.Objects.stands o) (g.O.Objects.told o) s.sound s.order c.args.tips.now c.new-front.result.entries c.new-front.ensures.empty c.requires.tips

pub lower-requires-clause-ranked : goal.lower-requires-clause-ranked
lower-requires-clause-ranked g c =
    let o = c.args.objects.now in
    let s = c.sound_if_told.ensures in
    ranked_first (g.O.Objects.name_of o) s.namer (g.O.Objects.stands o) (g.O.Objects.told o) s.sound s.order c.args.tips.now c.loop-rank.rank c.loop-rank.front.entries c.loop-rank.invariant

pub lower-requires-clause-tip : goal.lower-requires-clause-tip
lower-requires-clause-tip g c =
    let o = c.args.objects.now in
    let s = c.sound_if_told.ensures in
    let tips = c.args.tips.now in
    let rank = c.loop-rank.rank in
    tip_is_there (g.O.Objects.name_of o) s.namer (g.O.Objects.stands o) (g.O.Objects.told o) s.sound s.order tips rank (get_or tips rank no_tip) (slice_get-get_or tips rank no_tip c.loop-rank-test.true) c.requires.tips

pub loop-rank-preserved : goal.loop-rank-preserved
loop-rank-preserved g c =
    let o = c.args.objects.now in
    let s = c.sound_if_told.ensures in
    let tips = c.args.tips.now in
    let rank = c.loop-rank.rank in
    next_tip (g.O.Objects.name_of o) s.namer (g.O.Objects.stands o) (g.O.Objects.told o) s.sound s.order tips rank (get_or tips rank no_tip) c.loop-rank.front.entries c.lower.new.front.entries (slice_get-get_or tips rank no_tip c.loop-rank-test.true)
    c.loop-rank.invariant c.in_ok-lower.ensures.lowers

pub returns-clause-front : goal.returns-clause-front
returns-clause-front g c =
    let o = c.args.objects.now in
    let s = c.sound_if_told.ensures in
    let all : length c.args.tips.now ≤ c.loop-rank.rank = omega (arith, c.loop-rank-test.false) in
    all_tips (g.O.Objects.name_of o) s.namer (g.O.Objects.stands o) (g.O.Objects.told o) s.sound s.order c.args.tips.now c.loop-rank.rank c.loop-rank.front.entries all c.loop-rank.invariant
