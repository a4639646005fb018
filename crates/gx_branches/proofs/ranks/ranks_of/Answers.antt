use Rattle.std.proofs.Common.{arith, get_or, length, ◌≤◌}
use Rattle.std.proofs.lemmas.Option.{slice_get-get_or}
use Rattle.gx_branches.proofs.Tips.{no_name}
use Rattle.gx_branches.proofs.Told.{all_ranks, commit_is_held, next_rank, no_rank_yet, ranked_still}
use Rattle.gx_branches.proofs.ranks.ranks_of.Goals as goal

pub loop-commit-init : goal.loop-commit-init
loop-commit-init g c =
    let o = c.args.objects.now in
    let s = c.sound_if_told.ensures in
    no_rank_yet (g.O.Objects.name_of o) s.namer (g.O.Objects.stands o) (g.O.Objects.told o) s.sound s.order c.args.front.now.entries c.args.count c.args.commits.now c.new-ranks.result.items c.new-ranks.ensures.items c.requires.ranked

pub place_of-requires : goal.place_of-requires
place_of-requires g c =
    let o = c.args.objects.now in
    let s = c.sound_if_told.ensures in
    let names = c.args.commits.now in
    let i = c.loop-commit.commit-index in
    record { held = commit_is_held (g.O.Objects.name_of o) s.namer (g.O.Objects.stands o) (g.O.Objects.told o) s.sound s.order names i (get_or names i no_name) (slice_get-get_or names i no_name c.loop-commit-test.true) c.requires.commits }

pub go_down-requires : goal.go_down-requires
go_down-requires g c =
    let o = c.args.objects.now in
    let s = c.sound_if_told.ensures in
    let l = c.loop-commit in
    record { ranked = ranked_still (g.O.Objects.name_of o) s.namer (g.O.Objects.stands o) (g.O.Objects.told o) s.sound s.order c.args.front.now.entries c.args.count c.args.commits.now l.commit-index l.front.entries l.ranks.items l.invariant }

pub loop-commit-preserved : goal.loop-commit-preserved
loop-commit-preserved g c =
    let o = c.args.objects.now in
    let s = c.sound_if_told.ensures in
    let l = c.loop-commit in
    let names = c.args.commits.now in
    let i = l.commit-index in
    next_rank (g.O.Objects.name_of o) s.namer (g.O.Objects.stands o) (g.O.Objects.told o) s.sound s.order c.args.front.now.entries c.args.count names i (get_or names i no_name) c.in_ok-place.place c.rank_at.result l.front.entries c.go_down.new.front.entries l.ranks.items c.push.new.self.items
    (slice_get-get_or names i no_name c.loop-commit-test.true) c.in_ok-go_down.ensures.below c.rank_at.ensures c.in_ok-push.ensures.items
    c.requires.commits c.in_ok-place.ensures.place c.in_ok-go_down.ensures.down l.invariant

pub returns-clause-ranks : goal.returns-clause-ranks
returns-clause-ranks g c =
    let o = c.args.objects.now in
    let s = c.sound_if_told.ensures in
    let l = c.loop-commit in
    let all : length c.args.commits.now ≤ l.commit-index = omega (arith, c.loop-commit-test.false) in
    all_ranks (g.O.Objects.name_of o) s.namer (g.O.Objects.stands o) (g.O.Objects.told o) s.sound s.order c.args.front.now.entries c.args.count c.args.commits.now l.commit-index l.front.entries l.ranks.items all l.invariant
