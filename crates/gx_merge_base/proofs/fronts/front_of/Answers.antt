use Rattle.std.proofs.Common.{◌≤◌, arith, length}
use Rattle.std.proofs.lemmas.List.{take_all}
use Rattle.gx_merge_base.proofs.Given.{held_next, last_one, next_one, none_yet}
use Rattle.gx_merge_base.proofs.fronts.front_of.Goals as goal

pub loop-commit-init : goal.loop-commit-init
loop-commit-init g c =
    let o = c.args.objects.now in
    none_yet (g.O.Objects.stands o) c.args.commits.now (g.O.Objects.told o) c.new-front.result.entries c.new-front.ensures.empty

pub place_of-requires : goal.place_of-requires
place_of-requires g c =
    let o = c.args.objects.now in
    record { held = held_next (g.O.Objects.stands o) c.args.commits.now (g.O.Objects.told o) c.loop-commit.commit-index _ c.loop-commit-test.true c.requires.held }

pub loop-commit-preserved : goal.loop-commit-preserved
loop-commit-preserved g c =
    let o = c.args.objects.now in
    let s = c.sound_if_told.ensures in
    next_one (g.O.Objects.stands o) c.args.commits.now (g.O.Objects.name_of o) s.namer (g.O.Objects.told o) c.loop-commit.commit-index _ c.in_ok-place.place c.loop-commit.front.entries c.insert.new.self.entries
    c.loop-commit-test.true c.in_ok-insert.ensures.entries s.sound s.order c.requires.held c.in_ok-place.ensures.place c.loop-commit.invariant

pub returns-clause-front : goal.returns-clause-front
returns-clause-front g c =
    let o = c.args.objects.now in
    let all : length c.args.commits.now ≤ c.loop-commit.commit-index = omega (arith, c.loop-commit-test.false) in
    last_one (g.O.Objects.stands o) c.args.commits.now (g.O.Objects.told o) c.loop-commit.commit-index c.loop-commit.front.entries (take_all c.loop-commit.commit-index c.args.commits.now all) c.loop-commit.invariant
