use Rattle.std.proofs.Common.{refl, sym}
use Rattle.gx_ranges.proofs.RefLines.{none_left, rest_shorter, some_left}
use Rattle.gx_tips.proofs.RefTips.{line_peels, line_read, line_told, lines_begin, lines_end}
use Rattle.gx_tips.proofs.tips.tips_of.Goals as goal

pub loop-rest-init : goal.loop-rest-init
loop-rest-init g c =
    let o = c.args.objects.now in
    lines_begin (g.O.Objects.stands o) (g.O.Objects.told o) c.args.lines.now c.new-tips.result.items c.new-tips.ensures.items c.requires.lines

pub returns-in_default-clause-fault : goal.returns-in_default-clause-fault
returns-in_default-clause-fault g c =
    let o = c.args.objects.now in
    let s = c.sound_if_told.ensures in
    let text = c.loop-rest.rest.now in
    λ _. line_told (g.O.Objects.stands o) (g.O.Objects.name_of o) s.namer text c.loop-rest.tips.items (some_left text c.is_empty.ensures c.loop-rest-test.true) (g.O.Objects.told o) c.in_default.ensures s.sound c.loop-rest.invariant

pub peeled-requires : goal.peeled-requires
peeled-requires g c =
    let o = c.args.objects.now in
    let s = c.sound_if_told.ensures in
    let text = c.loop-rest.rest.now in
    record {
      peels = line_peels (g.O.Objects.stands o) (g.O.Objects.name_of o) s.namer text c.loop-rest.tips.items (some_left text c.is_empty.ensures c.loop-rest-test.true) c.in-Some.object c.in-Some.name.now c.in-Some.behind.now c.in-Some.ensures
          (g.O.Objects.told o) s.sound c.loop-rest.invariant;
    }

pub loop-rest-smaller : goal.loop-rest-smaller
loop-rest-smaller g c = rest_shorter c.loop-rest.rest.now ((c.in-Some.name.now, c.in-Some.object.bytes), c.in-Some.behind.now) (sym c.in-Some.ensures)

pub loop-rest-preserved : goal.loop-rest-preserved
loop-rest-preserved g c =
    let o = c.args.objects.now in
    let s = c.sound_if_told.ensures in
    let text = c.loop-rest.rest.now in
    line_read (g.O.Objects.stands o) (g.O.Objects.name_of o) s.namer text c.loop-rest.tips.items (some_left text c.is_empty.ensures c.loop-rest-test.true) c.in-Some.object c.in-Some.name.now c.in-Some.behind.now c.in-Some.ensures
    (g.O.Objects.told o) (record { name = c.in-Some.name; object = c.in-Some.object; commit = c.in_ok-commit.commit; place = c.in_ok-place.place }) c.push.new.self.items refl refl c.in_ok-push.ensures.items
    s.sound c.loop-rest.invariant c.in_ok-commit.ensures.commit c.in_ok-commit.ensures.held c.in_ok-place.ensures.place

pub returns-clause-tips : goal.returns-clause-tips
returns-clause-tips g c =
    let o = c.args.objects.now in
    let text = c.loop-rest.rest.now in
    lines_end (g.O.Objects.stands o) (g.O.Objects.told o) text c.loop-rest.tips.items (none_left text c.is_empty.ensures c.loop-rest-test.false) c.loop-rest.invariant
