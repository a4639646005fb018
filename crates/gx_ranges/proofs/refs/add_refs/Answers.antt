use Rattle.std.proofs.Common.{sym}
use Rattle.gx_ranges.proofs.RefLines.{line_added, line_peels, line_told, lines_end, none_left, rest_shorter, some_left}
use Rattle.gx_ranges.proofs.refs.add_refs.Goals as goal

pub returns-in_default-clause-fault : goal.returns-in_default-clause-fault
returns-in_default-clause-fault g c =
    let o = c.args.objects.now in
    let s = c.sound_if_told.ensures in
    let text = c.loop-rest.rest.now in
    line_told (g.O.Objects.name_of o) s.namer (g.O.Objects.stands o) c.args.front.now.entries text c.loop-rest.front.entries (some_left text (c.is_empty.ensures) c.loop-rest-test.true) (g.O.Objects.told o) c.in_default.ensures s.sound c.loop-rest.invariant

pub peeled-requires : goal.peeled-requires
peeled-requires g c =
    let o = c.args.objects.now in
    let s = c.sound_if_told.ensures in
    let text = c.loop-rest.rest.now in
    record { peels = line_peels (g.O.Objects.name_of o) s.namer (g.O.Objects.stands o) c.args.front.now.entries text c.loop-rest.front.entries (some_left text (c.is_empty.ensures) c.loop-rest-test.true) c.in-Some.object c.in-Some.field-0-1.now c.in-Some.behind.now c.in-Some.ensures (g.O.Objects.told o) s.sound c.loop-rest.invariant }

pub loop-rest-smaller : goal.loop-rest-smaller
loop-rest-smaller g c = rest_shorter c.loop-rest.rest.now ((c.in-Some.field-0-1.now, c.in-Some.object.bytes), c.in-Some.behind.now) (sym c.in-Some.ensures)

pub loop-rest-preserved : goal.loop-rest-preserved
loop-rest-preserved g c =
    let o = c.args.objects.now in
    let s = c.sound_if_told.ensures in
    let text = c.loop-rest.rest.now in
    line_added (g.O.Objects.name_of o) s.namer (g.O.Objects.stands o) c.args.front.now.entries text c.loop-rest.front.entries (some_left text (c.is_empty.ensures) c.loop-rest-test.true) c.in-Some.object c.in-Some.field-0-1.now c.in-Some.behind.now c.in-Some.ensures
    (g.O.Objects.told o) c.in_ok-commit.commit c.add.new.front.entries s.sound c.loop-rest.invariant c.in_ok-commit.ensures.commit c.in_ok-add.ensures.adds

pub returns-clause-adds : goal.returns-clause-adds
returns-clause-adds g c =
    let o = c.args.objects.now in
    let text = c.loop-rest.rest.now in
    lines_end (g.O.Objects.name_of o) c.sound_if_told.ensures.namer (g.O.Objects.stands o) c.args.front.now.entries (g.O.Objects.told o) text c.loop-rest.front.entries (none_left text (c.is_empty.ensures) c.loop-rest-test.false) c.loop-rest.invariant
