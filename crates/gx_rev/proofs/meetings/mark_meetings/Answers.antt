use Rattle.std.proofs.Common.{subst, sym}
use Rattle.gx_rev.specs.Meetings.{GoesDown, reach_both}
use Rattle.gx_rev.specs.Tips.{AddsTips}
use Rattle.gx_rev.proofs.MeetingWalks.{all_met}
use Rattle.gx_rev.proofs.meetings.mark_meetings.Goals as goal

pub go_down-requires-clause-meeting : goal.go_down-requires-clause-meeting
go_down-requires-clause-meeting g c = let m = c.requires.meeting in (m.0, m.1, m.2, c.loop-goes_on.invariant.meeting m.0 m.1 m.2 m.3)

pub returns-then-not-goes_on-clause-marks : goal.returns-then-not-goes_on-clause-marks
returns-then-not-goes_on-clause-marks g c = λ a b old m.
    let r = c.args.repo.now.1 in
    let new = c.go_down.new in
    let l = c.loop-goes_on in
    let down = subst (GoesDown r l.lefts.keys l.rights.keys l.marks new.lefts.keys new.rights.keys new.marks) c.if-not-goes_on.true c.in_ok-goes_on.ensures.down in
    subst (AddsTips r (reach_both a b) old) (sym down.1)
    (all_met (g.N.Namer.name_of c.args.repo.now.0) (g.met.N.Namer.is_namer c.args.repo.now.0) r c.sound.ensures a b old l.marks l.lefts.keys l.rights.keys down.0 (l.invariant.meeting a b old m))

pub loop-goes_on-preserved : goal.loop-goes_on-preserved
loop-goes_on-preserved g c =
    let r = c.args.repo.now.1 in
    let new = c.go_down.new in
    let l = c.loop-goes_on in
    let down = subst (GoesDown r l.lefts.keys l.rights.keys l.marks new.lefts.keys new.rights.keys new.marks) c.if-not-goes_on.false c.in_ok-goes_on.ensures.down in
    record {
      holds = c.in_ok-goes_on.ensures.holds;
      meeting = λ a b old m. down.0 a b old (l.invariant.meeting a b old m);
    }
