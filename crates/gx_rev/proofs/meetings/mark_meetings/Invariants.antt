use Rattle.std.proofs.Common.{◌+◌, Bool, List}
use Rattle.gx_model.specs.Histories.Values.{Commit}
use Rattle.gx_rev.specs.Ancestors.{behind_last}
use Rattle.gx_rev.specs.Meetings.{AreMeeting}
use Rattle.gx_rev.specs.Parents.{HoldsParents}
use Rattle.gx_rev.proofs.meetings.mark_meetings.Given as goal

abbrev pub invariant-loop-goes_on : goal.invariant-loop-goes_on
invariant-loop-goes_on g l = record {
  holds : HoldsParents l.repo.1 l.parents;
  meeting : (left right : Commit) (old : List Bool) → AreMeeting l.repo.1 left right old l.fn.marks l.fn.lefts.keys l.fn.rights.keys → AreMeeting l.repo.1 left right old l.marks l.lefts.keys l.rights.keys;
}

abbrev pub decreases-loop-goes_on : goal.decreases-loop-goes_on
decreases-loop-goes_on g l = behind_last l.lefts.keys + behind_last l.rights.keys
