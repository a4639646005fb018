use Rattle.std.proofs.Common.{◌+◌, ap, refl, subst, arith, drop, drop_of_length-le}
use Rattle.gx_object.specs.Commits.{bytes_of_names}
use Rattle.gx_repo.proofs.PrunedRecords.{next_name}
use Rattle.gx_kept.proofs.ListedRecords.{within_listed}
use Rattle.gx_kept.proofs.SetMarks.{MarksListedSoFar, listed_all, listed_next, listed_none, listed_nowhere, listed_there}
use Rattle.gx_kept.proofs.marking.mark_names.Goals.{in-Some, in_default}
use Rattle.gx_kept.proofs.marking.mark_names.Goals as goal

pub loop-name-init : goal.loop-name-init
loop-name-init g c = (refl, listed_none c.args.listing.now (bytes_of_names c.args.names.now) c.args.marks.now)

pub bounds-marks-number : goal.bounds-marks-number
bounds-marks-number g c =
    let within = within_listed c.args.listing.now _ c.in-Some.number c.in-Some.ensures in
    omega (arith, c.loop-name.invariant.0, c.requires, within)

pub loop-name-preserved : goal.loop-name-preserved
loop-name-preserved g c =
    let listed = c.args.listing.now in
    let names = c.args.names.now in
    let i = c.loop-name.name-index in
    let so_far = subst (λ left. MarksListedSoFar listed (bytes_of_names names) left c.args.marks.now c.loop-name.marks) (next_name names i _ c.loop-name-test.true) c.loop-name.invariant.1 in (
      omega (arith, c.loop-name.invariant.0, c.match-number.auto.marks),
      elim c.match-number.branch [
        | in-Some w ↦ rw w.marks-is (listed_next listed (bytes_of_names names) (bytes_of_names (drop (i + 1) names)) _ c.args.marks.now c.loop-name.marks _ so_far (listed_there listed _ w.in-Some.number c.loop-name.marks w.in-Some.ensures))
        | in_default w ↦ rw w.marks-is (listed_next listed (bytes_of_names names) (bytes_of_names (drop (i + 1) names)) _ c.args.marks.now c.loop-name.marks _ so_far (listed_nowhere listed _ c.loop-name.marks w.in_default.ensures))
      ],
    )

pub returns-clause-marks : goal.returns-clause-marks
returns-clause-marks g c =
    let listed = c.args.listing.now in
    let names = c.args.names.now in
    listed_all listed (bytes_of_names names) c.args.marks.now c.loop-name.marks
    (subst (λ left. MarksListedSoFar listed (bytes_of_names names) left c.args.marks.now c.loop-name.marks) (ap bytes_of_names (drop_of_length-le names c.loop-name-test.false)) c.loop-name.invariant.1)
