use Rattle.gx_repo.proofs.ReportedRefs.{next_if_less, next_if_none_after, next_if_none_before, next_if_not_less, next_seen}
use Rattle.gx_repo.proofs.reporting.next_name.Goals as goal

pub returns-in_default-clause-first : goal.returns-in_default-clause-first
returns-in_default-clause-first g c =
    next_seen c.before-2.inside.rest.now c.after.inside.rest.now c.args.before.now c.args.after.now c.as_slice.result.now c.before-2.view_is c.after.view_is
    (next_if_none_before c.before-2.inside.rest.now c.after.inside.rest.now c.in_ok-first.field-0.now c.as_slice.result.now c.in_default.ensures.value c.in_ok-first.ensures.value c.as_slice.ensures.value)

pub returns-in_default-first-clause-first : goal.returns-in_default-first-clause-first
returns-in_default-first-clause-first g c =
    next_seen c.before-2.inside.rest.now c.after.inside.rest.now c.args.before.now c.args.after.now c.as_slice-in_default-first.result.now c.before-2.view_is c.after.view_is
    (next_if_none_after c.before-2.inside.rest.now c.after.inside.rest.now c.in-Some.held.now c.as_slice-in_default-first.result.now c.in-Some.ensures.value c.in_default-first.ensures.value c.as_slice-in_default-first.ensures.value)

pub returns-then-lt-clause-first : goal.returns-then-lt-clause-first
returns-then-lt-clause-first g c =
    next_seen c.before-2.inside.rest.now c.after.inside.rest.now c.args.before.now c.args.after.now c.as_slice-then-lt.result.now c.before-2.view_is c.after.view_is
    (next_if_less c.in-Some.held.now c.in-Some-first.holds.now c.as_slice-then-lt.result.now c.as_slice-2.result.now c.as_slice-3.result.now c.lt.result c.as_slice-2.ensures.value c.as_slice-3.ensures.value c.lt.ensures
    c.before-2.inside.rest.now c.after.inside.rest.now c.in-Some.ensures.value c.in-Some-first.ensures.value c.as_slice-then-lt.ensures.value c.if-lt.true)

pub returns-else-lt-clause-first : goal.returns-else-lt-clause-first
returns-else-lt-clause-first g c =
    next_seen c.before-2.inside.rest.now c.after.inside.rest.now c.args.before.now c.args.after.now c.as_slice-else-lt.result.now c.before-2.view_is c.after.view_is
    (next_if_not_less c.in-Some.held.now c.in-Some-first.holds.now c.as_slice-else-lt.result.now c.as_slice-2.result.now c.as_slice-3.result.now c.lt.result c.as_slice-2.ensures.value c.as_slice-3.ensures.value c.lt.ensures
    c.before-2.inside.rest.now c.after.inside.rest.now c.in-Some.ensures.value c.in-Some-first.ensures.value c.as_slice-else-lt.ensures.value c.if-lt.false)
