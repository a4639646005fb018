use Rattle.std.proofs.Common.{◌++◌, ◌∙◌, sym, subst}
use Rattle.gx_repo.specs.Reporting.{behind, line_where_they_differ, where_they_differ}
use Rattle.gx_repo.proofs.ReportedRefs.{IsReportedTo, reported_all, reported_next, reported_none}
use Rattle.gx_repo.proofs.reporting.put_changes.Goals as goal

pub loop-name-init : goal.loop-name-init
loop-name-init g c = reported_none c.args.before c.args.after c.args.report.now.items c.requires.empty

pub loop-name-preserved : goal.loop-name-preserved
loop-name-preserved g c =
    let old = c.args.before in
    let new = c.args.after in
    let before = c.loop-name.before in
    let after = c.loop-name.after in
    let n = c.in-Some.name.now in
    let line = c.in_ok-put_change.ensures ∙ (λ i. c.loop-name.report.items ++ line_where_they_differ n (where_they_differ (c.take_object-old.ensures.object i) (c.take_object-new.ensures.object i))) in
    subst (λ rs. IsReportedTo old new rs c.take_object-new.new.refs c.put_change.new.report.items) (sym c.take_object-old.ensures.behind)
    (subst (λ rs. IsReportedTo old new (behind before n) rs c.put_change.new.report.items) (sym c.take_object-new.ensures.behind)
    (reported_next old new before after c.loop-name.report.items c.put_change.new.report.items n c.loop-name.invariant c.in-Some.ensures.before c.in-Some.ensures.after c.in-Some.ensures.first line))

pub returns : goal.returns
returns g c = reported_all c.args.before c.args.after c.loop-name.before c.loop-name.after c.loop-name.report.items c.loop-name.invariant c.in_default.ensures.first.0 c.in_default.ensures.first.1
