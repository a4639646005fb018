use Rattle.std.proofs.Common.{subst}
use Rattle.gx_repo.specs.Reporting.{IsReport}
use Rattle.gx_cli.proofs.ReportedImports.{with_changes}
use Rattle.gx_cli.proofs.ref_report.with_report.Goals as goal

pub returns-in-Ok-clause-reported : goal.returns-in-Ok-clause-reported
returns-in-Ok-clause-reported g c =
    let told = c.in-Ok.report.items in
    let first = subst (λ refs. IsReport refs c.refs-2.result told) c.refs.ensures.held c.in-Ok.ensures in
    let both = subst (λ refs. IsReport c.args.before.now refs told) c.refs-2.ensures.held first in
    with_changes c.args.before.now c.args.next c.in-Some.repo c.in-Ok.report c.args.answer c.in-Some.is both
