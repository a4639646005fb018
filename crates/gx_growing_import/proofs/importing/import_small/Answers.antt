use Rattle.std.proofs.Common.{rules, ◌≤◌, ◌-◌, ◌^◌, Ok, Some, length, subst, sym}
use Rattle.gx_import.specs.Imports.{Imports, StandsForReplay}
use Rattle.gx_growing_import.specs.Importing.{TakesText}
use Rattle.gx_growing_import.proofs.TakenTexts.{takes_text}
use Rattle.gx_growing_import.proofs.importing.import_small.Goals as goal

pub returns-clause-takes : goal.returns-clause-takes
returns-clause-takes g c =
    let name = g.N.Namer.name_of c.args.small.now.0 in
    let asks = c.args.features in
    let old = c.args.small.now.1 in
    let new = c.import_explained.new.repo.1 in
    let now = c.import_explained.new.sink in
    let report = c.in_ok-report.report in
    let text = c.args.stream.now in
    let short : length text ≤ 2 ^ 63 - 1 = search rules in
    let of_source = subst (λ coming. Imports asks name old new (Some coming) (Some c.new-progress.result) (Some now) (Ok report)) c.new-source.ensures.coming c.in_ok-report.ensures.replayed in
    let imports = subst (λ was. Imports asks name old new (Some (record { bytes = text; fails = c.args.fails })) (Some was) (Some now) (Ok report)) c.new-progress.ensures of_source in
    let stands = subst (λ coming. StandsForReplay asks name old new (Some coming)) c.new-source.ensures.coming c.in_ok-report.ensures.stands in
    subst (λ progress. TakesText name asks old new text c.args.fails progress report) (sym c.into_bytes.ensures)
    (takes_text name asks old new text c.args.fails now report short imports stands)
