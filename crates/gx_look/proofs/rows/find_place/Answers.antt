use Rattle.std.proofs.Common.{Option, [], get_or, subst}
use Rattle.gx_rows.specs.Rows.{FindsIn}
use Rattle.gx_rows.specs.declared.finding.Found.{Found}
use Rattle.gx_growing_parts.specs.declared.runs.Run.{Run}
use Rattle.gx_look.proofs.RowsOfRuns.{found_at, none_at}
use Rattle.gx_look.proofs.rows.find_place.Goals as goal

pub returns-in-Some : goal.returns-in-Some
returns-in-Some g c =
    let told = g.S.ReadAt.text c.args.source.now in
    let nothing : Run = record { place = 0; count = 0; digest = [] } in
    let run = get_or c.args.runs.now c.loop-run.run-index nothing in
    let found = subst (λ (o : Option Found). FindsIn told run.place run.count c.args.name.now.bytes o) c.in-Some.is c.in_ok-found.ensures in
    found_at told c.args.runs.now c.loop-run.run-index nothing c.args.name.now.bytes c.loop-run-test.true c.in-Some.found found

pub loop-run-preserved : goal.loop-run-preserved
loop-run-preserved g c =
    let told = g.S.ReadAt.text c.args.source.now in
    let nothing : Run = record { place = 0; count = 0; digest = [] } in
    let run = get_or c.args.runs.now c.loop-run.run-index nothing in
    let none = subst (λ (o : Option Found). FindsIn told run.place run.count c.args.name.now.bytes o) c.in_default.is c.in_ok-found.ensures in
    none_at told c.args.runs.now c.loop-run.run-index nothing c.args.name.now.bytes c.loop-run-test.true c.loop-run.invariant none
