use Rattle.std.proofs.Common.{rules, ◌≡◌, Option, Some, None, subst}
use Rattle.gx_rows.specs.Rows.{StandsAsRow}
use Rattle.gx_rows.specs.declared.row.Row.{Row}
use Rattle.gx_rows.proofs.Parting.{found_none, found_other}
use Rattle.gx_rows.proofs.finding.find_row.Goals as goal

pub end_of_front-requires-clause-rows : goal.end_of_front-requires-clause-rows
end_of_front-requires-clause-rows g c = c.empty-block.ensures (g.S.ReadAt.text c.args.source.now) c.args.table.at

pub returns-in_default : goal.returns-in_default
returns-in_default g c =
    let told = g.S.ReadAt.text c.args.source.now in
    let none : c.in_ok-held.field-0 ≡ None = search rules in
    let past = subst (λ (held : Option Row). StandsAsRow told c.args.table.at c.args.table.count c.in_ok-row.row held) none c.in_ok-held.ensures.row in
    found_none told c.args.table.at c.args.table.count c.args.name.now c.in_ok-row.row c.in_ok-row.ensures.front past

pub returns-then-ne : goal.returns-then-ne
returns-then-ne g c =
    let told = g.S.ReadAt.text c.args.source.now in
    let some : c.in_ok-held.field-0 ≡ Some c.in-Some.held = search rules in
    let stands = subst (λ (held : Option Row). StandsAsRow told c.args.table.at c.args.table.count c.in_ok-row.row held) some c.in_ok-held.ensures.row in
    let other : c.in-Some.held.name ≡ c.args.name.now → ⊥ = search rules in
    found_other told c.args.table.at c.args.table.count c.args.name.now c.in_ok-row.row c.in-Some.held c.in_ok-row.ensures.front stands.0 stands.1 other
