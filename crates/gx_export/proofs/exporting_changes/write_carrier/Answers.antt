use Rattle.std.proofs.Common.{◌∙◌, [], ◌∷◌, cond, sym, subst, List, Ok}
use Rattle.gx_model.specs.Export.{carrier, items_text, to_nothing}
use Rattle.gx_model.specs.Streams.Commands.{Command}
use Rattle.gx_export.specs.Outputs.{Writes}
use Rattle.gx_export.specs.Texts.{items_of}
use Rattle.gx_export.proofs.Writing.{writes_none}
use Rattle.gx_export.proofs.exporting_changes.write_carrier.Goals as goal

pub returns-clause-text : goal.returns-clause-text
returns-clause-text g c = λ repository test h e.
    let none : List Command = [] in
    let left = sym c.if-reach_all.false ∙ c.reach_all.ensures repository test h e in
    subst (λ b. Writes c.args.output.now c.write_reset.new.output (items_text (items_of (cond b none (to_nothing carrier ∷ none)))) c.write_reset.result) left c.write_reset.ensures.text

pub returns-then-reach_all-clause-text : goal.returns-then-reach_all-clause-text
returns-then-reach_all-clause-text g c = λ repository test h e.
    let none : List Command = [] in
    let all = sym c.if-reach_all.true ∙ c.reach_all.ensures repository test h e in
    subst (λ b. Writes c.args.output.now c.args.output.now (items_text (items_of (cond b none (to_nothing carrier ∷ none)))) (Ok tt)) all (writes_none c.args.output.now)
