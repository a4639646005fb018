use Rattle.std.proofs.Common.{ap, ◌∙◌}
use Rattle.gx_import.specs.declared.tables.Tables.{Tables}
use Rattle.gx_import.proofs.tables.Tables.set_tip.Goals as goal

pub returns-clause-others : goal.returns-clause-others
returns-clause-others g c =
    let branches = c.set.new.self in
    let at_hand = c.enter_tip.new.self.at_hand in
    let moved : Tables g.row.A.Denot → Tables g.row.A.Denot = λ t. record t { branches = branches } in
    let entered : Tables g.row.A.Denot → Tables g.row.A.Denot = λ t. record t { branches = branches; at_hand = at_hand } in
    ap moved c.enter_tip.ensures.others ∙ ap entered c.forget_tip-was_published.ensures.others
