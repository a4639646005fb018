use Rattle.gx_rows.proofs.finding.first_from.Goals as goal

pub end_of_front-requires-clause-rows : goal.end_of_front-requires-clause-rows
end_of_front-requires-clause-rows g c = c.empty-block.ensures (g.S.ReadAt.text c.args.source.now) c.args.table.at
