use Rattle.std.proofs.Common.{sym, arith}
use Rattle.gx_rev.proofs.ParentPlaces.{past_rows}
use Rattle.gx_rev.proofs.parents.Parents.of.Goals as goal

pub returns-then-place-len : goal.returns-then-place-len
returns-then-place-len g c =
    let table = c.args.self.now in
    sym (past_rows table.rows.items table.places.items c.args.place (omega (arith, c.len.ensures, table.rows.ok, c.if-place-len.true)))
