use Rattle.std.proofs.Common.{◌≡◌, ◌+◌, ◌*◌, ◌-◌, ◌≤◌, take, drop, length, ap, arith}
use Rattle.gx_rows.proofs.Standing.{row_stands}
use Rattle.gx_rows.proofs.block.Block.row.Goals as goal

pub returns-clause-row : goal.returns-clause-row
returns-clause-row g c =
    let block = c.bring.new.self in
    let rows = c.in_ok-bring.ensures.rows in
    let start = (c.args.row - block.first) * 28 in
    let short : (start + 28) - start ≡ 28 = omega arith in
    let fits : 28 * block.count ≤ length block.bytes = omega (arith, rows.few, rows.long) in
    row_stands c.args.table.at block.first block.count c.args.row block.bytes c.in_ok-bring.ensures.first c.in_ok-bring.ensures.last fits (g.S.ReadAt.text c.args.source.now) c.read.result (take ((start + 28) - start) (drop start block.bytes)) (ap (λ k. take k (drop start block.bytes)) short) rows.stand c.read.ensures.name c.read.ensures.place
