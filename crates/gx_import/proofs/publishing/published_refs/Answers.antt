use Rattle.std.proofs.Common.{arith}
use Rattle.std.specs.Prelude.{not}
use Rattle.gx_import.specs.Standing.{is_published}
use Rattle.gx_import.proofs.CountedRows.{fewer_pass}
use Rattle.gx_import.proofs.publishing.published_refs.Goals as goal

pub overflow_add-count : goal.overflow_add-count
overflow_add-count g c =
    let tables = c.args.tables.now in
    omega (arith, c.loop-name.invariant, c.count_published-count.ensures.count, c.count_published-count.ensures.small, c.iter-name-items.ensures.small, fewer_pass (λ row. not (is_published tables.branches row.0)) tables.tags)
