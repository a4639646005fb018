use Rattle.std.proofs.Common.{◌≡◌, ◌+◌, length, map}
use Rattle.std.specs.List.{filter}
use Rattle.std.specs.Prelude.{not}
use Rattle.gx_import.specs.Publishing.{published_count}
use Rattle.gx_import.specs.Rows.{row_of}
use Rattle.gx_import.specs.Standing.{is_published}
use Rattle.gx_import.proofs.publishing.published_refs.Given as goal

abbrev pub invariant-loop-name : goal.invariant-loop-name
invariant-loop-name g l =
    l.count + length (filter (λ row. not (is_published l.tables.branches row.0)) (map row_of l.name-iterator)) ≡ published_count l.tables
