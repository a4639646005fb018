use Rattle.std.proofs.Common.{◌≡◌, ◌++◌, map}
use Rattle.std.specs.List.{filter}
use Rattle.gx_repo.specs.Refs.{shown_update}
use Rattle.gx_import.specs.RefChanges.{due_tags, is_due, tag_changes}
use Rattle.gx_import.specs.Rows.{row_of}
use Rattle.gx_import.proofs.publishing.append_tags.Given as goal

abbrev pub invariant-loop-name : goal.invariant-loop-name
invariant-loop-name g l =
    map shown_update l.changes.items ++ filter (is_due l.tables.branches l.repo.1.refs) (tag_changes (map row_of l.name-iterator))
    ≡ map shown_update l.fn.changes.items ++ due_tags l.repo.1.refs l.tables
