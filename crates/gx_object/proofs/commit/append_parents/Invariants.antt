use Rattle.std.proofs.Common.{◌≡◌, ◌++◌, map, take, true}
use Rattle.std.specs.List.{list_all}
use Rattle.gx_model.specs.Objects.{is_name}
use Rattle.gx_object.specs.Commits.{parent_lines}
use Rattle.gx_object.proofs.commit.append_parents.Given as goal

abbrev pub invariant-loop-parent : goal.invariant-loop-parent
invariant-loop-parent g l =
    (l.body.items ≡ l.fn.body.items ++ parent_lines (map (λ n. n.bytes) (take l.parent-index l.parents))) × (list_all is_name (map (λ n. n.bytes) (take l.parent-index l.parents)) ≡ true)
