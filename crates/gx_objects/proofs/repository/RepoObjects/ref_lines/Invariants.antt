use Rattle.std.proofs.Common.{◌≡◌, ◌++◌}
use Rattle.std.specs.List.{flat_map}
use Rattle.gx_model.specs.Stores.StoreText.{stored_ref}
use Rattle.gx_objects.proofs.repository.RepoObjects.ref_lines.Given as goal

abbrev pub invariant-loop-name : goal.invariant-loop-name
invariant-loop-name g l =
    (goal.iterator-loop-name g).can_next l.name-iterator
    × (goal.iterator-loop-name g).is_finite l.name-iterator
    × (l.room.items ++ flat_map stored_ref l.name-iterator ≡ flat_map stored_ref l.self.1.refs)
