use Rattle.std.proofs.Common.{◌≡◌, ◌++◌, codes, length}
use Rattle.std.specs.List.{flat_map}
use Rattle.gx_model.specs.Objects.{line}
use Rattle.gx_model.specs.Texts.Numbers.{number_text}
use Rattle.gx_model.specs.Stores.StoreText.{stored_ref}
use Rattle.gx_additions.proofs.parts.put_refs.Given as goal

abbrev pub invariant-loop-name : goal.invariant-loop-name
invariant-loop-name g l =
    (goal.iterator-loop-name g).can_next l.name-iterator
    × (goal.iterator-loop-name g).is_finite l.name-iterator
    × (l.bytes.items ++ flat_map stored_ref l.name-iterator ≡ l.fn.bytes.items ++ (line (codes "refs") (number_text (length l.repo.1.refs)) ++ flat_map stored_ref l.repo.1.refs))
