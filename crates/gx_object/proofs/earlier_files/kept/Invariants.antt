use Rattle.std.proofs.Common.{◌≡◌, ◌≤◌, ◌∷◌, List}
use Rattle.gx_model.specs.Objects.{Entry as TreeEntry}
use Rattle.gx_object.specs.Order.{meets_any}
use Rattle.gx_object.proofs.earlier_files.kept.Given as goal

abbrev pub invariant-loop-rest : goal.invariant-loop-rest
invariant-loop-rest l = record {
  within : l.rest ≤ l.above;
  met : (f : TreeEntry) → f.component ≡ l.next → (others : List TreeEntry) → meets_any l.rest l.is_file l.first (f ∷ others) ≡ meets_any l.above l.is_file l.first (f ∷ others);
}

abbrev pub decreases-loop-rest : goal.decreases-loop-rest
decreases-loop-rest l = l.rest
