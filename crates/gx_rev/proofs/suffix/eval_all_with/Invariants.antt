use Rattle.std.proofs.Common.{◌≡◌, drop, map}
use Rattle.gx_model.specs.Revisions.Denotation.{all_suffixed}
use Rattle.gx_rev.specs.FirstParents.{AreFirstParents}
use Rattle.gx_rev.specs.Objects.{IsHeld, value_at}
use Rattle.gx_rev.specs.Views.{shown_suffix}
use Rattle.gx_rev.proofs.suffix.eval_all_with.Given as goal

abbrev pub invariant-loop-suffix : goal.invariant-loop-suffix
invariant-loop-suffix g l = record {
  held : IsHeld l.repo.1 l.object;
  walk : AreFirstParents l.repo.1 l.first_parents;
  same : all_suffixed (value_at l.repo.1 l.fn.name) (map shown_suffix l.suffixes) ≡ all_suffixed (value_at l.repo.1 l.object) (map shown_suffix (drop l.suffix-index l.suffixes));
}
