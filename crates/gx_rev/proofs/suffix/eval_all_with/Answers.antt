use Rattle.std.proofs.Common.{ap, map, drop_of_length-le, ◌∙◌}
use Rattle.gx_model.specs.Revisions.Denotation.{all_suffixed}
use Rattle.gx_rev.specs.Objects.{value_at}
use Rattle.gx_rev.specs.Views.{shown_suffix}
use Rattle.gx_rev.proofs.Suffixes.{next_suffixed}
use Rattle.gx_rev.proofs.suffix.eval_all_with.Goals as goal

pub loop-suffix-preserved : goal.loop-suffix-preserved
loop-suffix-preserved g c = record {
  held = c.in_ok-object.ensures.held;
  walk = c.in_ok-object.ensures.walk;
  same = next_suffixed (all_suffixed (value_at c.args.repo.now.1 c.args.name.now) (map shown_suffix c.args.suffixes.now)) _ _ c.args.suffixes.now c.loop-suffix.suffix-index _ c.loop-suffix-test.true c.in_ok-object.ensures.value c.loop-suffix.invariant.same;
}

pub returns-clause-value : goal.returns-clause-value
returns-clause-value g c =
    c.loop-suffix.invariant.same
    ∙ ap (λ ss. all_suffixed (value_at c.args.repo.now.1 c.loop-suffix.object) (map shown_suffix ss)) (drop_of_length-le c.args.suffixes.now c.loop-suffix-test.false)
