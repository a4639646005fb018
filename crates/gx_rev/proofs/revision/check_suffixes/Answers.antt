use Rattle.std.proofs.Common.{[], ◌∷◌, ◌++◌, ap, refl}
use Rattle.gx_model.specs.Revisions.{base_and_suffixes, suffixes_of}
use Rattle.gx_rev.proofs.Answers.{right}
use Rattle.gx_rev.proofs.Suffixes.{last_suffix, next_suffix}
use Rattle.gx_rev.proofs.revision.check_suffixes.Goals as goal

pub loop-mark-preserved : goal.loop-mark-preserved
loop-mark-preserved c = record {
  front = ap (λ x. x.0) c.cut_base.ensures.suffixes;
  read = (
    c.loop-mark.invariant.read.0 ++ c.in_ok-_suffix._suffix ∷ [],
    next_suffix (suffixes_of (base_and_suffixes c.args.text.now).1) _ _ _ c.cut_base.result.1.now _ c.loop-mark.invariant.read.0 _ _ c.in-Some.ensures.cases.0 c.loop-mark.invariant.front c.cut_base.ensures.base c.cut_base.ensures.suffixes
        c.in_ok-_suffix.ensures.suffix refl c.loop-mark.invariant.read.1,
  );
}

pub returns-clause-right : goal.returns-clause-right
returns-clause-right c = right _ _ (last_suffix (suffixes_of (base_and_suffixes c.args.text.now).1) _ _ c.in_default.ensures.cases c.loop-mark.invariant.read.1)
