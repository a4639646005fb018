use Rattle.std.proofs.Common.{ap}
use Rattle.gx_model.specs.Revisions.{base_and_suffixes, suffixes_of}
use Rattle.gx_rev.proofs.Suffixes.{last_suffix, next_suffix}
use Rattle.gx_rev.proofs.revision.read_suffixes.Goals as goal

pub loop-mark-preserved : goal.loop-mark-preserved
loop-mark-preserved g c = record {
  front = ap (λ x. x.0) c.cut_base.ensures.suffixes;
  read = next_suffix (suffixes_of (base_and_suffixes c.args.text.now).1) _ _ _ c.cut_base.result.1.now _ _ _ _ c.in-Some.ensures.cases.0 c.loop-mark.invariant.front c.cut_base.ensures.base c.cut_base.ensures.suffixes
      c.in_ok-suffix.ensures.suffix c.in-Ok.ensures.items c.loop-mark.invariant.read;
}

pub returns-clause-suffixes : goal.returns-clause-suffixes
returns-clause-suffixes g c = last_suffix (suffixes_of (base_and_suffixes c.args.text.now).1) _ _ c.in_default.ensures.cases c.loop-mark.invariant.read
