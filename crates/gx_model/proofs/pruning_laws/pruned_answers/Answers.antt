use Rattle.gx_model.proofs.Pruning.PrunedAnswers.{by_ref, same_base, same_range, same_ref, same_revision}
use Rattle.gx_model.proofs.pruning_laws.pruned_answers.Goals as goal

pub returns : goal.returns
returns c = λ name namer. record {
  refs = same_ref name namer;
  by_ref = by_ref name namer;
  bases = same_base name namer;
  revisions = same_revision name namer;
  ranges = same_range name namer;
}
