use Rattle.std.specs.Bool.{passes}
use Rattle.gx_model.proofs.Texts.PathTests.{is_true}
use Rattle.gx_model.proofs.Pruning.PrunedHistories.{links_are_reached}
use Rattle.gx_model.proofs.Pruning.ReachableObjects.{least, tips_reached}
use Rattle.gx_model.proofs.pruning_laws.reachable_is_least.Goals as goal

pub returns : goal.returns
returns c = λ name namer. record {
  refs = λ r. tips_reached r.refs r.records;
  closed = λ r s held i k. links_are_reached name namer r s held i k;
  least = λ r set h k n t. is_true _ (least r.refs set r.records h k n (passes _ t));
}
