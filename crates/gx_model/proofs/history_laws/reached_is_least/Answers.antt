use Rattle.std.specs.Bool.{passes}
use Rattle.gx_model.proofs.Texts.PathTests.{is_true}
use Rattle.gx_model.proofs.Histories.ReachedCommits.{itself, closed, least}
use Rattle.gx_model.proofs.history_laws.reached_is_least.Goals as goal

pub returns : goal.returns
returns x = record {
  itself = λ c. is_true _ (itself c);
  closed = λ c d p h k. is_true _ (closed c d p (passes _ h) k);
  least = λ P c h f d k. is_true _ (least P (λ e p i j. passes _ (f e p (is_true _ i) j)) c d (passes _ h) (passes _ k));
}
