use Rattle.gx_model.proofs.Records.FirstRecords.{first_values, kept}
use Rattle.gx_model.proofs.Records.HeldNames.{published}
use Rattle.gx_model.proofs.repository_laws.parts_change.Goals as goal

pub returns : goal.returns
returns c = λ name namer. record {
  refs = published name namer;
  first = λ xs ys refs i h. (kept name xs ys refs i h, first_values xs ys refs);
}
