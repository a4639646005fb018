use Rattle.gx_model.specs.Revisions.Denotation.{ref_names}
use Rattle.gx_model.proofs.Records.FoundRecords.{commits_found, digits_find, first_found}
use Rattle.gx_model.proofs.repository_laws.records_are_found.Goals as goal

pub returns : goal.returns
returns c = λ name namer. record {
  refs = λ r n. first_found r (ref_names n);
  digits = digits_find name namer;
  commits = commits_found name namer;
}
