use Rattle.std.proofs.Common.{ap}
use Rattle.gx_model.specs.Records.HistoryOf.{history_of}
use Rattle.gx_model.specs.Records.{name_of}
use Rattle.gx_model.proofs.Records.GrownRecords.{distinct_of}
use Rattle.gx_model.proofs.Records.HeldNames.{finds, value_found}
use Rattle.gx_model.proofs.Records.HistoriesExist.{stands}
use Rattle.gx_model.proofs.Records.OneHistory.{told_by_name}
use Rattle.gx_model.proofs.repository_laws.names_tell_values.Goals as goal

pub returns : goal.returns
returns c = λ name namer. record {
  same = λ r i v w j k. (told_by_name name namer (history_of r).values (distinct_of name namer r (history_of r) (stands name namer r i)) v w j k, ap (name_of name));
  of_record = finds name namer;
  of_value = value_found name namer;
}
