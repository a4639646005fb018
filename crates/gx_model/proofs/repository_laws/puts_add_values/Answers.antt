use Rattle.gx_model.specs.Records.HistoryOf.{history_of}
use Rattle.gx_model.proofs.Records.GrownRecords.{no_values, put_grows, puts_add, puts_grow, whole_of}
use Rattle.gx_model.proofs.Records.GrownTrees.{alone_added}
use Rattle.gx_model.proofs.Records.HistoriesExist.{stands}
use Rattle.gx_model.proofs.repository_laws.puts_add_values.Goals as goal

pub returns : goal.returns
returns c = λ name namer. record {
  adds = puts_add name namer;
  grew = λ r i ws a rs e. let g = puts_grow name namer r i ws a rs e in record { sound = g.sound; history = g.history };
  clash = no_values name;
  one = put_grows name namer;
  alone = λ r i v h n. alone_added (history_of r).values (whole_of name namer (history_of r) (stands name namer r i).history) v h n;
}
