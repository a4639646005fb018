use Rattle.std.proofs.Common.{◌∙◌, ap, sym}
use Rattle.std.specs.Bool.{passes}
use Rattle.gx_model.specs.Records.Growth.{tree_records}
use Rattle.gx_model.specs.Records.HistoryOf.{contents_of, history_of, named_values}
use Rattle.gx_model.proofs.Records.GrownRecords.{whole_of}
use Rattle.gx_model.proofs.Records.GrownTrees.{trees_fold, trees_named, trees_ready}
use Rattle.gx_model.proofs.Records.HeldNames.{contents}
use Rattle.gx_model.proofs.Records.HistoriesExist.{stands}
use Rattle.gx_model.proofs.repository_laws.trees_add_file_maps.Goals as goal

pub returns : goal.returns
returns c = λ name namer r i g h.
    let f = contents_of (named_values r.records) g in
    let a = contents name namer r i g h in
    record {
      content = a.content;
      named = a.same;
      known = a.known;
      records = ap (tree_records name) (sym a.same) ∙ trees_named name f;
      ready = trees_ready (history_of r).values f (whole_of name namer (history_of r) (stands name namer r i).history) (passes _ a.content) a.known;
      added = sym (trees_fold (history_of r).values f);
    }
