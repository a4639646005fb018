use Rattle.std.specs.Bool.{passes}
use Rattle.gx_model.specs.Histories.{IsIn}
use Rattle.gx_model.proofs.Records.OneHistory.{told_by_name}
use Rattle.gx_model.proofs.ObjectTexts.OneTree.{one_tree}
use Rattle.gx_model.proofs.object_laws.trees_tell_maps.Goals as goal

pub returns : goal.returns
returns c = λ name namer vs d f g h k u v e. one_tree name namer (IsIn vs) (told_by_name name namer vs d) f g (passes _ h) (passes _ k) u v e
