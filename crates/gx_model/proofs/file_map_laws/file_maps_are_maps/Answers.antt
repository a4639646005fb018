use Rattle.std.proofs.Common.{◌∷◌, ◌++◌}
use Rattle.std.specs.Bool.{passes}
use Rattle.gx_model.proofs.Texts.PathTests.{left_or}
use Rattle.gx_model.proofs.Histories.FileMapEdits.{parts_of}
use Rattle.gx_model.proofs.Histories.SameFileMaps.{one_in_line, rising, same_maps}
use Rattle.gx_model.proofs.file_map_laws.file_maps_are_maps.Goals as goal

pub returns : goal.returns
returns c = record {
  same = λ es fs h k e. same_maps es fs (parts_of es h) (parts_of fs k) e;
  rising = λ before between after e f h. rising before between after e f (parts_of (before ++ e ∷ between ++ f ∷ after) h).sorted;
  apart = λ es p q h k l b. one_in_line es p q (parts_of es h).apart (passes _ k) (passes _ l) (left_or _ _ (passes _ b));
}
