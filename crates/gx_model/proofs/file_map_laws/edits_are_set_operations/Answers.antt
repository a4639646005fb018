use Rattle.std.proofs.Common.{refl}
use Rattle.std.specs.Bool.{passes}
use Rattle.gx_model.proofs.Histories.FileMapEdits.{parts_of}
use Rattle.gx_model.proofs.Histories.EditMeanings.{copy_means, copy_refused, modify_means, remove_means, rename_means, rename_refused}
use Rattle.gx_model.proofs.file_map_laws.edits_are_set_operations.Goals as goal

pub returns : goal.returns
returns c = record {
  modify = λ es p x h f. modify_means es p x (parts_of es h) (passes _ f);
  modify_root = λ es x. refl;
  remove = remove_means;
  copy = λ es s d h k. copy_means es s d (parts_of es h) (passes _ k);
  copy_refused = copy_refused;
  rename = λ es s d h k. rename_means es s d (parts_of es h) (passes _ k);
  rename_refused = rename_refused;
}
