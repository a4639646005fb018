use Rattle.std.specs.Bool.{passes}
use Rattle.std.proofs.lemmas.Result.{IfOk-weaker}
use Rattle.gx_model.specs.Histories.Edits.{modified, copied, renamed}
use Rattle.gx_model.proofs.Histories.FileMapEdits.{parts_of, of_parts, modified_parts, removed_parts, copied_parts, renamed_parts}
use Rattle.gx_model.proofs.file_map_laws.edits_keep_file_maps.Goals as goal

pub returns : goal.returns
returns c = record {
  modify = λ es p x h f. IfOk-weaker (modified es p x) _ _ of_parts (modified_parts es p x (passes _ f) (parts_of es h));
  remove = λ es p h. of_parts _ (removed_parts es p (parts_of es h));
  copy = λ es s d h k. IfOk-weaker (copied es s d) _ _ of_parts (copied_parts es s d (passes _ k) (parts_of es h));
  rename = λ es s d h k. IfOk-weaker (renamed es s d) _ _ of_parts (renamed_parts es s d (passes _ k) (parts_of es h));
}
