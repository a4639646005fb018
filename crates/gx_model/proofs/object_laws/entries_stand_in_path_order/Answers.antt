use Rattle.std.specs.Bool.{passes}
use Rattle.gx_model.proofs.Histories.PathOrder.{by_entry}
use Rattle.gx_model.proofs.object_laws.entries_stand_in_path_order.Goals as goal

pub returns : goal.returns
returns c = λ e f p q h g n k l. by_entry e f p q (passes _ h) (passes _ g) n k l
