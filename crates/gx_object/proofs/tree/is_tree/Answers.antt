use Rattle.std.proofs.Common.{ap, arith}
use Rattle.std.specs.Option.{is_some}
use Rattle.gx_object.proofs.Readings.{reader_is}
use Rattle.gx_object.proofs.tree.is_tree.Goals as goal

pub loop-init : goal.loop-init
loop-init c = ap is_some (reader_is c.args.body.now c.new-reader.result.entries (λ i. let fits = c.type_inv.body i in omega arith) c.new-reader.ensures.found c.new-reader.ensures.only)
