use Rattle.std.proofs.Common.{take, Ok}
use Rattle.std.specs.List.{flat_map}
use Rattle.gx_export.specs.Outputs.{Writes}
use Rattle.gx_export.proofs.output.Output.write_all.Given as goal

abbrev pub invariant-loop-part : goal.invariant-loop-part
invariant-loop-part g l = Writes l.fn.self l.self (flat_map (λ part. part.now) (take l.part-index l.parts)) (Ok tt)
