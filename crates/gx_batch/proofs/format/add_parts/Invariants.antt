use Rattle.std.proofs.Common.{◌≡◌, ◌++◌, drop}
use Rattle.std.specs.List.{flat_map}
use Rattle.gx_batch.specs.Formats.{part_text}
use Rattle.gx_batch.proofs.format.add_parts.Given as goal

abbrev pub invariant-loop-part : goal.invariant-loop-part
invariant-loop-part g l =
    let gives = part_text l.name.bytes l.kind l.size in
    l.line.items ++ flat_map gives (drop l.part-index l.parts) ≡ l.fn.line.items ++ flat_map gives l.parts
