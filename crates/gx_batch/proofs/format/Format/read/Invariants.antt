use Rattle.std.proofs.Common.{◌≡◌, ◌++◌, length}
use Rattle.std.specs.Option.{option_map}
use Rattle.gx_batch.specs.Formats.{format_of}
use Rattle.gx_batch.proofs.format.Format.read.Given as goal

abbrev pub invariant-loop-parts : goal.invariant-loop-parts
invariant-loop-parts g l = format_of l.text ≡ option_map (λ ps. l.parts.items ++ ps) (format_of l.rest)

abbrev pub decreases-loop-parts : goal.decreases-loop-parts
decreases-loop-parts g l = length l.rest
