use Rattle.std.proofs.Common.{◌∷◌}
use Rattle.std.specs.List.{flat_map}
use Rattle.std.proofs.Common.{take}
use Rattle.gx_model.specs.Texts.Paths.{printed_byte}
use Rattle.gx_text.proofs.Printing.{keep_front}
use Rattle.gx_text.proofs.printed.put_quoted.Goals as goal

pub returns-in_err-put_byte-clause-front : goal.returns-in_err-put_byte-clause-front
returns-in_err-put_byte-clause-front g c = keep_front c.args.out.now.items (34 ∷ flat_map printed_byte (take c.loop-b.b-index c.args.text.now)) c.loop-b.out.items c.put_byte.new.out.items c.loop-b.invariant c.put_byte.ensures.front
