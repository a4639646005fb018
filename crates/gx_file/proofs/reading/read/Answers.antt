use Rattle.gx_file.proofs.WantingHeads.{has_head, wants_less}
use Rattle.gx_file.proofs.reading.read.Goals as goal

pub returns-in-Ok-clause-memory : goal.returns-in-Ok-clause-memory
returns-in-Ok-clause-memory g c =
    wants_less c.read_text.result _ _ (has_head (g.N.Namer.name_of c.args.namer) c.args.text.now) (rw c.in-Ok.ensures at c.read_text.ensures.memory)
