use Rattle.gx_file.proofs.SentTexts.{held_whole}
use Rattle.gx_growing.specs.GrowingText.{tail_text}
use Rattle.gx_growing_file.specs.Sending.{runs_of}
use Rattle.gx_kept.proofs.layout.tail_of.Goals as goal

pub returns-in-Ok : goal.returns-in-Ok
returns-in-Ok g c = λ refs are spelled.
    held_whole c.new-tail.result c.send_tail.new.sink (tail_text (runs_of c.args.run) refs) c.into_bytes.result.items c.new-tail.ensures c.into_bytes.ensures (c.in-Ok.ensures refs are spelled)
