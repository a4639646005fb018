use Rattle.std.proofs.Common.{subst, sym}
use Rattle.sha2.specs.Sha256.{sha256}
use Rattle.gx_model.specs.Texts.{Bytes}
use Rattle.gx_file.proofs.SentTexts.{held_whole}
use Rattle.gx_growing.specs.GrowingText.{growing_text}
use Rattle.gx_growing_file.specs.Grown.{IsGrownFrom}
use Rattle.gx_growing_file.proofs.sending.write.Goals as goal

pub returns-in-Ok-clause-text : goal.returns-in-Ok-clause-text
returns-in-Ok-clause-text g c =
    held_whole c.new-sink.result c.write_to.new.sink (growing_text sha256 c.args.repo.now.1) c.into_bytes.result.items c.new-sink.ensures c.into_bytes.ensures c.in-Ok.ensures.text

pub returns-in-Ok-clause-read : goal.returns-in-Ok-clause-read
returns-in-Ok-clause-read g c =
    let whole = held_whole c.new-sink.result c.write_to.new.sink (growing_text sha256 c.args.repo.now.1) c.into_bytes.result.items c.new-sink.ensures c.into_bytes.ensures c.in-Ok.ensures.text in
    subst (λ (t : Bytes). IsGrownFrom g.N.Namer.name_of t c.args.repo.now) (sym whole) c.in-Ok.ensures.read
