use Rattle.gx_growing.specs.GrowingText.{growing_text}
use Rattle.gx_growing.proofs.OnlyTexts.{growing_only}
use Rattle.gx_growing.proofs.ReadTexts.{growing_read}
use Rattle.gx_growing.proofs.WrittenTexts.{growing_written}
use Rattle.gx_growing.proofs.growing_laws.growing_is_read.Goals as goal

pub returns : goal.returns
returns c = λ name namer. record {
  only = λ digest digester text r e. growing_only name namer digest text r e;
  read = λ digest digester text r g l. growing_read name namer digest digester text r g l;
  written = λ digest digester r i l. growing_read name namer digest digester (growing_text digest r) r (growing_written name namer digest digester r i l) l;
}
