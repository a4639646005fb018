use Rattle.std.proofs.Common.{◌<◌, ◌^◌, subst}
use Rattle.sha2.specs.Sha256.{sha256}
use Rattle.gx_growing.specs.GrowingText.{Slot}
use Rattle.gx_growing_parts.proofs.Digesters.{digester}
use Rattle.gx_growing_file.proofs.SentGrowing.{growing_short}
use Rattle.gx_growing_file.proofs.sending.write_to.Goals as goal

pub returns-in-Ok-send_laid_out-clause-read : goal.returns-in-Ok-send_laid_out-clause-read
returns-in-Ok-send_laid_out-clause-read g c =
    let name = g.N.Namer.name_of c.args.repo.now.0 in
    let laid = c.in-Ok.ensures in
    let short = subst (λ (s : Slot). s.ends < 2 ^ 63) laid.slot laid.short in
    (c.growing_is_read.ensures name (g.met.N.Namer.is_namer c.args.repo.now.0)).written sha256 digester c.args.repo.now.1 c.sound.ensures (growing_short c.args.repo.now.1 short)
