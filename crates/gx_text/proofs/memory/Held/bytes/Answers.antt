use Rattle.std.proofs.Common.{ap, ◌∙◌}
use Rattle.gx_text.specs.Devices.{Holding}
use Rattle.gx_text.proofs.memory.Held.bytes.Goals as goal

pub returns : goal.returns
returns g c = c.as_slice.ensures.value ∙ ap (λ (h : Holding). h.taken.bytes) c.self.view_is
