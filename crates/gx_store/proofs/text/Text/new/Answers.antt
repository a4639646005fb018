use Rattle.std.proofs.Common.{ap}
use Rattle.gx_store.proofs.text.Text.new.Goals as goal

pub returns : goal.returns
returns g c = ap (λ v. v.items) c.in_ok-bytes.ensures.ok
