use Rattle.gx_growing.proofs.Grows.{grows}
use Rattle.gx_growing.proofs.growth_laws.grows.Goals as goal

pub returns : goal.returns
returns c = λ name namer. record { grows = λ digest digester. grows name digest }
