use Rattle.gx_growing.proofs.EndCounts.{alike}
use Rattle.gx_growing.proofs.growth_laws.end_counts.Goals as goal

pub returns : goal.returns
returns c = λ name namer. record { alike = λ digest digester. alike name digest }
