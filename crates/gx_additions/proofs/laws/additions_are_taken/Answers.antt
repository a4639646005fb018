use Rattle.gx_additions.proofs.NewRuns.{additions_taken}
use Rattle.gx_additions.proofs.laws.additions_are_taken.Goals as goal

pub returns : goal.returns
returns c = λ name namer. record { taken = λ digest digester. additions_taken name namer digest digester }
