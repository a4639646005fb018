use Rattle.gx_additions.proofs.OtherRefs.{refs_taken}
use Rattle.gx_additions.proofs.laws.refs_are_taken.Goals as goal

pub returns : goal.returns
returns c = λ name namer. record { taken = λ digest digester. refs_taken name digest }
