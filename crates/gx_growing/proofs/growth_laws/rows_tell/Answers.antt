use Rattle.gx_growing.proofs.RowsTell.{rows_tell}
use Rattle.gx_growing.proofs.growth_laws.rows_tell.Goals as goal

pub returns : goal.returns
returns c = λ name namer. record { tells = λ digest digester. rows_tell name digest namer }
