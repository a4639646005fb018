use Rattle.gx_model.proofs.Records.HeldNames.{linked_value}
use Rattle.gx_model.proofs.repository_laws.links_tell_values.Goals as goal

pub returns : goal.returns
returns c = λ name namer r i k body l s. let q = linked_value name namer r i k body l s in record { proper = q.proper; known = q.known; recorded = q.recorded }
