use Rattle.std.proofs.Common.{rules}
use Rattle.gx_file.proofs.records.check_name.Goals as goal

pub returns-in_default-clause-name : goal.returns-in_default-clause-name
returns-in_default-clause-name c = search rules
