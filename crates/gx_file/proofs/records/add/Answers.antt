use Rattle.std.proofs.Common.{rules}
use Rattle.gx_file.proofs.records.add.Goals as goal

pub returns-in_ok-check_name-in-Err : goal.returns-in_ok-check_name-in-Err
returns-in_ok-check_name-in-Err g c = search rules
