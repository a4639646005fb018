use Rattle.std.proofs.Common.{◌++◌}
use Rattle.gx_tree.proofs.HeldRecords.{found_before}
use Rattle.gx_tree.proofs.WrittenHomes.{home_longer}
use Rattle.gx_tree.proofs.laws.records_keep_home.Goals as goal

pub returns : goal.returns
returns c name old more tree h = home_longer name old (old ++ more) (λ n s k. found_before old more n s k) tree.files tree.names h
