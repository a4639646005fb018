use Rattle.std.proofs.Common.{◌++◌}
use Rattle.gx_tree.proofs.HeldRecords.{found_before}
use Rattle.gx_tree.proofs.WrittenHomes.{held_longer, home_longer}
use Rattle.gx_tree.proofs.laws.records_keep_loaded.Goals as goal

pub returns : goal.returns
returns c name old more n d h = record {
  held = record { map = h.held.map; named = h.held.named; held = held_longer old (old ++ more) _ (λ m s k. found_before old more m s k) h.held.held };
  home = home_longer name old (old ++ more) (λ m s k. found_before old more m s k) d.files d.names h.home;
  remembers = h.remembers;
}
