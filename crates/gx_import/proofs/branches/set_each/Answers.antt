use Rattle.std.proofs.Common.{rules}
use Rattle.std.proofs.lemmas.Map.Made.{map_same_pairs}
use Rattle.gx_import.specs.Standing.{published_tip}
use Rattle.gx_import.proofs.branches.set_each.Goals as goal

pub returns : goal.returns
returns g c = map_same_pairs _ published_tip _ (λ k v b w f' t. search rules) c.args.tips.now.entries c.retain.new.self.entries c.retain.ensures.filtered
