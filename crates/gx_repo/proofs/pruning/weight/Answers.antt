use Rattle.std.proofs.Common.{sym, arith, rules}
use Rattle.gx_repo.proofs.PrunedRecords.{weight_next}
use Rattle.gx_repo.proofs.pruning.weight.Goals as goal

pub loop-place-preserved : goal.loop-place-preserved
loop-place-preserved g c =
    let more = weight_next c.args.store.now.1 c.loop-place.place _ (sym c.in-Some.ensures) in (
      omega (arith, c.loop-place.invariant.0, more),
      search (rules, c.loop-place.invariant.1),
    )
