use Rattle.std.proofs.Common.{refl, ◌≡◌}
use Rattle.std.specs.Ordering.{nat_cmp}
use Rattle.std.proofs.lemmas.Iterator.{YieldsList-from_slice}
use Rattle.std.proofs.lemmas.Iterator.Consumers.{YieldsList-from_chain, YieldsList-at}
use Rattle.std.proofs.lemmas.Iterator.Search.{cmp_from_yields_List}
use Rattle.gx_object.proofs.order.compare_rests.Goals as goal

pub returns : goal.returns
returns c =
    cmp_from_yields_List (λ x y. y ≡ x) _ nat_cmp c.cmp.result c.cmp.ensures.ran
    (YieldsList-from_chain (YieldsList-from_slice c.args.first.now (cc)) (YieldsList-from_slice c.args.first_mark.now (cc)) (cc) (cc))
    (λ it e. YieldsList-at e (YieldsList-from_chain (YieldsList-from_slice c.args.second.now (cc)) (YieldsList-from_slice c.args.second_mark.now (cc)) (cc) (cc)))
    (λ x y. refl)
