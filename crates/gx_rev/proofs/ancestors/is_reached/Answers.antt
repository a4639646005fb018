use Rattle.std.proofs.Common.{subst}
use Rattle.gx_rev.specs.Ancestors.{TellsSoon}
use Rattle.gx_rev.proofs.PlaceLists.{told_later}
use Rattle.gx_rev.proofs.ancestors.is_reached.Goals as goal

pub returns-in-Some-clause-told : goal.returns-in-Some-clause-told
returns-in-Some-clause-told g c = λ made e. subst (TellsSoon c.args.repo.now.1 c.args.places.now.keys c.is_reached_soon.new.places.keys made) c.in-Some.is (c.in_ok-is_reached.ensures.told made e)

pub returns-in-None-clause-told : goal.returns-in-None-clause-told
returns-in-None-clause-told g c =
    let r = c.args.repo.now.1 in
    let old = c.args.places.now.keys in
    let new = c.is_reached_soon.new.places.keys in
    told_later r old new c.args.last c.is_reached_later.result (λ made e. subst (TellsSoon r old new made) c.in-None.is (c.in_ok-is_reached.ensures.told made e)) c.is_reached_later.ensures.told
