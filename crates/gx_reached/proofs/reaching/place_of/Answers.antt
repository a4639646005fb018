use Rattle.gx_reached.proofs.Entering.{entered_itself, not_placed, placed}
use Rattle.gx_reached.proofs.reaching.place_of.Goals as goal

pub returns-in-Ok-clause-place : goal.returns-in-Ok-clause-place
returns-in-Ok-clause-place g c =
    let o = c.args.objects.now in
    placed (g.O.Objects.told o) (g.O.Objects.stands o) c.args.name.now.bytes c.place.result c.in_ok-found.found c.in-Ok.place c.in-Ok.is c.in_ok-found.ensures.told c.place.ensures.place

pub returns-in_ok-enter_itself-in-Err-clause-bad : goal.returns-in_ok-enter_itself-in-Err-clause-bad
returns-in_ok-enter_itself-in-Err-clause-bad g c =
    let o = c.args.objects.now in
    entered_itself c.args.bad.now c.enter_itself.new.self (record { object = c.args.name.now; cause = c.in-Err.cause }) c.in_ok-enter_itself-in-Err.ensures (g.O.Objects.name_of o) (g.O.Objects.told o)
    (not_placed (g.O.Objects.told o) (g.O.Objects.stands o) c.args.name.now.bytes c.place.result c.in_ok-found.found c.in-Err.cause c.in-Err.is c.in_ok-found.ensures.told c.requires.stands c.place.ensures.place c.place.ensures.fault) c.requires.bad
