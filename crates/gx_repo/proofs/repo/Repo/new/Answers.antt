use Rattle.std.proofs.Common.{[], refl, sym, subst}
use Rattle.gx_model.specs.Records.Sound.{IsSound}
use Rattle.gx_repo.specs.Repositories.{held_in}
use Rattle.gx_repo.specs.Rooms.{IsFront}
use Rattle.gx_repo.proofs.repo.Repo.new.Goals as goal

pub invariant_of-result : goal.invariant_of-result
invariant_of-result g c =
    let empty : IsSound (g.N.Namer.name_of c.args.namer) (record { records = []; refs = [] }) = record { named = tt; distinct = tt; linked = tt; paths = tt; sorted = refl; ref_names = refl; held = tt } in (
      subst (λ s. IsSound (g.N.Namer.name_of s.0) (held_in s.1 c.new-4.result)) (sym c.new.ensures)
          (subst (λ refs. IsSound (g.N.Namer.name_of c.args.namer) (held_in [] refs)) (sym c.new-4.ensures) empty),
      subst (λ rooms. IsFront rooms c.new.result.1) (sym c.new-2.ensures.items) refl,
    )

pub returns : goal.returns
returns g c = λ i. ((c.new.ensures i).0, held_in (c.new.ensures i).1 (c.new-4.ensures i))
