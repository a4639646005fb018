use Rattle.std.proofs.Common.{refl, sym, ap, ◌∙◌, map, drop_of_length-le}
use Rattle.gx_model.specs.Records.Publishing.{with_changes}
use Rattle.gx_repo.specs.Refs.{shown_update}
use Rattle.gx_repo.proofs.NamedRefs.{held_next, next_held, next_left}
use Rattle.gx_repo.proofs.ref_list.RefList.set_objects.Goals as goal

pub loop-change-init : goal.loop-change-init
loop-change-init g c = record {
  held = c.requires.held;
  rest = refl;
}

pub set_object-requires : goal.set_object-requires
set_object-requires g c = record { held = held_next c.loop-change.self c.args.changes.now c.loop-change.change-index _ c.loop-change-test.true c.loop-change.invariant.held }

pub returns : goal.returns
returns g c =
    sym (ap (λ cs. with_changes c.loop-change.self (map shown_update cs)) (drop_of_length-le c.args.changes.now c.loop-change-test.false)) ∙ c.loop-change.invariant.rest

pub loop-change-preserved : goal.loop-change-preserved
loop-change-preserved g c =
    let changes = c.args.changes.now in
    let i = c.loop-change.change-index in
    let refs = c.loop-change.self in
    let now = c.set_object.new.self in
    record {
      held = next_held changes i _ refs now c.loop-change-test.true c.set_object.ensures c.loop-change.invariant.held;
      rest = next_left changes i _ refs now c.loop-change-test.true c.set_object.ensures _ c.loop-change.invariant.rest;
    }
