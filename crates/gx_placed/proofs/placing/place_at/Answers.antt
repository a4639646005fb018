use Rattle.std.proofs.Common.{◌∙◌, List, Err, refl, sym, ap, true≢false}
use Rattle.std.specs.Option.{option_map}
use Rattle.std.proofs.lemmas.Result.{err_from_is_err_and}
use Rattle.gx_model.specs.Histories.{Record, object_of}
use Rattle.gx_model.specs.Records.Growth.{record_named}
use Rattle.gx_placed.specs.Places.{shown_object}
use Rattle.gx_placed.specs.Steps.{begun}
use Rattle.gx_placed.proofs.Going.{held_already, new_bad, new_step, other_held, taken_before}
use Rattle.gx_placed.proofs.placing.place_at.Goals as goal

pub returns-in_default-clause-places : goal.returns-in_default-clause-places
returns-in_default-clause-places g c = λ all one there front s.
    taken_before (Unit {0}) (g.N.Namer.name_of c.args.repo.now.0) all c.args.waiting.now c.take_at.new.self c.args.repo.now.1.records c.args.place one there c.take_at.ensures.places c.take_at.ensures.slots s (sym c.in_default.ensures.object)

pub returns-then-is_same-clause-places : goal.returns-then-is_same-clause-places
returns-then-is_same-clause-places g c = λ all one there front s.
    held_already (Unit {0}) (g.N.Namer.name_of c.args.repo.now.0) all c.args.waiting.now c.take_at.new.self c.args.repo.now.1.records c.args.place one there c.take_at.ensures.places c.take_at.ensures.slots s
    (shown_object c.in-Some.object) (sym c.in-Some.ensures.object) c.in-Some-get.kind c.in-Some-get.body.now
    (c.in-Some-get.ensures ∙ ap (λ (z : g.row.N.Denot × List Record). option_map object_of (record_named z.1 c.in-Some.object.name.bytes)) c.store.ensures.held) (c.if-is_same.ensures.0 refl)

pub returns-in-Some-get-clause-places : goal.returns-in-Some-get-clause-places
returns-in-Some-get-clause-places g c = λ all one there front s.
    other_held (Unit {0}) (g.N.Namer.name_of c.args.repo.now.0) all c.args.waiting.now c.take_at.new.self c.args.repo.now.1.records c.args.place one there c.take_at.ensures.places c.take_at.ensures.slots s
    (shown_object c.in-Some.object) (sym c.in-Some.ensures.object) c.in-Some-get.kind c.in-Some-get.body.now
    (c.in-Some-get.ensures ∙ ap (λ (z : g.row.N.Denot × List Record). option_map object_of (record_named z.1 c.in-Some.object.name.bytes)) c.store.ensures.held)
    (λ same. true≢false (sym (c.is_same.ensures.1 same) ∙ c.if-is_same.false))

pub returns-in_err-frame-in-None-clause-places : goal.returns-in_err-frame-in-None-clause-places
returns-in_err-frame-in-None-clause-places g c = λ all one there front s.
    let p = err_from_is_err_and c.from_residual.result c.from_residual.ensures.1 in
    new_bad (Unit {0}) (g.N.Namer.name_of c.args.repo.now.0) all c.args.waiting.now c.take_at.new.self c.args.repo.now.1.records c.args.place one there c.take_at.ensures.places c.take_at.ensures.slots s
    (shown_object c.in-Some.object) (sym c.in-Some.ensures.object) c.in_err-frame-in-None.field-0.0 c.from_residual.result (p.1 ∙ ap Err p.2)
    (c.in-None.ensures ∙ ap (λ (z : g.row.N.Denot × List Record). option_map object_of (record_named z.1 c.in-Some.object.name.bytes)) c.store.ensures.held) c.in_err-frame-in-None.ensures

pub returns-clause-places : goal.returns-clause-places
returns-clause-places g c = λ all one there front s.
    new_step (Unit {0}) (g.N.Namer.name_of c.args.repo.now.0) all c.args.waiting.now c.take_at.new.self c.args.repo.now.1.records c.args.place one there c.take_at.ensures.places c.take_at.ensures.slots s
    (shown_object c.in-Some.object) (sym c.in-Some.ensures.object) c.place_new.new.waiting c.place_new.new.repo.1.records (begun c.in_ok-frame-in-None.frame) c.place_new.result
    (c.in-None.ensures ∙ ap (λ (z : g.row.N.Denot × List Record). option_map object_of (record_named z.1 c.in-Some.object.name.bytes)) c.store.ensures.held) c.in_ok-frame-in-None.ensures front (c.place_new.ensures.steps all)
