use Rattle.std.proofs.Common.{◌≡◌, Some, refl}
use Rattle.std.proofs.lemmas.Result.{err_from_is_err_and}
use Rattle.gx_model.specs.Histories.{Record, object_of}
use Rattle.gx_model.specs.Records.Growth.{record_named}
use Rattle.gx_pack.specs.Packs.{entry_text}
use Rattle.gx_kept.specs.Faults.{Stops, of_look}
use Rattle.gx_kept.proofs.SentObjects.{is_told}
use Rattle.gx_kept.proofs.Stopping.{look_stops, look_told, of_told}
use Rattle.gx_kept.proofs.WrittenObjects.{object_fails}
use Rattle.gx_kept.proofs.bundling.write_object.Goals as goal

pub returns-in_err-object-clause-object : goal.returns-in_err-object-clause-object
returns-in_err-object-clause-object g c =
    let p = err_from_is_err_and c.from_residual.result c.from_residual.ensures.1 in
    let was = c.args.pack.now.taken in
    let fault = c.in_err-object.field-0.0 in
    rw (p.1, p.2) (
      refl,
      of_told (g.O.Objects.told c.args.objects.now)
          (λ r. (held : Record) → record_named r.records c.args.name.now.bytes ≡ Some held → Stops (entry_text (object_of held)) was was (of_look fault))
          (λ r held e. look_stops was fault (entry_text (object_of held))),
    )

pub returns-in_err-object-clause-fault : goal.returns-in_err-object-clause-fault
returns-in_err-object-clause-fault g c =
    let p = err_from_is_err_and c.from_residual.result c.from_residual.ensures.1 in
    rw (p.1, p.2) (look_told (Unit {0}) (g.O.Objects.told c.args.objects.now) c.in_err-object.field-0.0 c.in_err-object.ensures.fault)

pub returns-in_err-write_object-clause-object : goal.returns-in_err-write_object-clause-object
returns-in_err-write_object-clause-object g c =
    let p = err_from_is_err_and c.from_residual-in_err-write_object.result c.from_residual-in_err-write_object.ensures.1 in
    let failed = c.in_err-write_object.ensures in
    rw (p.1, p.2) (failed.0, object_fails c.args.name.now c.in_ok-object.object (g.O.Objects.told c.args.objects.now) c.in_ok-object.ensures.held c.args.pack.now.taken c.write_object.new.self.taken failed.1)

pub returns-clause-object : goal.returns-clause-object
returns-clause-object g c =
    let object = c.in_ok-object.object in (
      (object.kind, object.body.now),
      c.in_ok-object.ensures.named,
      c.in_ok-write_object.ensures,
      is_told c.args.name.now object (g.O.Objects.told c.args.objects.now) c.in_ok-object.ensures.held,
    )
