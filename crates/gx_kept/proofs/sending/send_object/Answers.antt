use Rattle.std.proofs.Common.{◌≡◌, Some, sym}
use Rattle.std.proofs.lemmas.Result.{err_from_is_err_and}
use Rattle.gx_model.specs.declared.store_versions.Version.TheVariants.{Two}
use Rattle.gx_model.specs.Histories.{Record}
use Rattle.gx_model.specs.Records.Growth.{record_named}
use Rattle.gx_model.specs.Stores.StoreText.{stored_record}
use Rattle.gx_kept.specs.Faults.{Stops, of_look}
use Rattle.gx_kept.specs.declared.fault.KeptFault.TheVariants.{Damaged}
use Rattle.gx_kept.proofs.SentObjects.{is_told, its_record, known_so, listed_so, object_fails}
use Rattle.gx_kept.proofs.Stopping.{look_stops, look_told, none_went, of_told}
use Rattle.gx_kept.proofs.sending.send_object.Goals as goal

pub returns-in_err-object-clause-record : goal.returns-in_err-object-clause-record
returns-in_err-object-clause-record g c =
    let p = err_from_is_err_and c.from_residual.result c.from_residual.ensures.1 in
    let was = g.W.Sink.taken c.args.sink.now in
    rw (p.1, p.2) (of_told (g.O.Objects.told c.args.objects.now)
    (λ r. (held : Record) → record_named r.records c.args.name.now.bytes ≡ Some held → Stops (stored_record Two held) was was (of_look c.in_err-object.field-0.0))
    (λ r held e. look_stops was c.in_err-object.field-0.0 (stored_record Two held)))

pub returns-in_err-object-clause-fault : goal.returns-in_err-object-clause-fault
returns-in_err-object-clause-fault g c =
    let p = err_from_is_err_and c.from_residual.result c.from_residual.ensures.1 in
    rw (p.1, p.2) (look_told (Unit {0}) (g.O.Objects.told c.args.objects.now) c.in_err-object.field-0.0 c.in_err-object.ensures.fault)

pub returns-then-not-is_as_listed-clause-record : goal.returns-then-not-is_as_listed-clause-record
returns-then-not-is_as_listed-clause-record g c =
    let was = g.W.Sink.taken c.args.sink.now in
    of_told (g.O.Objects.told c.args.objects.now) (λ r. (held : Record) → record_named r.records c.args.name.now.bytes ≡ Some held → Stops (stored_record Two held) was was Damaged)
    (λ r held e. none_went was (stored_record Two held))

pub returns-then-not-is_as_listed-clause-fault : goal.returns-then-not-is_as_listed-clause-fault
returns-then-not-is_as_listed-clause-fault g c =
    known_so c.args.name.now c.in_ok-object.object (g.O.Objects.told c.args.objects.now) c.in_ok-object.ensures.held c.args.standing.now c.requires.known c.is_as_listed.result c.is_as_listed.ensures c.if-not-is_as_listed.true

pub returns-in_err-send_record-clause-record : goal.returns-in_err-send_record-clause-record
returns-in_err-send_record-clause-record g c =
    let p = err_from_is_err_and c.from_residual-in_err-send_record.result c.from_residual-in_err-send_record.ensures.1 in
    rw (p.1, p.2) (object_fails c.args.name.now c.in_ok-object.object (g.O.Objects.told c.args.objects.now) c.in_ok-object.ensures.held (g.W.Sink.taken c.args.sink.now) (g.W.Sink.taken c.send_record.new.sink) c.in_err-send_record.ensures.text)

pub returns-clause-record : goal.returns-clause-record
returns-clause-record g c =
    let called = c.args.name.now in
    let object = c.in_ok-object.object in (
      its_record called object,
      listed_so called object c.args.standing.now c.is_as_listed.result c.is_as_listed.ensures c.if-not-is_as_listed.false,
      sym c.in_ok-object.ensures.named,
      c.in_ok-send_record.ensures.text,
      is_told called object (g.O.Objects.told c.args.objects.now) c.in_ok-object.ensures.held,
    )
