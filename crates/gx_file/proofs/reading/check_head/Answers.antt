use Rattle.std.proofs.Common.{◌<◌, ◌^◌, arith, codes, length}
use Rattle.std.proofs.lemmas.Result.{err_from_is_err_and}
use Rattle.gx_model.specs.Stores.StoreReading.{after_magic, stored_count}
use Rattle.gx_model.specs.declared.store_versions.Version.{Version}
use Rattle.gx_model.specs.Texts.{Bytes}
use Rattle.gx_file.proofs.Steps.{explained}
use Rattle.gx_file.proofs.StoreTexts.{not_stored}
use Rattle.gx_file.proofs.WantingHeads.{count_refused, magic_refused, right}
use Rattle.gx_file.proofs.reading.check_head.Goals as goal

pub returns-in_err-_version-clause-fault : goal.returns-in_err-_version-clause-fault
returns-in_err-_version-clause-fault g c =
    let p = err_from_is_err_and c.from_residual.result c.from_residual.ensures.1 in
    let fault = c.in_err-_version.field-0.0 in
    rw (p.1, p.2) (magic_refused (g.N.Namer.name_of c.args.namer.now) c.args.text.now fault (explained fault (after_magic c.args.text.now) c.in_err-_version.ensures.memory c.in_err-_version.ensures.start))

pub returns-in_err-_version-clause-refused : goal.returns-in_err-_version-clause-refused
returns-in_err-_version-clause-refused g c =
    let p = err_from_is_err_and c.from_residual.result c.from_residual.ensures.1 in
    let fault = c.in_err-_version.field-0.0 in
    let text = c.args.text.now in
    let name = g.N.Namer.name_of c.args.namer.now in
    let law = c.stores_are_read.ensures name (g.met.N.Namer.is_namer c.args.namer.now) in
    let short : length text < 2 ^ 64 = omega arith in
    rw (p.1, p.2) (λ other. not_stored name law text short fault (magic_refused name text fault (explained fault (after_magic text) other c.in_err-_version.ensures.start)))

pub returns-in_err-_objects-clause-fault : goal.returns-in_err-_objects-clause-fault
returns-in_err-_objects-clause-fault g c =
    let p = err_from_is_err_and c.from_residual-in_err-_objects.result c.from_residual-in_err-_objects.ensures.1 in
    let fault = c.in_err-_objects.field-0.0 in
    let start : Version × Bytes = (c.in_ok-_version._version, c.in_ok-_version.rest.now) in
    rw (p.1, p.2) (count_refused (g.N.Namer.name_of c.args.namer.now) c.args.text.now start fault c.in_ok-_version.ensures.start (explained fault (stored_count (codes "objects") start.1) c.in_err-_objects.ensures.memory c.in_err-_objects.ensures.count))

pub returns-in_err-_objects-clause-refused : goal.returns-in_err-_objects-clause-refused
returns-in_err-_objects-clause-refused g c =
    let p = err_from_is_err_and c.from_residual-in_err-_objects.result c.from_residual-in_err-_objects.ensures.1 in
    let fault = c.in_err-_objects.field-0.0 in
    let text = c.args.text.now in
    let name = g.N.Namer.name_of c.args.namer.now in
    let law = c.stores_are_read.ensures name (g.met.N.Namer.is_namer c.args.namer.now) in
    let short : length text < 2 ^ 64 = omega arith in
    let start : Version × Bytes = (c.in_ok-_version._version, c.in_ok-_version.rest.now) in
    rw (p.1, p.2) (λ other. not_stored name law text short fault (count_refused name text start fault c.in_ok-_version.ensures.start (explained fault (stored_count (codes "objects") start.1) other c.in_err-_objects.ensures.count)))

pub returns-clause-head : goal.returns-clause-head
returns-clause-head g c = ((c.in_ok-_version._version, c.in_ok-_version.rest.now), c.in_ok-_version.ensures.start, right (stored_count (codes "objects") c.in_ok-_version.rest.now) _ c.in_ok-_objects.ensures.count)
