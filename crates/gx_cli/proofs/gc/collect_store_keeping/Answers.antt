use Rattle.std.proofs.Common.{refl, subst}
use Rattle.gx_model.specs.Stores.StoreReading.{store_of}
use Rattle.gx_object.specs.Commits.{bytes_of_names}
use Rattle.gx_cli.specs.Collecting.{CollectsStored, kept_names}
use Rattle.gx_cli.specs.Gathering.{texts_of}
use Rattle.gx_cli.proofs.CollectedStores.{names_read, names_unread}
use Rattle.gx_cli.proofs.gc.collect_store_keeping.Goals as goal

pub returns-in-Ok : goal.returns-in-Ok
returns-in-Ok g c =
    let name_of = g.N.Namer.name_of in
    let stored = store_of (name_of c.args.namer) c.args.store.items in
    let answer = c.collect_text.result in
    names_read name_of c.args.namer stored answer (kept_names (texts_of c.args.lines.now)) c.in-Ok.names c.in-Ok.ensures
    (subst (λ names. CollectsStored name_of c.args.namer (bytes_of_names names) stored answer) c.as_slice.ensures.value c.collect_text.ensures)

pub returns-in-Err : goal.returns-in-Err
returns-in-Err g c =
    let stored = store_of (g.N.Namer.name_of c.args.namer) c.args.store.items in
    names_unread g.N.Namer.name_of c.args.namer stored _ g.row.A.Denot (kept_names (texts_of c.args.lines.now)) c.in-Err.fault c.in-Err.ensures refl
