use Rattle.gx_import.proofs.HeldBlobs.{blob_found, none_held}
use Rattle.gx_import.proofs.changes.held_blob.Goals as goal

pub returns-in-Some : goal.returns-in-Some
returns-in-Some g c =
    let found = rw c.store.ensures.held at c.in-Some.ensures in
    rw c.name_of_kind.ensures (blob_found (g.N.Namer.name_of c.args.repo.now.0) (g.met.N.Namer.is_namer c.args.repo.now.0) c.args.repo.now.1 c.store.ensures.sound c.args.name c.in-Some.kind _ found)

pub returns-in-None : goal.returns-in-None
returns-in-None g c =
    let found = rw c.store.ensures.held at c.in-None.ensures in
    none_held (g.N.Namer.name_of c.args.repo.now.0) (g.met.N.Namer.is_namer c.args.repo.now.0) c.args.repo.now.1 c.store.ensures.sound c.args.name.bytes found
