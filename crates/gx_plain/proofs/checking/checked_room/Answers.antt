use Rattle.std.proofs.Common.{Some, sym, subst}
use Rattle.gx_plain.specs.Held.{ChecksBody}
use Rattle.gx_plain.proofs.Checks.{blob_fine}
use Rattle.gx_plain.proofs.checking.checked_room.Goals as goal

pub returns-in-Blob : goal.returns-in-Blob
returns-in-Blob g c =
    let listed = c.args.listing.now in
    let rooms = c.args.rooms.now in
    subst (λ k. ChecksBody listed rooms k c.args.body.now (Some 0)) (sym c.in-Blob.is) (blob_fine listed rooms c.args.body.now)
