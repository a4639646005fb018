use Rattle.std.proofs.Common.{sym}
use Rattle.gx_listed.specs.Listings.{Listed}
use Rattle.gx_plain.proofs.ListedObjects.{some_listed, within_listed}
use Rattle.gx_plain.proofs.RefTargets.{commit_target, each_target, no_target, other_target, tag_tells, target_of}
use Rattle.gx_plain.proofs.refs.may_hold.Goals as goal

pub returns-in_default : goal.returns-in_default
returns-in_default g c =
    let name = g.N.Namer.name_of c.args.namer.now in
    let change = c.args.change.now in
    let listed = c.args.listing.now in
    each_target name c.args.version (g.S.ReadAt.text c.args.source.now) listed change _ (λ text is rs h. no_target name c.args.version text listed rs h change.name.now change.target.bytes c.in_default.ensures)

pub returns-in_default-get : goal.returns-in_default-get
returns-in_default-get g c =
    let listed = c.args.listing.now in
    let i = c.in-Some.number in
    absurd (some_listed listed i (within_listed listed c.args.change.now.target.bytes i c.in-Some.ensures) c.in_default-get.ensures)

pub returns-in-Blob : goal.returns-in-Blob
returns-in-Blob g c =
    let name = g.N.Namer.name_of c.args.namer.now in
    let change = c.args.change.now in
    let listed = c.args.listing.now in
    let ref = change.name.now in
    let n = change.target.bytes in
    let one : Listed = (c.in-Some-get._name, c.in-Some-get.standing) in
    each_target name c.args.version (g.S.ReadAt.text c.args.source.now) listed change _ (λ text is rs h.
    other_target name c.args.version text listed rs h ref n one (target_of name c.args.version text listed rs h ref n c.in-Some.number one c.in-Some.ensures (sym c.in-Some-get.ensures)) c.in-Blob.is)

pub returns-in-Commit : goal.returns-in-Commit
returns-in-Commit g c =
    let name = g.N.Namer.name_of c.args.namer.now in
    let change = c.args.change.now in
    let listed = c.args.listing.now in
    let ref = change.name.now in
    let n = change.target.bytes in
    let one : Listed = (c.in-Some-get._name, c.in-Some-get.standing) in
    each_target name c.args.version (g.S.ReadAt.text c.args.source.now) listed change _ (λ text is rs h.
    commit_target name c.args.version text listed rs h ref n one (target_of name c.args.version text listed rs h ref n c.in-Some.number one c.in-Some.ensures (sym c.in-Some-get.ensures)) c.in-Commit.is)

pub returns-in-Tag : goal.returns-in-Tag
returns-in-Tag g c =
    tag_tells (g.N.Namer.name_of c.args.namer.now) c.args.version (g.S.ReadAt.text c.args.source.now) c.args.listing.now c.args.change.now c.in-Some.number (c.in-Some-get._name, c.in-Some-get.standing) c.in-Some.ensures (sym c.in-Some-get.ensures) c.in-Tag.is
    c.is_named_by.result c.is_named_by.ensures
