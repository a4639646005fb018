use Rattle.std.proofs.Common.{◌≡◌, ap, ◌∙◌, subst}
use Rattle.std.proofs.lemmas.Result.{err_from_is_err_and}
use Rattle.gx_plain.proofs.RoomsRead.{told_apart}
use Rattle.gx_plain.specs.Records.{body_in}
use Rattle.gx_plain.proofs.NamedRecords.{found_is, named_so, told_of, unrefused}
use Rattle.gx_plain.proofs.records.read_named.Goals as goal

pub returns-in_err-found-clause-record : goal.returns-in_err-found-clause-record
returns-in_err-found-clause-record g c =
    let p = err_from_is_err_and c.from_residual.result c.from_residual.ensures.1 in
    let name = g.N.Namer.name_of c.args.namer.now in
    let told = g.S.ReadAt.text c.args.source.now in
    let called = c.args.name.now.bytes in
    let room = c.read_parts.new.room.items in
    rw (p.1, p.2) (told_of name c.args.version told c.args.at called room _ (λ text is held here. unrefused name c.args.version told text is c.args.at called held here room c.in_err-found.field-0.0 c.in_err-found.ensures.parts))

pub returns-then-ne-clause-record : goal.returns-then-ne-clause-record
returns-then-ne-clause-record g c =
    let name = g.N.Namer.name_of c.args.namer.now in
    let told = g.S.ReadAt.text c.args.source.now in
    let called = c.args.name.now.bytes in
    let room = c.read_parts.new.room.items in
    told_of name c.args.version told c.args.at called room _ (λ text is held here same.
    let named = named_so name c.args.version told text is c.args.at called held here room c.in_ok-found.found c.in_ok-found.ensures.parts in
    let shown = ap (λ z. body_in z c.in_ok-found.found) c.as_slice.ensures.value in
    told_apart c.name.result.bytes called c.ne.result c.ne.ensures c.if-ne.true (subst (λ z. c.name.result.bytes ≡ name c.in_ok-found.found.kind z) shown c.name.ensures ∙ named))

pub returns-clause-record : goal.returns-clause-record
returns-clause-record g c =
    let name = g.N.Namer.name_of c.args.namer.now in
    let told = g.S.ReadAt.text c.args.source.now in
    let called = c.args.name.now.bytes in
    let room = c.read_parts.new.room.items in
    told_of name c.args.version told c.args.at called room _ (λ text is held here. found_is name c.args.version told text is c.args.at called held here room c.in_ok-found.found c.in_ok-found.ensures.parts)
