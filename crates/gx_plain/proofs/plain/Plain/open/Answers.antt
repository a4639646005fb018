use Rattle.std.proofs.lemmas.Result.{err_from_is_err_and}
use Rattle.gx_plain.proofs.WholeTexts.{read_ok, read_whole, records_untold, start_untold, tail_untold}
use Rattle.gx_plain.proofs.plain.Plain.open.Goals as goal

pub returns-in_err-start-clause-fault : goal.returns-in_err-start-clause-fault
returns-in_err-start-clause-fault g c =
    let p = err_from_is_err_and c.from_residual.result c.from_residual.ensures.1 in
    rw (p.1, p.2) (start_untold (g.N.Namer.name_of c.args.namer) (g.S.ReadAt.text c.args.source) c.in_err-start.field-0.0 c.in_err-start.ensures)

pub returns-in_err-listing-clause-fault : goal.returns-in_err-listing-clause-fault
returns-in_err-listing-clause-fault g c =
    let p = err_from_is_err_and c.from_residual-in_err-listing.result c.from_residual-in_err-listing.ensures.1 in
    rw (p.1, p.2) (records_untold (g.N.Namer.name_of c.args.namer) (g.S.ReadAt.text c.args.source) c.in_ok-start.start c.in_err-listing.field-0.0 c.in_ok-start.ensures c.in_err-listing.ensures)

pub returns-in_err-tail-clause-fault : goal.returns-in_err-tail-clause-fault
returns-in_err-tail-clause-fault g c =
    let p = err_from_is_err_and c.from_residual-in_err-tail.result c.from_residual-in_err-tail.ensures.1 in
    rw (p.1, p.2) (tail_untold (g.N.Namer.name_of c.args.namer) _ (g.S.ReadAt.text c.args.source) c.in_ok-start.start c.in_ok-listing.listing c.in_ok-listing.place c.in_err-tail.field-0.0 c.in_ok-start.ensures c.in_ok-listing.ensures c.in_err-tail.ensures.tail)

pub invariant_of-result : goal.invariant_of-result
invariant_of-result g c = record {
  lines = c.in_ok-tail.ensures.lines;
  whole = read_whole (g.N.Namer.name_of c.args.namer) (g.S.ReadAt.text c.args.source) c.in_ok-start.start c.in_ok-listing.listing c.in_ok-listing.place c.in_ok-tail.tail c.in_ok-start.ensures c.in_ok-listing.ensures c.in_ok-tail.ensures.tail;
}

pub returns-clause-read : goal.returns-clause-read
returns-clause-read g c =
    let name = g.N.Namer.name_of c.args.namer in
    let told = g.S.ReadAt.text c.args.source in
    let whole = read_whole name told c.in_ok-start.start c.in_ok-listing.listing c.in_ok-listing.place c.in_ok-tail.tail c.in_ok-start.ensures c.in_ok-listing.ensures c.in_ok-tail.ensures.tail in
    read_ok name told c.in_ok-start.start.version c.in_ok-listing.listing c.in_ok-tail.tail whole
