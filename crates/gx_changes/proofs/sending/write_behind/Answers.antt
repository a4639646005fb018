use Rattle.std.proofs.lemmas.Result.{err_from_is_err_and}
use Rattle.gx_changes.proofs.Texts.{carrier_stops, closed_out, closing_stops, refs_stop}
use Rattle.gx_changes.proofs.sending.write_behind.Goals as goal

pub returns-in_err-write_carrier-clause-adds : goal.returns-in_err-write_carrier-clause-adds
returns-in_err-write_carrier-clause-adds g c =
    let o = c.args.objects.now in
    let p = err_from_is_err_and c.from_residual.result c.from_residual.ensures.1 in
    rw (p.1, p.2) (carrier_stops (g.O.Objects.name_of o) c.args.closed c.args.refs.now c.args.branches.now c.args.written.now c.write_carrier.new.output (g.O.Objects.told o) c.in_err-write_carrier.field-0.0 c.in_err-write_carrier.ensures.text)

pub returns-in_err-write_refs-clause-adds : goal.returns-in_err-write_refs-clause-adds
returns-in_err-write_refs-clause-adds g c =
    let o = c.args.objects.now in
    let p = err_from_is_err_and c.from_residual-in_err-write_refs.result c.from_residual-in_err-write_refs.ensures.1 in
    rw (p.1, p.2) (refs_stop (g.O.Objects.name_of o) c.args.closed c.args.refs.now c.args.branches.now c.args.written.now c.write_carrier.new.output c.in_ok-write_carrier.ensures.text (g.O.Objects.told o) c.write_refs.new.written c.in_err-write_refs.field-0.0 c.in_err-write_refs.ensures.adds)

pub returns-in_err-write_closing-clause-adds : goal.returns-in_err-write_closing-clause-adds
returns-in_err-write_closing-clause-adds g c =
    let o = c.args.objects.now in
    let p = err_from_is_err_and c.from_residual-in_err-write_closing.result c.from_residual-in_err-write_closing.ensures.1 in
    rw (p.1, p.2) (closing_stops (g.O.Objects.name_of o) c.args.closed c.args.refs.now c.args.branches.now c.args.written.now c.write_carrier.new.output c.in_ok-write_carrier.ensures.text c.write_refs.new.written c.write_closing.new.output (g.O.Objects.told o) c.in_err-write_closing.field-0.0
    c.in_ok-write_refs.ensures.adds c.in_err-write_closing.ensures.text)

pub returns-clause-adds : goal.returns-clause-adds
returns-clause-adds g c =
    let o = c.args.objects.now in
    closed_out (g.O.Objects.name_of o) c.args.closed c.args.refs.now c.args.branches.now c.args.written.now c.write_carrier.new.output c.in_ok-write_carrier.ensures.text c.write_refs.new.written c.write_closing.new.output (g.O.Objects.told o) c.in_ok-write_refs.ensures.adds c.in_ok-write_closing.ensures.text
