use Rattle.std.proofs.Common.{ap, refl, subst, sym, Ok, Err}
use Rattle.gx_model.specs.Records.HistoryOf.{history_of}
use Rattle.gx_model.specs.Histories.{Records}
use Rattle.gx_model.specs.Streams.Gitlinks.{HoldsSayable}
use Rattle.gx_cli.specs.declared.trips.RoundTrip.{RoundTrip}
use Rattle.gx_cli.proofs.CheckedTrips.{copy_back, copy_stopped, fault_told, from_nothing, line_told}
use Rattle.gx_cli.proofs.RetoldImports.{fault_retold, line_retold}
use Rattle.gx_cli.proofs.check.check_copied.Goals as goal

pub round_trip-requires : goal.round_trip-requires
round_trip-requires g c = record {
  namer = ap (λ o. o.0) c.new-repo.ensures;
  gitlinks = subst (λ (r : Records). HoldsSayable (history_of r)) (sym (ap (λ o. o.1) c.new-repo.ensures)) c.replays_keep_none.ensures.empty;
}

pub returns-in-Ok-clause-checked : goal.returns-in-Ok-clause-checked
returns-in-Ok-clause-checked g c =
    let name = g.N.Namer.name_of c.args.namer in
    let coming = g.R.Source.coming c.args.source in
    let was = g.W.Sink.taken c.args.sink.now in
    let mid = g.W.Sink.taken c.round_trip.new.sink in
    let made = c.round_trip.new.repo.1 in
    let trip = from_nothing {N = g.row.N.Denot} {A = g.row.A.Denot} name c.args.features c.new-repo.result _ made coming was mid (Ok c.in-Ok.trip) c.new-repo.ensures c.in-Ok.ensures.back in
    (made, mid, Ok (c.in-Ok.trip.report, c.in-Ok.trip.again.1), copy_back g.row.N.Denot g.row.A.Denot name c.args.features made coming was mid c.in-Ok.trip trip, c.tell_back.ensures)

pub returns-in-Ok-clause-explained : goal.returns-in-Ok-clause-explained
returns-in-Ok-clause-explained g c =
    line_told (g.N.Namer.name_of c.args.namer) c.args.features (g.R.Source.coming c.args.source) c.round_trip.new.told c.in-Ok.trip.report.commands c.in-Ok.trip.again.1 (g.W.Sink.taken c.round_trip.new.sink) (g.W.Sink.taken c.tell_back.new.sink)
    c.tell_back.result c.tell_back.ensures c.in-Ok.ensures.explained

pub returns-clause-checked : goal.returns-clause-checked
returns-clause-checked g c =
    let name = g.N.Namer.name_of c.args.namer in
    let coming = g.R.Source.coming c.args.source in
    let was = g.W.Sink.taken c.args.sink.now in
    let mid = g.W.Sink.taken c.round_trip.new.sink in
    let made = c.round_trip.new.repo.1 in
    let trip = from_nothing {N = g.row.N.Denot} {A = g.row.A.Denot} name c.args.features c.new-repo.result _ made coming was mid (Err c.in-Err.fault) c.new-repo.ensures c.in-Err.ensures.back in
    (made, mid, Err c.in-Err.fault, copy_stopped g.row.N.Denot g.row.A.Denot name c.args.features made coming was mid c.in-Err.fault trip, (refl, refl))

pub returns-clause-explained : goal.returns-clause-explained
returns-clause-explained g c =
    fault_told (g.N.Namer.name_of c.args.namer) c.args.features (g.R.Source.coming c.args.source) c.round_trip.new.told (RoundTrip g.row.N.Denot g.row.A.Denot) (Unit {0}) c.new-repo.result.1 c.in-Err.fault (ap (λ o. o.1) c.new-repo.ensures) c.in-Err.ensures.explained

-- ---- where the source tells nothing, what is told is of the same commands

pub returns-in-Ok-clause-retold : goal.returns-in-Ok-clause-retold
returns-in-Ok-clause-retold g c = λ none.
    line_retold (g.N.Namer.name_of c.args.namer) c.round_trip.new.told c.args.features (g.W.Sink.taken c.args.sink.now) (g.W.Sink.taken c.tell_back.new.sink)
    c.in-Ok.trip.report.commands c.in-Ok.trip.again.1 (g.W.Sink.taken c.round_trip.new.sink) (g.W.Sink.taken c.tell_back.new.sink) c.tell_back.result c.tell_back.ensures c.in-Ok.ensures.explained

pub returns-clause-retold : goal.returns-clause-retold
returns-clause-retold g c = λ none.
    fault_retold (g.N.Namer.name_of c.args.namer) c.round_trip.new.told c.args.features (g.W.Sink.taken c.args.sink.now) (g.W.Sink.taken c.round_trip.new.sink)
    (RoundTrip g.row.N.Denot g.row.A.Denot) (Unit {0}) c.new-repo.result.1 c.round_trip.new.repo.1 c.in-Err.fault (ap (λ o. o.1) c.new-repo.ensures) (c.in-Err.ensures.retold none)
