use Rattle.gx_model.specs.Records.HistoryOf.{history_of}
use Rattle.gx_model.specs.Revisions.Ranges.{listed}
use Rattle.std.proofs.Common.{map}
use Rattle.gx_rev.specs.Views.{shown_range}
use Rattle.gx_c.proofs.Walks.{walked}
use Rattle.gx_c.proofs.asking.commits.Goals as goal

pub returns-in-Ok : goal.returns-in-Ok
returns-in-Ok g c =
    let r = c.args.repo.now in
    let given = listed (g.N.Namer.name_of r.0) (history_of r.1) (map (shown_range {A = g.row.A.Denot}) c.args.words.now) in
    walked given c.given_names.result c.in-Ok.names.items c.in-Ok.ensures.names c.given_names.result.why c.given_names.ensures.number (rw (← c.deref.ensures.value) c.given_names.ensures.text)
