use Rattle.std.proofs.Common.{Ok, Err, length, refl, sym, ap, subst, ◌∙◌}
use Rattle.gx_model.specs.Histories.{Records}
use Rattle.gx_model.specs.Records.Sound.{IsSound}
use Rattle.gx_import.proofs.ExportedAgain.{accepted, stopped}
use Rattle.gx_import.proofs.RefusedExports.{null_refused}
use Rattle.gx_import.specs.Exported.{KeepsSayable}
use Rattle.gx_import.specs.Imports.{Imports}
use Rattle.gx_import.specs.Keeping.{left_of}
use Rattle.gx_import.specs.Retelling.{IsOfOneReplay}
use Rattle.gx_import.specs.Standing.{Extends}
use Rattle.gx_import.proofs.KeptCheckpoints.{front_left}
use Rattle.gx_import.proofs.Publications.{as_before, stands_replayed}
use Rattle.gx_import.proofs.StoppedImports.{cut_short}
use Rattle.gx_import.proofs.importing.import_explained.Goals as goal

pub replay_into-requires : goal.replay_into-requires
replay_into-requires g c = record {
  blank = record { change = c.none.ensures.change; path = c.none.ensures.path; asked = c.none.ensures.asked; loss = c.none.ensures.loss };
  empty = c.new-tables.ensures.empty;
  forced = c.new-tables.ensures.forced;
  none = record { records = c.len.ensures.count ∙ ap (λ z. length z.1) c.store.ensures.held; count = refl };
}

pub truncate-requires : goal.truncate-requires
truncate-requires g c = record { targets = c.in-Err.ensures.left.targets }

pub returns-clause-extends : goal.returns-clause-extends
returns-clause-extends g c =
    subst (λ (r : g.row.N.Denot × Records). Extends c.args.repo.now.1.records r.1.records) (sym c.truncate.ensures)
    (front_left c.replay_into.new.checkpoints.records c.args.repo.now.1.records c.replay_into.new.repo.1.records c.in-Err.ensures.left.front c.replay_into.ensures.extends)

pub returns-in-Ok-clause-sound : goal.returns-in-Ok-clause-sound
returns-in-Ok-clause-sound g c = subst (λ n. IsSound (g.N.Namer.name_of n) c.replay_into.new.repo.1) {y = c.args.repo.now.0} c.replay_into.ensures.namer c.sound.ensures

pub returns-in-Ok-clause-exported : goal.returns-in-Ok-clause-exported
returns-in-Ok-clause-exported g c = λ leaves.
    let name = g.N.Namer.name_of c.args.repo.now.0 in
    let new = c.replay_into.new.repo.1 in
    let namer = g.met.N.Namer.is_namer c.args.repo.now.0 in
    let sound = subst (λ n. IsSound (g.N.Namer.name_of n) new) {y = c.args.repo.now.0} c.replay_into.ensures.namer c.sound.ensures in
    let coming = g.R.Source.coming c.args.source in
    let was = g.W.Sink.taken c.args.sink.now in
    let now = g.W.Sink.taken c.replay_into.new.sink in
    accepted name (c.histories_of_records.ensures name namer) (c.names_tell_values.ensures name namer) c.exports_are_readable.ensures.readable c.exports_are_imported.ensures.imported c.features_are_asked.ensures.exports c.args.features leaves
    c.args.repo.now.1 new coming was now c.in-Ok.report sound c.in-Ok.ensures.replayed

pub returns-in-Ok-clause-stands : goal.returns-in-Ok-clause-stands
returns-in-Ok-clause-stands g c =
    let name = g.N.Namer.name_of c.args.repo.now.0 in
    let new = c.replay_into.new.repo.1 in
    let sound = subst (λ n. IsSound (g.N.Namer.name_of n) new) {y = c.args.repo.now.0} c.replay_into.ensures.namer c.sound.ensures in
    stands_replayed c.args.features name c.args.repo.now.1 new (g.R.Source.coming c.args.source) (g.W.Sink.taken c.args.sink.now) (g.W.Sink.taken c.replay_into.new.sink) c.in-Ok.report
    (c.histories_of_records.ensures name (g.met.N.Namer.is_namer c.args.repo.now.0)) sound c.in-Ok.ensures.replayed

pub returns-clause-exported : goal.returns-clause-exported
returns-clause-exported g c = λ leaves.
    let name = g.N.Namer.name_of c.args.repo.now.0 in
    let namer = g.met.N.Namer.is_namer c.args.repo.now.0 in
    let last = left_of c.replay_into.new.checkpoints c.replay_into.new.repo.1 in
    let coming = g.R.Source.coming c.args.source in
    let was = g.W.Sink.taken c.args.sink.now in
    let now = g.W.Sink.taken c.replay_into.new.sink in
    stopped name (c.histories_of_records.ensures name namer) (c.names_tell_values.ensures name namer) c.exports_are_readable.ensures.readable c.exports_are_imported.ensures.imported c.features_are_asked.ensures.exports c.args.features leaves
    c.args.repo.now.1 last c.truncate.new.self.1 coming was now c.in-Err.fault
    c.in-Err.ensures.replayed

pub returns-in-Ok-clause-nulls : goal.returns-in-Ok-clause-nulls
returns-in-Ok-clause-nulls g c = λ leaves.
    let name = g.N.Namer.name_of c.args.repo.now.0 in
    let new = c.replay_into.new.repo.1 in
    let coming = g.R.Source.coming c.args.source in
    let was = g.W.Sink.taken c.args.sink.now in
    let now = g.W.Sink.taken c.replay_into.new.sink in
    null_refused name (c.histories_of_records.ensures name (g.met.N.Namer.is_namer c.args.repo.now.0)) (c.names_tell_values.ensures name (g.met.N.Namer.is_namer c.args.repo.now.0)) c.nulls_are_refused.ensures.commands c.nulls_are_refused.ensures.refused c.nulls_are_refused.ensures.before c.features_are_asked.ensures.exports c.args.features leaves c.args.repo.now.1 new coming was now (Ok c.in-Ok.report)
    c.in-Ok.ensures.replayed

pub returns-clause-nulls : goal.returns-clause-nulls
returns-clause-nulls g c = λ leaves.
    let name = g.N.Namer.name_of c.args.repo.now.0 in
    let last = left_of c.replay_into.new.checkpoints c.replay_into.new.repo.1 in
    let coming = g.R.Source.coming c.args.source in
    let was = g.W.Sink.taken c.args.sink.now in
    let now = g.W.Sink.taken c.replay_into.new.sink in
    null_refused name (c.histories_of_records.ensures name (g.met.N.Namer.is_namer c.args.repo.now.0)) (c.names_tell_values.ensures name (g.met.N.Namer.is_namer c.args.repo.now.0)) c.nulls_are_refused.ensures.commands c.nulls_are_refused.ensures.refused c.nulls_are_refused.ensures.before c.features_are_asked.ensures.exports c.args.features leaves c.args.repo.now.1 last coming was now (Err c.in-Err.fault)
    c.in-Err.ensures.replayed

pub returns-in-Ok-clause-extends : goal.returns-in-Ok-clause-extends
returns-in-Ok-clause-extends g c = c.replay_into.ensures.extends

pub returns-in-Ok-clause-replayed : goal.returns-in-Ok-clause-replayed
returns-in-Ok-clause-replayed g c = c.in-Ok.ensures.replayed

pub returns-in-Ok-clause-gitlinks : goal.returns-in-Ok-clause-gitlinks
returns-in-Ok-clause-gitlinks g c = c.in-Ok.ensures.gitlinks

pub returns-clause-replayed : goal.returns-clause-replayed
returns-clause-replayed g c =
    let replays : g.row.N.Denot × Records → Type 0 = λ r. Imports c.args.features (g.N.Namer.name_of c.args.repo.now.0) c.args.repo.now.1 r.1 (g.R.Source.coming c.args.source) (g.W.Sink.taken c.args.sink.now) (g.W.Sink.taken c.replay_into.new.sink) (Err c.in-Err.fault) in
    subst replays (sym c.truncate.ensures) c.in-Err.ensures.replayed

pub returns-clause-gitlinks : goal.returns-clause-gitlinks
returns-clause-gitlinks g c = subst (λ (r : g.row.N.Denot × Records). KeepsSayable c.args.repo.now.1 r.1) (sym c.truncate.ensures) c.in-Err.ensures.gitlinks

pub returns-clause-unchanged : goal.returns-clause-unchanged
returns-clause-unchanged g c = λ zero.
    let none = c.in-Err.ensures.left.none (sym c.in-Err.ensures.counted ∙ zero) in
    as_before c.args.repo.now.0 c.replay_into.new.repo.0 c.args.repo.now.1 c.replay_into.new.repo.1 c.replay_into.new.checkpoints.records c.truncate.new.self c.truncate.ensures none.0 c.replay_into.ensures.extends c.replay_into.ensures.namer none.1

pub returns-clause-stopped : goal.returns-clause-stopped
returns-clause-stopped g c =
    let last = left_of c.replay_into.new.checkpoints c.replay_into.new.repo.1 in
    let was = g.W.Sink.taken c.args.sink.now in
    let now = g.W.Sink.taken c.replay_into.new.sink in
    cut_short (g.N.Namer.name_of c.args.repo.now.0) c.args.features c.args.repo.now.1 last (g.R.Source.coming c.args.source) was now c.in-Err.fault c.in-Err.ensures.replayed

pub returns-in-Ok-clause-retold : goal.returns-in-Ok-clause-retold
returns-in-Ok-clause-retold g c = c.in-Ok.ensures.retold

pub returns-clause-retold : goal.returns-clause-retold
returns-clause-retold g c = λ none.
    let retells : g.row.N.Denot × Records → Type 0 = λ r. IsOfOneReplay c.args.features (g.N.Namer.name_of c.args.repo.now.0) c.args.repo.now.1 r.1 (g.W.Sink.taken c.args.sink.now) (g.W.Sink.taken c.replay_into.new.sink) (Err c.in-Err.fault) c.replay_into.new.told in
    subst retells (sym c.truncate.ensures) (c.in-Err.ensures.retold none)
