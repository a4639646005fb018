use Rattle.std.proofs.Common.{Some, Ok, Err, ap, subst}
use Rattle.gx_model.specs.Records.Sound.{IsSound}
use Rattle.gx_cli.proofs.RoundTrips.{imported_again}
use Rattle.gx_cli.proofs.trips.import_again.Goals as goal

pub returns-in-Ok-clause-sound : goal.returns-in-Ok-clause-sound
returns-in-Ok-clause-sound g c =
    subst (λ (n : g.row.N.Denot). IsSound (g.N.Namer.name_of n) c.import.new.repo.1) (ap (λ z. z.0) c.new-again.ensures) c.import.ensures.sound

pub returns-in-Ok-clause-again : goal.returns-in-Ok-clause-again
returns-in-Ok-clause-again g c =
    imported_again g.N.Namer.name_of c.args.namer c.args.form c.args.exported.now c.new-again.result c.import.new.repo.1 c.args.text.now c.new.result.coming (Some c.new-progress.result) (Some c.import.new.sink) (Ok c.in-Ok.field-0)
    (c.forms_are_imported.ensures (g.N.Namer.name_of c.args.namer) (g.met.N.Namer.is_namer c.args.namer)) c.replays_keep_none.ensures.reached c.new-again.ensures c.requires.namer c.sound.ensures c.requires.gitlinks
    c.new.ensures.coming c.requires.text c.requires.short c.import.ensures.sound c.in-Ok.ensures.replayed tt c.in-Ok.ensures.exported

pub returns-in-Err-clause-again : goal.returns-in-Err-clause-again
returns-in-Err-clause-again g c =
    imported_again g.N.Namer.name_of c.args.namer c.args.form c.args.exported.now c.new-again.result c.import.new.repo.1 c.args.text.now c.new.result.coming (Some c.new-progress.result) (Some c.import.new.sink) (Err c.in-Err.fault)
    (c.forms_are_imported.ensures (g.N.Namer.name_of c.args.namer) (g.met.N.Namer.is_namer c.args.namer)) c.replays_keep_none.ensures.reached c.new-again.ensures c.requires.namer c.sound.ensures c.requires.gitlinks
    c.new.ensures.coming c.requires.text c.requires.short c.import.ensures.sound c.in-Err.ensures.replayed c.in-Err.ensures.stopped c.in-Err.ensures.exported
