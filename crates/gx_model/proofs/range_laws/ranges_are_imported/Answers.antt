use Rattle.gx_model.proofs.Ranges.SpelledRanges.{range_imported, sound_imported}
use Rattle.gx_model.proofs.range_laws.ranges_are_imported.Goals as goal

pub returns-clause-imported : goal.returns-clause-imported
returns-clause-imported c = λ name namer closed h x words target receive r. range_imported h x words name namer closed target receive r

pub returns-clause-received : goal.returns-clause-received
returns-clause-received c = sound_imported
