use Rattle.gx_print.specs.Words.{with_lines}
use Rattle.gx_cli.proofs.DroppedStores.{all_dropped, none_dropped}
use Rattle.gx_cli.proofs.drop_refs.drop_lines.Goals as goal

pub returns-in-Ok-clause-dropped : goal.returns-in-Ok-clause-dropped
returns-in-Ok-clause-dropped g c = all_dropped g.N.Namer.name_of c.args.repo c.drop_names.new.repo (with_lines c.args.words.now c.args.lines.now) c.in-Ok.ensures c.sound.ensures

pub returns-in-Err-clause-dropped : goal.returns-in-Err-clause-dropped
returns-in-Err-clause-dropped g c = none_dropped g.N.Namer.name_of c.args.repo c.drop_names.new.repo (with_lines c.args.words.now c.args.lines.now) c.in-Err.fault c.in-Err.ensures
