use Rattle.gx_repo.proofs.PrunedRecords.{mark_nowhere, mark_there}
use Rattle.gx_repo.proofs.pruning.mark.Goals as goal

pub returns-in-Some : goal.returns-in-Some
returns-in-Some g c = mark_there c.args.name.now.bytes c.args.store.now.1 c.in-Some.place c.args.marks.now c.requires.sound.distinct c.in-Some.ensures

pub returns-in_default : goal.returns-in_default
returns-in_default g c = mark_nowhere c.args.name.now.bytes c.args.store.now.1 c.args.marks.now c.in_default.ensures
