use Rattle.gx_model.specs.Laws.RepositoryLaws.{values_of}
use Rattle.gx_command.specs.Views.{shown_data}
use Rattle.gx_object.specs.declared.name.Name.{Name}
use Rattle.gx_import.proofs.AskedReferences.{data_vain}
use Rattle.gx_import.proofs.changes.told_content.Goals as goal

pub returns-in-Ok-clause-asked : goal.returns-in-Ok-clause-asked
returns-in-Ok-clause-asked g c = λ s h. c.requires.unasked

pub returns-in-Err-clause-asked : goal.returns-in-Err-clause-asked
returns-in-Err-clause-asked g c = λ s h.
    data_vain (g.N.Namer.name_of c.args.repo.now.0) {X = Name} (values_of c.args.repo.now.1) s c.args.mode (shown_data c.args.data_ref) (λ r x. Unit {0}) c.in-Err.kind c.of_data-refers.result c.of_data-refers.ensures (c.in-Err.ensures.steps s h)
