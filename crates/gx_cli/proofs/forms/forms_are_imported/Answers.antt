use Rattle.gx_cli.proofs.FormsAgain.{forms_imported}
use Rattle.gx_cli.proofs.forms.forms_are_imported.Goals as goal

pub returns : goal.returns
returns c = λ name namer.
    forms_imported name (c.histories_of_records.ensures name namer) (c.names_tell_values.ensures name namer) c.changes_are_readable.ensures.readable c.changes_are_imported.ensures.imported c.features_are_asked.ensures.changes
    c.items_are_read.ensures.items c.closed_commands_are_read.ensures.items c.closed_commands_are_read.ensures.commands c.changes_are_readable.ensures.spelled
