-- What names a commit in a stream, as the program has it.
use Rattle.std.specs.Prelude.{◌++◌, codes}
use Rattle.gx_model.specs.Objects.{hex}
use Rattle.gx_model.specs.Streams.Commands as command
use Rattle.gx_export.specs.declared.naming.CommitIsh.{CommitIsh}
use Rattle.gx_export.specs.declared.naming.CommitIsh.TheVariants.{Marked, Named}

abbrev pub shown_commit : CommitIsh → command.CommitIsh
shown_commit (Marked mark) = command.Marked mark
shown_commit (Named name) = command.Named (hex name.bytes ++ codes "^0")
