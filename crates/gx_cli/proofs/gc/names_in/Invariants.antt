use Rattle.std.proofs.Common.{◌≡◌, drop}
use Rattle.gx_object.specs.Commits.{bytes_of_names}
use Rattle.gx_cli.specs.Collecting.{kept_names}
use Rattle.gx_cli.specs.Gathering.{texts_of}
use Rattle.gx_cli.proofs.CollectedStores.{joined}
use Rattle.gx_cli.proofs.gc.names_in.Given as goal

abbrev pub invariant-loop-line : goal.invariant-loop-line
invariant-loop-line g l = kept_names (texts_of l.lines) ≡ joined (bytes_of_names l.names.items) (kept_names (texts_of (drop l.line-index l.lines)))
