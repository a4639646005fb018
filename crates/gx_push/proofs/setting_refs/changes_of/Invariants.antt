use Rattle.std.proofs.Common.{map}
use Rattle.gx_repo.specs.Refs.{shown_update}
use Rattle.gx_push.proofs.ChangesMade.{AreMade}
use Rattle.gx_push.proofs.setting_refs.changes_of.Given as goal

abbrev pub invariant-loop-setting : goal.invariant-loop-setting
invariant-loop-setting g l = AreMade l.settings (map shown_update l.changes.items) l.setting-index
