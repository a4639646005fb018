use Rattle.gx_text.specs.Lent.{lent_texts}
use Rattle.gx_push.specs.Settings.{is_removed, ref_of, shown_setting}
use Rattle.gx_push.proofs.PassedNames.{AreNamed}
use Rattle.gx_push.proofs.setting_refs.removed.Given as goal

abbrev pub invariant-loop-setting : goal.invariant-loop-setting
invariant-loop-setting g l = AreNamed ref_of (is_removed l.repo.1.refs) shown_setting l.settings (lent_texts l.names.items) l.setting-index
