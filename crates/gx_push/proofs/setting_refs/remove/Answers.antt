use Rattle.std.proofs.Common.{Err, ap, subst, ◌∙◌}
use Rattle.gx_text.specs.Lent.{lent_texts}
use Rattle.gx_repo.specs.Dropping.{Drops}
use Rattle.gx_push.specs.Settings.{removed, shown_settings}
use Rattle.gx_push.proofs.SetRefs.{all_removed, left_by_drop}
use Rattle.gx_push.proofs.setting_refs.remove.Goals as goal

pub returns-in-Ok-clause-removed : goal.returns-in-Ok-clause-removed
returns-in-Ok-clause-removed g c =
    let old = c.args.repo.now.1 in
    let names = ap lent_texts c.as_slice.ensures.value ∙ c.in_ok-names.ensures in
    left_by_drop old c.drop_refs.new.self.1 (lent_texts c.as_slice.result.now) (removed old.refs (shown_settings c.args.settings.now)) names c.in-Ok.ensures.records c.in-Ok.ensures.refs

pub unreachable-requires : goal.unreachable-requires
unreachable-requires g c =
    let old = c.args.repo.now.1 in
    let names = ap lent_texts c.as_slice.ensures.value ∙ c.in_ok-names.ensures in
    all_removed old c.requires.1 c.requires.0 (shown_settings c.args.settings.now) c.requires.2 (lent_texts c.as_slice.result.now) names c.in-Err-UnknownRef.field-0-0
    (subst (λ fault. Drops old.refs c.drop_refs.new.self.1.refs (lent_texts c.as_slice.result.now) (Err fault)) c.in-Err-UnknownRef.field-0-is c.in-Err-UnknownRef.ensures.refs)
