use Rattle.std.proofs.Common.{Ok, ap, sym, ◌∙◌}
use Rattle.std.specs.List.{filter_map}
use Rattle.gx_model.specs.Histories.{Records}
use Rattle.gx_model.specs.Records.Publishing.{changes_fault}
use Rattle.gx_push.specs.Calls.{texts}
use Rattle.gx_push.specs.Settings.{change_in, shown_settings}
use Rattle.gx_push.proofs.SetRefs.{changes_free}
use Rattle.gx_push.proofs.setting_refs.set_refs.Goals as goal

pub set-requires : goal.set-requires
set-requires g c =
    let sets = shown_settings c.as_slice-2.result.now in
    let read = c.in_ok-settings.ensures ∙ ap (λ ss. Ok (shown_settings ss)) (sym c.as_slice-2.ensures.value) in
    ap (λ (r : Records). changes_fault r.records (filter_map change_in sets)) c.in_ok-remove.ensures.removed
    ∙ changes_free c.args.repo.1 c.args.forced (texts c.args.lines.now) sets read
