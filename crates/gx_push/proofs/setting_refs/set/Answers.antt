use Rattle.std.proofs.Common.{Err, ap, map, subst, ◌∙◌}
use Rattle.std.specs.List.{filter_map}
use Rattle.gx_model.specs.declared.faults.Fault.TheVariants as fault
use Rattle.gx_model.specs.Faults.{Gives}
use Rattle.gx_model.specs.Records.Publishing.{published}
use Rattle.gx_repo.specs.Publishing.{fault_of}
use Rattle.gx_repo.specs.Refs.{shown_update}
use Rattle.gx_push.specs.Settings.{change_in, shown_settings}
use Rattle.gx_push.proofs.ChangesMade.{left_with, none_refused}
use Rattle.gx_push.proofs.setting_refs.set.Goals as goal

pub returns-in-Ok-clause-set : goal.returns-in-Ok-clause-set
returns-in-Ok-clause-set g c =
    let changes = ap (map shown_update) c.as_slice.ensures.value ∙ c.in_ok-changes.ensures in
    left_with c.args.repo.now.1 c.publish.new.self.1 (map shown_update c.as_slice.result.now) (filter_map change_in (shown_settings c.args.settings.now)) changes c.requires c.in-Ok.ensures.records c.in-Ok.ensures.refs

pub unreachable-requires : goal.unreachable-requires
unreachable-requires g c =
    let changes = ap (map shown_update) c.as_slice.ensures.value ∙ c.in_ok-changes.ensures in
    none_refused c.args.repo.now.1 (map shown_update c.as_slice.result.now) (filter_map change_in (shown_settings c.args.settings.now)) fault.BadRefName changes c.requires
    (subst (λ f. Gives fault_of (λ (_ : Unit {0}). c.publish.new.self.1.refs) (Err f) (published c.args.repo.now.1 (map shown_update c.as_slice.result.now))) c.in-Err-BadRefName.field-0-is c.in-Err-BadRefName.ensures.refs)

pub unreachable-requires-in-Err-UnknownObject : goal.unreachable-requires-in-Err-UnknownObject
unreachable-requires-in-Err-UnknownObject g c =
    let changes = ap (map shown_update) c.as_slice.ensures.value ∙ c.in_ok-changes.ensures in
    none_refused c.args.repo.now.1 (map shown_update c.as_slice.result.now) (filter_map change_in (shown_settings c.args.settings.now)) fault.UnknownObject changes c.requires
    (subst (λ f. Gives fault_of (λ (_ : Unit {0}). c.publish.new.self.1.refs) (Err f) (published c.args.repo.now.1 (map shown_update c.as_slice.result.now))) c.in-Err-UnknownObject.field-0-is c.in-Err-UnknownObject.ensures.refs)

pub unreachable-requires-in-Err-WrongKind : goal.unreachable-requires-in-Err-WrongKind
unreachable-requires-in-Err-WrongKind g c =
    let changes = ap (map shown_update) c.as_slice.ensures.value ∙ c.in_ok-changes.ensures in
    none_refused c.args.repo.now.1 (map shown_update c.as_slice.result.now) (filter_map change_in (shown_settings c.args.settings.now)) fault.WrongKind changes c.requires
    (subst (λ f. Gives fault_of (λ (_ : Unit {0}). c.publish.new.self.1.refs) (Err f) (published c.args.repo.now.1 (map shown_update c.as_slice.result.now))) c.in-Err-WrongKind.field-0-is c.in-Err-WrongKind.ensures.refs)
