use Rattle.std.proofs.Common.{Err, map, subst}
use Rattle.gx_model.specs.declared.faults.Fault.TheVariants as fault
use Rattle.gx_model.specs.Faults.{Gives}
use Rattle.gx_model.specs.Records.Publishing.{published}
use Rattle.gx_repo.specs.Publishing.{fault_of}
use Rattle.gx_repo.specs.Refs.{shown_update}
use Rattle.gx_taken.proofs.FreeRefs.{left_by_changes, never_refused}
use Rattle.gx_taken.proofs.setting.publish_all.Goals as goal

pub returns-in-Ok-clause-set : goal.returns-in-Ok-clause-set
returns-in-Ok-clause-set g c =
    left_by_changes c.args.repo.now.1 c.publish.new.self.1 (map shown_update c.args.changes.now) c.requires c.in-Ok.ensures.records c.in-Ok.ensures.refs

pub unreachable-requires : goal.unreachable-requires
unreachable-requires g c =
    let old = c.args.repo.now.1 in
    never_refused old (map shown_update c.args.changes.now) fault.BadRefName c.requires
    (subst (λ f. Gives fault_of (λ (_ : Unit {0}). c.publish.new.self.1.refs) (Err f) (published old (map shown_update c.args.changes.now))) c.in-Err-BadRefName.field-0-is c.in-Err-BadRefName.ensures.refs)

pub unreachable-requires-in-Err-UnknownObject : goal.unreachable-requires-in-Err-UnknownObject
unreachable-requires-in-Err-UnknownObject g c =
    let old = c.args.repo.now.1 in
    never_refused old (map shown_update c.args.changes.now) fault.UnknownObject c.requires
    (subst (λ f. Gives fault_of (λ (_ : Unit {0}). c.publish.new.self.1.refs) (Err f) (published old (map shown_update c.args.changes.now))) c.in-Err-UnknownObject.field-0-is c.in-Err-UnknownObject.ensures.refs)

pub unreachable-requires-in-Err-WrongKind : goal.unreachable-requires-in-Err-WrongKind
unreachable-requires-in-Err-WrongKind g c =
    let old = c.args.repo.now.1 in
    never_refused old (map shown_update c.args.changes.now) fault.WrongKind c.requires
    (subst (λ f. Gives fault_of (λ (_ : Unit {0}). c.publish.new.self.1.refs) (Err f) (published old (map shown_update c.args.changes.now))) c.in-Err-WrongKind.field-0-is c.in-Err-WrongKind.ensures.refs)
