use Rattle.std.proofs.Common.{◌≡◌, Some, None, sym, ap, subst, ◌∙◌}
use Rattle.std.specs.Prelude.{not, if◌then◌else◌}
use Rattle.gx_model.specs.declared.faults.Fault.TheVariants.{WrongKind}
use Rattle.gx_model.specs.Histories.{Records}
use Rattle.gx_model.specs.Records.Publishing.{change_fault}
use Rattle.gx_repo.specs.Refs.{shown_update}
use Rattle.gx_model.proofs.Records.HeldObjects.{IsShown, is_shown, tag_shown}
use Rattle.gx_model.proofs.Records.ChangedRefs.{fault_shown}
use Rattle.gx_repo.proofs.repo.Repo.check.Goals as goal

pub returns-then-is_target-clause-ok : goal.returns-then-is_target-clause-ok
returns-then-is_target-clause-ok g c =
    let change = shown_update c.args.change.now in
    let rs = c.self.inside.store.1 in
    let r : Records = record { records = rs; refs = c.self.inside.refs } in
    let body = c.in-Some.body.now in
    let shown = is_shown rs change.1 c.in-Some.kind body c.in-Some.ensures in
    let may = c.is_target.ensures (λ k. tag_shown (g.N.Namer.name_of c.self.inside.store.0) (g.met.N.Namer.is_namer c.self.inside.store.0) r c.self.invariant.0 change.1 body (subst (λ k. IsShown rs change.1 k body) k shown)) in
    subst (λ v. change_fault v.1.records change ≡ None) c.self.view_is
    (fault_shown rs change c.in-Some.kind body (sym c.is_ref_name.ensures ∙ c.if-not-is_ref_name.false) shown ∙ ap (λ b. if not b then Some WrongKind else None) (sym may ∙ c.if-is_target.true))

pub returns-else-is_target-clause-fault : goal.returns-else-is_target-clause-fault
returns-else-is_target-clause-fault g c =
    let change = shown_update c.args.change.now in
    let rs = c.self.inside.store.1 in
    let r : Records = record { records = rs; refs = c.self.inside.refs } in
    let body = c.in-Some.body.now in
    let shown = is_shown rs change.1 c.in-Some.kind body c.in-Some.ensures in
    let may = c.is_target.ensures (λ k. tag_shown (g.N.Namer.name_of c.self.inside.store.0) (g.met.N.Namer.is_namer c.self.inside.store.0) r c.self.invariant.0 change.1 body (subst (λ k. IsShown rs change.1 k body) k shown)) in
    subst (λ v. change_fault v.1.records change ≡ Some WrongKind) c.self.view_is
    (fault_shown rs change c.in-Some.kind body (sym c.is_ref_name.ensures ∙ c.if-not-is_ref_name.false) shown ∙ ap (λ b. if not b then Some WrongKind else None) (sym may ∙ c.if-is_target.false))
