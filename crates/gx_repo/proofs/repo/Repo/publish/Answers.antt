use Rattle.std.proofs.Common.{map, sym, ap, subst, ◌∙◌}
use Rattle.gx_model.specs.Histories.{Records}
use Rattle.gx_model.specs.Records.Publishing.{with_changes}
use Rattle.gx_model.specs.Records.Sound.{IsSound}
use Rattle.gx_repo.specs.Refs.{are_held, shown_update}
use Rattle.gx_repo.specs.Repositories.{held_in}
use Rattle.gx_model.proofs.Records.ChangedRefs.{published_is_sound}
use Rattle.gx_repo.proofs.PublishedRefs.{if_refused, not_refused, nothing_hidden, told}
use Rattle.gx_repo.proofs.repo.Repo.publish.Goals as goal

pub invariant_of-self : goal.invariant_of-self
invariant_of-self g c =
    let names = g.N.Namer.name_of c.self.inside.store.0 in
    let refs = c.in_err-change.ensures.unchanged in
    (subst (λ v. IsSound names (record { records = c.self.inside.store.1; refs = v })) (sym refs) c.self.invariant.0, c.self.invariant.1)

pub returns-in_err-change-clause-unchanged : goal.returns-in_err-change-clause-unchanged
returns-in_err-change-clause-unchanged g c =
    let store = c.self.inside.store in
    if_refused c.from_residual-in_err-change.result (ap (λ v. (store.0, held_in store.1 v)) c.in_err-change.ensures.unchanged ∙ c.self.view_is)

pub invariant_of-self-2 : goal.invariant_of-self-2
invariant_of-self-2 g c =
    let names = g.N.Namer.name_of c.self.inside.store.0 in
    let namer = g.met.N.Namer.is_namer c.self.inside.store.0 in
    let r : Records = record { records = c.self.inside.store.1; refs = c.self.inside.refs } in
    let changes = map shown_update c.args.changes.now in
    let free = rw (sym c.self.view_is) at c.in_ok-check_all.ensures.ok in
    let law = published_is_sound names namer (c.parts_change.ensures names namer) r c.self.invariant.0 changes (with_changes r.refs changes) (not_refused r changes free) in
    (subst (λ refs. IsSound names (record { records = r.records; refs = refs })) (sym c.in_ok-change.ensures.set) law.0, c.self.invariant.1)

pub returns-in_err-check_all-clause-unhidden : goal.returns-in_err-check_all-clause-unhidden
returns-in_err-check_all-clause-unhidden g c =
    told c.args.self.now.1 (map shown_update c.args.changes.now) c.in_err-check_all.field-0.0 c.from_residual.result c.from_residual.ensures.1 c.in_err-check_all.ensures.fault

pub returns-in_err-change-clause-unhidden : goal.returns-in_err-change-clause-unhidden
returns-in_err-change-clause-unhidden g c =
    let changes = map shown_update c.args.changes.now in
    let missing = sym (ap (λ v. are_held v.1.refs changes) c.self.view_is) ∙ c.in_err-change.ensures.missing in
    nothing_hidden c.args.self.now.1 changes c.in_ok-check_all.ensures.ok missing c.from_residual-in_err-change.result
