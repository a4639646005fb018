use Rattle.std.proofs.Common.{◌≡◌, length, refl, sym, ap, subst, ◌∙◌, arith}
use Rattle.gx_model.specs.Histories.{Records}
use Rattle.gx_model.specs.Records.Sound.{IsSound}
use Rattle.gx_object.specs.Commits.{bytes_of_names}
use Rattle.gx_store.specs.Marked.{marked}
use Rattle.gx_repo.specs.Pruning.{is_kept_beside, marks_by, pruned_beside, weight}
use Rattle.gx_repo.specs.Repositories.{held_in}
use Rattle.gx_repo.specs.Rooms.{IsFront}
use Rattle.gx_repo.proofs.KeptRecords.{beside_none}
use Rattle.gx_repo.proofs.PrunedRecords.{marked_less, pruned_is, pruned_sound, store_sound, weight_less}
use Rattle.gx_repo.proofs.repo.Repo.prune.Goals as goal

pub reachable_marks-requires : goal.reachable_marks-requires
reachable_marks-requires g c =
    let r : Records = record { records = c.self.inside.store.1; refs = c.self.inside.refs } in
    store_sound (g.N.Namer.name_of c.self.inside.store.0) r c.self.invariant.0

pub overflow_sub-objects : goal.overflow_sub-objects
overflow_sub-objects g c =
    let rs = c.self.inside.store.1 in
    let left : length c.retain.new.self.1 ≡ length (marked c.deref.result.now rs) = ap (λ v. length v.1) c.retain.ensures in
    omega (arith, c.len.ensures.count, c.len-held.ensures.count, left, marked_less c.deref.result.now rs)

pub overflow_sub-bytes : goal.overflow_sub-bytes
overflow_sub-bytes g c =
    let rs = c.self.inside.store.1 in
    let left : weight c.retain.new.self.1 ≡ weight (marked c.deref.result.now rs) = ap (λ v. weight v.1) c.retain.ensures in
    omega (arith, c.weight.ensures, c.weight-weighed.ensures, left, weight_less c.deref.result.now rs)

pub invariant_of-self : goal.invariant_of-self
invariant_of-self g c =
    let name_of = g.N.Namer.name_of c.self.inside.store.0 in
    let namer = g.met.N.Namer.is_namer c.self.inside.store.0 in
    let r : Records = record { records = c.self.inside.store.1; refs = c.self.inside.refs } in
    let names = bytes_of_names c.args.kept.now in
    let by_reach : c.deref.result.now ≡ marks_by (is_kept_beside names r) r.records =
    c.deref.ensures.value ∙ c.in_ok-marks.ensures in (
      subst (λ v. IsSound (g.N.Namer.name_of v.0) (record { records = v.1; refs = r.refs })) (sym c.retain.ensures) (pruned_sound name_of namer names r c.deref.result.now c.self.invariant.0 by_reach),
      subst (λ xs. IsFront xs c.retain.new.self.1) (sym c.clear.ensures.items) refl,
    )

pub returns-clause-namer : goal.returns-clause-namer
returns-clause-namer g c = ap (λ v. v.0) c.retain.ensures ∙ ap (λ v. v.0) c.self.view_is

pub returns-clause-pruned : goal.returns-clause-pruned
returns-clause-pruned g c =
    let refs = c.self.inside.refs in
    let r : Records = record { records = c.self.inside.store.1; refs = refs } in
    let names = bytes_of_names c.args.kept.now in
    let by_reach : c.deref.result.now ≡ marks_by (is_kept_beside names r) r.records =
    c.deref.ensures.value ∙ c.in_ok-marks.ensures in
    ap (λ v. held_in v.1 refs) c.retain.ensures ∙ pruned_is names r c.deref.result.now by_reach ∙ ap (λ v. pruned_beside names v.1) c.self.view_is

pub returns-clause-by_refs : goal.returns-clause-by_refs
returns-clause-by_refs g c = λ none. returns-clause-pruned g c ∙ ap (λ ns. pruned_beside (bytes_of_names ns) c.args.self.now.1) none ∙ beside_none c.args.self.now.1

pub returns-clause-objects : goal.returns-clause-objects
returns-clause-objects g c =
    let rs = c.self.inside.store.1 in
    let left : length c.retain.new.self.1 ≡ length (marked c.deref.result.now rs) = ap (λ v. length v.1) c.retain.ensures in
    let old : length rs ≡ length c.args.self.now.1.records = ap (λ v. length v.1.records) c.self.view_is in
    omega (arith, c.len.ensures.count, c.len-held.ensures.count, left, old, marked_less c.deref.result.now rs)

pub returns-clause-bytes : goal.returns-clause-bytes
returns-clause-bytes g c =
    let rs = c.self.inside.store.1 in
    let left : weight c.retain.new.self.1 ≡ weight (marked c.deref.result.now rs) = ap (λ v. weight v.1) c.retain.ensures in
    let old : weight rs ≡ weight c.args.self.now.1.records = ap (λ v. weight v.1.records) c.self.view_is in
    omega (arith, c.weight.ensures, c.weight-weighed.ensures, left, old, weight_less c.deref.result.now rs)
