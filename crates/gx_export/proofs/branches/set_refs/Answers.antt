use Rattle.std.proofs.Common.{[], ◌∷◌, ◌++◌, ◌∙◌, refl, sym, ap, subst, append_assoc}
use Rattle.std.specs.List.{filter, AllByRecursion}
use Rattle.std.proofs.lemmas.List.{append-nil}
use Rattle.gx_model.specs.Records.Sound.{IsTarget}
use Rattle.gx_model.specs.Texts.{Bytes}
use Rattle.gx_export.specs.Branches.{commit_of_ref, shown_tips}
use Rattle.gx_export.proofs.FoundBranches.{all_more, filter_more, filter_same, shown_more}
use Rattle.gx_export.proofs.branches.set_refs.Goals as goal

pub loop-name-init : goal.loop-name-init
loop-name-init g c =
    let all = c.into_iter-name-iterator.ensures.into_iter_gives ∙ c.refs-name-items.ensures.held in (
      tt,
      ([], sym all, λ test e. ap shown_tips c.new-refs.ensures.items, subst (AllByRecursion (λ ref. IsTarget c.args.repo.now.1.records ref.0 ref.1)) (sym (ap shown_tips c.new-refs.ensures.items)) tt),
      subst (AllByRecursion (λ ref. IsTarget c.args.repo.now.1.records ref.0 ref.1)) (sym all) c.refs-name-items.ensures.sound.held,
    )

pub is_set-requires-clause-target : goal.is_set-requires-clause-target
is_set-requires-clause-target g c = (c.in-Some.name.now, (subst (AllByRecursion (λ ref. IsTarget c.args.repo.now.1.records ref.0 ref.1)) c.in-Some.ensures.steps c.loop-name.invariant.2).0)

pub loop-name-preserved-in-Continue-1 : goal.loop-name-preserved-in-Continue-1
loop-name-preserved-in-Continue-1 g c =
    let r = c.args.repo.now.1 in
    let i = c.loop-name.invariant.1 in
    let ref : Bytes × Bytes = (c.in-Some.name.now, c.in-Some.object.bytes) in
    let rest = subst (AllByRecursion (λ q. IsTarget r.records q.0 q.1)) c.in-Some.ensures.steps c.loop-name.invariant.2 in
    let more = shown_more (shown_tips c.loop-name.refs.items) c.loop-name.refs.items c.push.new.self.items (c.in-Some.name, c.in-Some.object) c.in_ok-push.ensures.items refl in (
      tt,
      (
        i.0 ++ ref ∷ [],
        i.1 ∙ ap (λ x. i.0 ++ x) c.in-Some.ensures.steps ∙ sym (append_assoc i.0 (ref ∷ []) c.next.new.self),
        λ test e. more ∙ ap (λ rs. rs ++ ref ∷ []) (i.2 test e) ∙ sym (filter_more (λ q. test (commit_of_ref r q.1)) i.0 ref (sym (c.is_set.ensures test e) ∙ c.if-is_set.true)),
        subst (AllByRecursion (λ q. IsTarget r.records q.0 q.1)) (sym more) (all_more (λ q. IsTarget r.records q.0 q.1) (shown_tips c.loop-name.refs.items) ref i.3 rest.0),
      ),
      rest.1,
    )

pub loop-name-preserved : goal.loop-name-preserved
loop-name-preserved g c =
    let r = c.args.repo.now.1 in
    let i = c.loop-name.invariant.1 in
    let ref : Bytes × Bytes = (c.in-Some.name.now, c.in-Some.object.bytes) in
    let rest = subst (AllByRecursion (λ q. IsTarget r.records q.0 q.1)) c.in-Some.ensures.steps c.loop-name.invariant.2 in (
      tt,
      (
        i.0 ++ ref ∷ [],
        i.1 ∙ ap (λ x. i.0 ++ x) c.in-Some.ensures.steps ∙ sym (append_assoc i.0 (ref ∷ []) c.next.new.self),
        λ test e. i.2 test e ∙ sym (filter_same (λ q. test (commit_of_ref r q.1)) i.0 ref (sym (c.is_set.ensures test e) ∙ c.if-is_set.false)),
        i.3,
      ),
      rest.1,
    )

pub returns-clause-set : goal.returns-clause-set
returns-clause-set g c = λ test e.
    let r = c.args.repo.now.1 in
    let i = c.loop-name.invariant.1 in
    let all = i.1 ∙ ap (λ x. i.0 ++ x) c.in-None.ensures.steps.0 ∙ append-nil i.0 in
    i.2 test e ∙ ap (filter (λ q. test (commit_of_ref r q.1))) (sym all)

pub returns-clause-targets : goal.returns-clause-targets
returns-clause-targets g c = c.loop-name.invariant.1.3
