use Rattle.std.proofs.Common.{[], ◌++◌, ◌∙◌, sym, subst, map, ap}
use Rattle.std.proofs.lemmas.List.{append-nil}
use Rattle.std.specs.List.{AllByRecursion}
use Rattle.gx_model.specs.Export.{is_reached}
use Rattle.gx_model.specs.Records.Sound.{IsTarget}
use Rattle.gx_model.proofs.Records.HeldValues.{peeled_to}
use Rattle.gx_model.proofs.Records.PeeledRefs.{not_unpeeled, target_peels, told}
use Rattle.gx_rev.specs.Objects.{commit_at}
use Rattle.gx_rev.specs.Tips.{AreTips}
use Rattle.gx_rev.proofs.RefTips.{next_ref, tip_is}
use Rattle.gx_rev.proofs.refs.mark_refs.Goals as goal

pub loop-object-init : goal.loop-object-init
loop-object-init g c =
    let all = c.into_iter-object-iterator.ensures.into_iter_gives ∙ c.refs-object-items.ensures.held in (
      tt,
      ([], sym all, c.requires),
      subst (AllByRecursion (λ ref. IsTarget c.args.repo.now.1.records ref.0 ref.1)) (sym all) c.refs-object-items.ensures.sound.held,
    )

pub mark-requires-clause-held : goal.mark-requires-clause-held
mark-requires-clause-held g c =
    let name = g.N.Namer.name_of c.args.repo.now.0 in
    let namer = g.met.N.Namer.is_namer c.args.repo.now.0 in
    let r = c.args.repo.now.1 in
    let target = (subst (AllByRecursion (λ ref. IsTarget r.records ref.0 ref.1)) c.in-Some.ensures.steps c.loop-object.invariant.2).0 in
    (peeled_to name namer r c.refs-object-items.ensures.sound c.in-Some.object.bytes c.in-Some-peel.commit.bytes (target_peels name namer r c.refs-object-items.ensures.sound c.in-Some.field-0-0.now c.in-Some.object.bytes target).held c.in-Some-peel.ensures.commit).1

pub mark-requires-clause-long : goal.mark-requires-clause-long
mark-requires-clause-long g c = c.loop-object.invariant.1.2.long

pub loop-object-preserved-in-Some-peel : goal.loop-object-preserved-in-Some-peel
loop-object-preserved-in-Some-peel g c =
    let name = g.N.Namer.name_of c.args.repo.now.0 in
    let namer = g.met.N.Namer.is_namer c.args.repo.now.0 in
    let r = c.args.repo.now.1 in
    let rest = subst (AllByRecursion (λ ref. IsTarget r.records ref.0 ref.1)) c.in-Some.ensures.steps c.loop-object.invariant.2 in
    let i = c.loop-object.invariant.1 in (
      tt,
      next_ref r i.0 c.loop-object.object-iterator c.next.new.self (c.in-Some.field-0-0.now, c.in-Some.object.bytes) c.loop-object.marks c.mark.new.marks (commit_at r c.in-Some-peel.commit) i.1 c.in-Some.ensures.steps
          (tip_is name namer r c.refs-object-items.ensures.sound c.in-Some.field-0-0.now c.in-Some.object.bytes c.in-Some-peel.commit.bytes rest.0 c.in-Some-peel.ensures.commit) i.2 c.mark.ensures.tips,
      rest.1,
    )

pub loop-object-preserved : goal.loop-object-preserved
loop-object-preserved g c =
    let name = g.N.Namer.name_of c.args.repo.now.0 in
    let namer = g.met.N.Namer.is_namer c.args.repo.now.0 in
    let r = c.args.repo.now.1 in
    let rest = subst (AllByRecursion (λ ref. IsTarget r.records ref.0 ref.1)) c.in-Some.ensures.steps c.loop-object.invariant.2 in
    absurd (not_unpeeled name namer r c.refs-object-items.ensures.sound c.in-Some.field-0-0.now c.in-Some.object.bytes rest.0 c.in_default.ensures.commit)

pub returns : goal.returns
returns g c =
    let r = c.args.repo.now.1 in
    let i = c.loop-object.invariant.1 in
    let all = i.1 ∙ ap (λ x. i.0 ++ x) c.in-None.ensures.steps.0 ∙ append-nil i.0 in
    subst (λ refs. AreTips r (is_reached (map (told r) refs)) c.loop-object.marks) (sym all) i.2
