use Rattle.std.proofs.Common.{ap, map, sym, subst, drop_of_length-le, ◌∙◌}
use Rattle.std.specs.Bool.{passes}
use Rattle.std.specs.Prelude.{IsTrue}
use Rattle.std.specs.FinMap.Entries.{is_sorted}
use Rattle.gx_model.specs.Records.Publishing.{with_changes}
use Rattle.gx_model.specs.Texts.{byte_cmp}
use Rattle.gx_model.proofs.Texts.PathTests.{is_true}
use Rattle.gx_repo.specs.Refs.{shown_update, ref_of}
use Rattle.gx_repo.proofs.NamedRefs.{in_order_with}
use Rattle.gx_repo.proofs.RefMaps.{one_made}
use Rattle.gx_repo.proofs.ref_list.RefList.with_changes.Goals as goal

pub loop-change-init : goal.loop-change-init
loop-change-init g c = ap (λ held. with_changes held (map shown_update c.args.changes.now)) c.in_ok-enter_into.ensures.entered

pub loop-change-preserved : goal.loop-change-preserved
loop-change-preserved g c =
    one_made c.args.changes.now c.loop-change.change-index _ c.loop-change.objects.entries c.enter.new.objects.entries _ c.loop-change-test.true c.in_ok-enter.ensures c.loop-change.invariant

pub returns : goal.returns
returns g c =
    c.in_ok-refs.ensures
    ∙ sym (ap (λ cs. with_changes (map ref_of c.loop-change.objects.entries) (map shown_update cs)) (drop_of_length-le c.args.changes.now c.loop-change-test.false))
    ∙ c.loop-change.invariant

pub invariant_of-result : goal.invariant_of-result
invariant_of-result g c =
    let made = c.in_ok-refs.ensures
    ∙ sym (ap (λ cs. with_changes (map ref_of c.loop-change.objects.entries) (map shown_update cs)) (drop_of_length-le c.args.changes.now c.loop-change-test.false))
    ∙ c.loop-change.invariant in
    subst (λ refs. IsTrue (is_sorted byte_cmp refs)) (sym made) (is_true _ (in_order_with c.args.self.now (map shown_update c.args.changes.now) (passes _ c.enter_into.ensures.sorted)))
