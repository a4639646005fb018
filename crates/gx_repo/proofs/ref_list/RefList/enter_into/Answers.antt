use Rattle.std.proofs.Common.{ap, map, subst, sym, ◌∙◌}
use Rattle.std.specs.Prelude.{IsTrue}
use Rattle.std.specs.FinMap.Entries.{is_sorted}
use Rattle.std.proofs.lemmas.List.{take_all}
use Rattle.gx_model.specs.Texts.{byte_cmp}
use Rattle.gx_repo.specs.Refs.{AreInOrder, ref_of, shown_ref}
use Rattle.gx_repo.proofs.RefMaps.{one_more}
use Rattle.gx_repo.proofs.ref_list.RefList.enter_into.Goals as goal

pub loop-held-init : goal.loop-held-init
loop-held-init g c = ap (map ref_of) c.requires.none

pub loop-held-preserved : goal.loop-held-preserved
loop-held-preserved g c =
    let sorted = subst (λ rs. AreInOrder rs) (sym c.as_slice-held-items.ensures.value) c.self.invariant in
    one_more c.as_slice-held-items.result.now c.loop-held.held-index c.held-item.result c.as_slice.result.now c.loop-held.objects.entries c.enter.new.objects.entries sorted c.loop-held-test.true c.held-item.is c.as_slice.ensures.value c.in_ok-enter.ensures c.loop-held.invariant

pub returns-in_err-enter-clause-sorted : goal.returns-in_err-enter-clause-sorted
returns-in_err-enter-clause-sorted g c = subst (λ rs. IsTrue (is_sorted byte_cmp rs)) c.self.view_is c.self.invariant

pub returns-clause-entered : goal.returns-clause-entered
returns-clause-entered g c =
    c.loop-held.invariant
    ∙ ap (map shown_ref) (take_all c.loop-held.held-index c.as_slice-held-items.result.now c.loop-held-test.false ∙ c.as_slice-held-items.ensures.value)
    ∙ c.self.view_is

pub returns-clause-sorted : goal.returns-clause-sorted
returns-clause-sorted g c = subst (λ rs. IsTrue (is_sorted byte_cmp rs)) c.self.view_is c.self.invariant
