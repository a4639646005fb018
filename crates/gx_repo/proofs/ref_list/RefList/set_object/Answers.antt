use Rattle.std.proofs.Common.{◌≡◌, ◌<◌, ◌∙◌, true, false, get_or, length, map, sym, ap, subst}
use Rattle.std.specs.Bool.{passes}
use Rattle.std.specs.Prelude.{IsTrue, is_some}
use Rattle.std.specs.FinMap.Entries.{is_sorted, is_sorted-put, put}
use Rattle.std.specs.declared.cmp.Ordering.TheVariants.{Equal}
use Rattle.gx_model.specs.Texts.{byte_cmp}
use Rattle.gx_model.proofs.Records.SortedRefs.{order}
use Rattle.gx_model.proofs.Texts.PathTests.{is_true}
use Rattle.gx_repo.specs.Refs.{AreInOrder, is_ref_held, shown_ref}
use Rattle.gx_repo.proofs.NamedRefs.{none_found, object_set}
use Rattle.gx_repo.proofs.ref_list.RefList.set_object.Goals as goal

pub unreachable-requires : goal.unreachable-requires
unreachable-requires g c =
    let n = c.args.name.now in
    let sorted = subst (λ rs. AreInOrder rs) (sym c.as_slice.ensures.value) c.self.invariant in
    let held = subst (λ rs. IsTrue (is_ref_held rs n)) (sym (ap (map shown_ref) c.as_slice.ensures.value ∙ c.self.view_is)) c.requires.held in
    let clash : true ≡ false = sym held ∙ ap is_some (sym (none_found n c.as_slice.result.now sorted c.in_default.field-0 c.in_default.ensures.place)) in
    cc

pub invariant_of-self : goal.invariant_of-self
invariant_of-self g c =
    let n = c.args.name.now in
    let refs = c.self.inside.refs.items in
    let held = c.index_mut.result.now in
    let within = subst (λ rs. c.in-Ok.place < length rs) c.as_slice.ensures.value c.in-Ok.ensures.bound in
    let there = subst (λ rs. byte_cmp (get_or rs c.in-Ok.place held).name.items n ≡ Equal) c.as_slice.ensures.value (c.in-Ok.ensures.place held) in
    subst (λ rs. IsTrue (is_sorted byte_cmp rs)) (sym (object_set n refs c.self.invariant c.args.object c.in-Ok.place held within c.index_mut.ensures.value there))
    (is_true _ (is_sorted-put byte_cmp order n c.args.object.bytes (map shown_ref refs) (passes _ c.self.invariant)))

pub returns : goal.returns
returns g c =
    let n = c.args.name.now in
    let refs = c.self.inside.refs.items in
    let held = c.index_mut.result.now in
    let within = subst (λ rs. c.in-Ok.place < length rs) c.as_slice.ensures.value c.in-Ok.ensures.bound in
    let there = subst (λ rs. byte_cmp (get_or rs c.in-Ok.place held).name.items n ≡ Equal) c.as_slice.ensures.value (c.in-Ok.ensures.place held) in
    object_set n refs c.self.invariant c.args.object c.in-Ok.place held within c.index_mut.ensures.value there ∙ ap (put byte_cmp n c.args.object.bytes) c.self.view_is
