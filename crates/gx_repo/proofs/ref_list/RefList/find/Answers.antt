use Rattle.std.proofs.Common.{rules, of_calls, ap, map, sym, subst, ◌∙◌, ◌++◌}
use Rattle.std.specs.Map.{lookup}
use Rattle.std.proofs.lemmas.Fn.{always_returns_same}
use Rattle.gx_model.specs.Texts.{byte_cmp, same_bytes}
use Rattle.gx_repo.specs.Refs.{AreInOrder, shown_ref}
use Rattle.gx_repo.proofs.NamedRefs.{none_found, object_found}
use Rattle.gx_repo.proofs.ref_list.RefList.find.Goals as goal

pub returns-in-Ok : goal.returns-in-Ok
returns-in-Ok g c =
    let n = c.args.before.now ++ c.args.word.now ++ c.args.after.now in
    let sorted = subst (λ rs. AreInOrder rs) (sym c.as_slice-refs.ensures.value) c.self.invariant in
    let is_at = c.in-Ok.ensures.position (λ x. byte_cmp x.name.items n) (always_returns_same _ _ _ (λ a r f k. search (rules, of_calls))) in
    object_found n c.as_slice-refs.result.now sorted c.in-Ok.place c.index-refs-place.result c.in-Ok.ensures.bound (is_at c.index-refs-place.result)
    ∙ ap (λ rs. lookup (same_bytes n) (map shown_ref rs)) c.as_slice-refs.ensures.value
    ∙ ap (lookup (same_bytes n)) c.self.view_is

pub returns-in-Err : goal.returns-in-Err
returns-in-Err g c =
    let n = c.args.before.now ++ c.args.word.now ++ c.args.after.now in
    let sorted = subst (λ rs. AreInOrder rs) (sym c.as_slice-refs.ensures.value) c.self.invariant in
    let parted = c.in-Err.ensures.position (λ x. byte_cmp x.name.items n) (always_returns_same _ _ _ (λ a r f k. search (rules, of_calls))) in
    none_found n c.as_slice-refs.result.now sorted c.in-Err.field-0 parted
    ∙ ap (λ rs. lookup (same_bytes n) (map shown_ref rs)) c.as_slice-refs.ensures.value
    ∙ ap (lookup (same_bytes n)) c.self.view_is
