use Rattle.std.proofs.Common.{rules, of_calls, ap, sym, subst, ◌∙◌, []}
use Rattle.std.specs.Prelude.{IsTrue}
use Rattle.std.specs.FinMap.Entries.{is_sorted}
use Rattle.std.specs.Bool.{passes}
use Rattle.std.proofs.lemmas.Fn.{always_returns_same}
use Rattle.std.specs.Borrow.{Bor}
use Rattle.gx_model.specs.Texts.{Bytes, byte_cmp}
use Rattle.gx_object.specs.declared.name.Name.{Name}
use Rattle.gx_model.proofs.Records.SortedRefs.{answers_rise, found_at, not_parted}
use Rattle.gx_ref_lines.specs.Refs.{shown_refs}
use Rattle.gx_repo.specs.Refs.{object_named, shown_lent_ref}
use Rattle.gx_ref_lines.proofs.ref_lines.RefLines.find.Goals as goal

pub returns-in-Ok : goal.returns-in-Ok
returns-in-Ok g c sorted =
    let n = c.args.name.now in
    let held = c.as_slice-refs.ensures.value in
    let refs = c.as_slice-refs.result.now in
    let in_order = subst (λ rs. IsTrue (is_sorted byte_cmp (shown_refs rs))) (sym held) sorted in
    let is_at = c.in-Ok.ensures.position (λ x. byte_cmp x.0.now n) (always_returns_same _ _ _ (λ a r f k. search (rules, of_calls))) in
    let past : Bor Bytes × Name = (record { ref_ptr = (0, 0); now = [] }, record { bytes = [] }) in
    found_at shown_lent_ref n refs c.in-Ok.place past (passes _ in_order) c.in-Ok.ensures.bound (is_at past) ∙ ap (λ rs. object_named (shown_refs rs) n) held

pub returns-in-Err : goal.returns-in-Err
returns-in-Err g c sorted =
    let n = c.args.name.now in
    let held = c.as_slice-refs.ensures.value in
    let refs = c.as_slice-refs.result.now in
    let in_order = subst (λ rs. IsTrue (is_sorted byte_cmp (shown_refs rs))) (sym held) sorted in
    let parted = c.in-Err.ensures.position (λ x. byte_cmp x.0.now n) (always_returns_same _ _ _ (λ a r f k. search (rules, of_calls))) in
    not_parted shown_lent_ref n refs c.in-Err.field-0 (parted (answers_rise shown_lent_ref n refs (passes _ in_order))) ∙ ap (λ rs. object_named (shown_refs rs) n) held
