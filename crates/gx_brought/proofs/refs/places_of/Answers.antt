use Rattle.std.proofs.Common.{rules, of_calls, refl, [], get_or}
use Rattle.std.specs.Borrow.{Bor}
use Rattle.std.specs.Bool.{passes}
use Rattle.std.proofs.lemmas.Fn.{always_returns_same}
use Rattle.gx_model.specs.Texts.{Bytes, byte_cmp}
use Rattle.gx_object.specs.declared.name.Name.{Name}
use Rattle.gx_repo.specs.Refs.{shown_lent_ref}
use Rattle.gx_brought.proofs.MergedRefs.{parted_at, parted_between}
use Rattle.gx_brought.proofs.refs.places_of.Goals as goal

pub returns-in-Ok-clause-parts : goal.returns-in-Ok-clause-parts
returns-in-Ok-clause-parts c object =
    let name = c.args.name.now in
    let refs = c.args.refs.now in
    let past : Bor Bytes × Name = (record { ref_ptr = (0, 0); now = [] }, record { bytes = [] }) in
    let is_at = c.in-Ok.ensures.position (λ x. byte_cmp x.0.now name) (always_returns_same _ _ _ (λ a r f k. search (rules, of_calls))) in
    let held : Bor Bytes × Name = ((get_or refs c.in-Ok.place past).0, record { bytes = object }) in
    parted_at shown_lent_ref name object refs (passes _ c.requires.sorted) c.in-Ok.place past held c.in-Ok.ensures.bound (is_at past) refl

pub returns-in-Err-clause-parts : goal.returns-in-Err-clause-parts
returns-in-Err-clause-parts c object =
    let name = c.args.name.now in
    let refs = c.args.refs.now in
    let held : Bor Bytes × Name = (c.args.name, record { bytes = object }) in
    let parted = c.in-Err.ensures.position (λ x. byte_cmp x.0.now name) (always_returns_same _ _ _ (λ a r f k. search (rules, of_calls))) in
    parted_between shown_lent_ref name object refs (passes _ c.requires.sorted) c.in-Err.place held c.in-Err.ensures.bound parted refl
