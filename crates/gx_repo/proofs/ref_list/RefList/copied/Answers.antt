use Rattle.std.proofs.Common.{map, sym, ap, subst, ◌∙◌}
use Rattle.std.specs.Prelude.{IsTrue}
use Rattle.std.specs.FinMap.Entries.{is_sorted}
use Rattle.gx_model.specs.Texts.{byte_cmp}
use Rattle.gx_repo.specs.Refs.{shown_ref}
use Rattle.gx_repo.proofs.ref_list.RefList.copied.Goals as goal

pub invariant_of-result : goal.invariant_of-result
invariant_of-result g c = subst (λ refs. IsTrue (is_sorted byte_cmp refs)) (sym (c.in_ok-refs.ensures ∙ ap (map shown_ref) c.as_slice.ensures.value)) c.self.invariant

pub returns : goal.returns
returns g c = c.in_ok-refs.ensures ∙ ap (map shown_ref) c.as_slice.ensures.value ∙ c.self.view_is
