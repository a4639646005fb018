use Rattle.std.proofs.Common.{map, subst, sym}
use Rattle.std.specs.Prelude.{IsTrue}
use Rattle.std.specs.FinMap.Entries.{is_sorted}
use Rattle.gx_model.specs.Texts.{byte_cmp}
use Rattle.gx_repo.specs.Refs.{shown_ref}
use Rattle.gx_repo.proofs.ref_list.RefList.refs.Goals as goal

pub returns-clause-sorted : goal.returns-clause-sorted
returns-clause-sorted g c = subst (λ rs. IsTrue (is_sorted byte_cmp (map shown_ref rs))) (sym c.as_slice.ensures.value) c.self.invariant
