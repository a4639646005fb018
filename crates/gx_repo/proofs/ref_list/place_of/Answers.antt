use Rattle.std.proofs.Common.{rules, of_calls}
use Rattle.std.proofs.lemmas.Fn.{always_returns_same}
use Rattle.gx_model.specs.Texts.{byte_cmp}
use Rattle.gx_repo.proofs.ref_list.place_of.Goals as goal

pub returns-clause-place : goal.returns-clause-place
returns-clause-place g c = c.binary_search_by.ensures.position (λ x. byte_cmp x.name.items c.args.name.now) (always_returns_same _ _ _ (λ a r f k. search (rules, of_calls)))
