use Rattle.std.proofs.Common.{rules, tests, eqb}
use Rattle.std.proofs.lemmas.Iterator.Splits.{YieldsList-from_slice_split}
use Rattle.std.proofs.lemmas.Iterator.Search.{all_from_yields_List}
use Rattle.gx_model.specs.Texts.RefNames.{is_ref_component}
use Rattle.gx_text.proofs.ref_name.has_components.Goals as goal

pub returns : goal.returns
returns c = all_from_yields_List is_ref_component _ _ c.all.result c.all.ensures.ran (YieldsList-from_slice_split _ (λ b. eqb b 47) c.args.bytes.now c.split.ensures.rest c.split.ensures.done c.split.ensures.closure (λ x b q k. search (rules, tests))) (λ x b q k. search (rules, tests))
