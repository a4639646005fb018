use Rattle.std.proofs.Common.{rules, tests}
use Rattle.std.proofs.lemmas.Iterator.{YieldsList-from_slice}
use Rattle.std.proofs.lemmas.Iterator.Search.{all_from_yields_List}
use Rattle.gx_model.specs.Texts.RefNames.{is_ref_byte}
use Rattle.gx_text.proofs.ref_name.has_ref_bytes.Goals as goal

pub returns : goal.returns
returns c = all_from_yields_List is_ref_byte _ _ c.all.result c.all.ensures.ran (YieldsList-from_slice c.args.bytes.now c.iter.ensures.rest) (λ x b q k. search (rules, tests))
