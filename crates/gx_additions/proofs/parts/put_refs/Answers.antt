use Rattle.std.proofs.Common.{◌∙◌, ◌++◌, ap, codes, length}
use Rattle.std.specs.List.{flat_map}
use Rattle.std.proofs.lemmas.Iterator.Consumers.{YieldsList-from_rest, count_from_yields_List}
use Rattle.gx_model.specs.Objects.{line}
use Rattle.gx_model.specs.Texts.Numbers.{number_text}
use Rattle.gx_model.specs.Stores.StoreText.{stored_ref}
use Rattle.gx_repo.specs.Refs.{shown_lent_ref}
use Rattle.gx_additions.proofs.Puts.{begun_put}
use Rattle.gx_additions.proofs.parts.put_refs.Goals as goal

pub loop-name-init : goal.loop-name-init
loop-name-init g c =
    let refs = c.args.repo.now.1.refs in
    let old = c.args.bytes.now.items in
    let number = count_from_yields_List c.refs.result c.count.result c.count.ensures.ran (YieldsList-from_rest {shows = shown_lent_ref} refs c.refs.ensures.held) in
    let counted = c.in_ok-put_count.ensures ∙ ap (λ n. old ++ line (codes "refs") (number_text n)) number in
    let all = c.into_iter-name-iterator.ensures.into_iter_gives ∙ c.refs-name-items.ensures.held in
    (tt, tt, ap (λ z. c.put_count.new.bytes.items ++ flat_map stored_ref z) all ∙ begun_put stored_ref old (line (codes "refs") (number_text (length refs))) c.put_count.new.bytes.items refs counted)
