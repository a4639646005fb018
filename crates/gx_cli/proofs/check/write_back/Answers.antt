use Rattle.std.proofs.Common.{◌++◌, ◌∙◌, ap, codes, length}
use Rattle.std.proofs.lemmas.Iterator.Consumers.{YieldsList-from_rest, count_from_yields_List}
use Rattle.gx_repo.specs.Refs.{shown_lent_ref}
use Rattle.gx_cli.specs.Checking.{count}
use Rattle.gx_cli.proofs.check.write_back.Goals as goal

pub returns : goal.returns
returns g c =
    let again = c.args.again.now.1 in
    let first = count (codes "commands: ") c.args.commands in
    let second = count (codes ", objects: ") (length again.records) in
    let third = count (codes ", refs: ") (length again.refs) in
    let fourth = codes ", and all names came back\n" in
    let objects = c.len.ensures.count ∙ ap (λ s. length s.1) c.store.ensures.held in
    let refs = count_from_yields_List c.refs.result c.count.result c.count.ensures.ran (YieldsList-from_rest {shows = shown_lent_ref} again.refs c.refs.ensures.held) in
    let one = c.in_ok-write_count.ensures ∙ ap (λ text. text ++ first) c.requires.empty in
    let two = c.in_ok-write_count-2.ensures ∙ ap (λ text. text ++ count (codes ", objects: ") c.len.result) one ∙ ap (λ n. first ++ count (codes ", objects: ") n) objects in
    let three = c.in_ok-write_count-3.ensures ∙ ap (λ text. text ++ count (codes ", refs: ") c.count.result) two ∙ ap (λ n. (first ++ second) ++ count (codes ", refs: ") n) refs in
    c.in_ok-extend_from_slice.ensures.items ∙ ap (λ text. text ++ fourth) three
