use Rattle.std.proofs.Common.{sym, ap, ◌∙◌, arith}
use Rattle.std.proofs.lemmas.Bool.{false≢true}
use Rattle.gx_tree.proofs.Searches.{stands_before}
use Rattle.gx_tree.proofs.Texts.{bytes_same}
use Rattle.gx_tree.proofs.search.place_marked.Goals as goal
use Rattle.gx_tree.specs.Components.{bytes_of}

pub returns-then-place-eq0-clause-missing : goal.returns-then-place-eq0-clause-missing
returns-then-place-eq0-clause-missing g c is k e m =
    let before = stands_before c.args.component.now c.args.mark.now k c.args.entries.now c.place_of-place.result c.requires c.place_of-place.ensures.within c.place_of-place.ensures.place e m in
    omega (arith, before.0, c.if-place-eq0.true)

pub returns-clause-missing : goal.returns-clause-missing
returns-clause-missing g c is k e m =
    let before = stands_before c.args.component.now c.args.mark.now k c.args.entries.now c.place_of-place.result c.requires c.place_of-place.ensures.within c.place_of-place.ensures.place e m in
    let same = bytes_same c.component.result.now c.args.component.now (c.component.ensures ∙ ap (λ z. bytes_of z.component) c.index-entries-place.is ∙ before.1 c.index-entries-place.result) in
    false≢true (sym c.if-eq.false ∙ c.eq.ensures ∙ same)
