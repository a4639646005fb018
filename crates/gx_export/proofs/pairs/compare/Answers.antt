use Rattle.std.proofs.Common.{◌∙◌, ◌++◌, ap}
use Rattle.std.specs.Ordering.{nat_cmp}
use Rattle.std.specs.Cmp.Lexicographic.{slice_cmp}
use Rattle.gx_object.specs.Entries.{shown}
use Rattle.gx_object.proofs.Orders.{key_is}
use Rattle.gx_export.proofs.pairs.compare.Goals as goal

pub returns : goal.returns
returns c =
    let first = ap (λ m. c.args.a.now.component.now ++ m) c.mark.ensures ∙ key_is (shown c.args.a.now) in
    let second = ap (λ m. c.args.b.now.component.now ++ m) c.mark-2.ensures ∙ key_is (shown c.args.b.now) in
    c.compare_marked.ensures ∙ (λ i. slice_cmp nat_cmp (first i) (second i))
