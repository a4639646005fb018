use Rattle.std.proofs.Common.{◌∙◌, sym, ap, arith}
use Rattle.std.proofs.lemmas.Bool.{and_right}
use Rattle.std.specs.Ordering.{is_lt, nat_cmp}
use Rattle.std.specs.Cmp.Lexicographic.{slice_cmp}
use Rattle.gx_object.specs.Entries.{mark_of, shown}
use Rattle.gx_object.proofs.Fronts.{begins_not, fronts_tell}
use Rattle.gx_object.proofs.Orders.{key_is, less}
use Rattle.gx_object.proofs.order.is_apart.Goals as goal

pub returns-clause-order : goal.returns-clause-order
returns-clause-order c = λ h.
    let e = shown c.args.first.now in
    let f = shown c.args.next.now in
    let is_less = less c.cmp.result (sym c.is_lt.ensures ∙ h) in
    let told = fronts_tell e.component (mark_of e.mode) f.component (mark_of f.mode) c.min-both.result c.cmp.result c.min-both.ensures c.cmp.ensures (λ equal. cc (sym is_less ∙ equal)) in
    ap is_lt (sym (told ∙ (λ i. slice_cmp nat_cmp (key_is e i) (key_is f i))) ∙ is_less)

pub returns-clause-front : goal.returns-clause-front
returns-clause-front c = λ h.
    let e = shown c.args.first.now in
    let f = shown c.args.next.now in
    let is_less = less c.cmp.result (sym c.is_lt.ensures ∙ h) in
    and_right _ _ (begins_not e.component f.component c.min-both.result (omega (arith, c.min-both.ensures)) (sym c.cmp.ensures ∙ is_less))
