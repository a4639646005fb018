use Rattle.std.proofs.Common.{◌∷◌, ◌++◌, [], sym, ap, ◌∙◌, arith}
use Rattle.gx_tree.proofs.Listed.{child_of_root, child_text}
use Rattle.gx_differences.proofs.differences.child_text.Goals as goal
use Rattle.gx_differences.proofs.differences.child_text.Goals.{then-len-gt0+in_ok-push, else-len-gt0}

pub returns-clause-text : goal.returns-clause-text
returns-clause-text g c =
    let p = c.args.front.now in
    let component = c.args.component.now in
    let front = c.in_ok-text.ensures.items ∙ c.joined.ensures.text in
    c.in_ok-extend_from_slice.ensures.items ∙ elim c.if-len-gt0.branch [
      | then-len-gt0+in_ok-push w ↦ rw w.text-is (ap (λ t. t ++ component) (w.in_ok-push.ensures.items ∙ ap (λ t. t ++ 47 ∷ []) front) ∙ sym (child_text p component (omega (arith, w.if-len-gt0.true, c.len.ensures.length))))
      | else-len-gt0 w ↦ rw w.text-is (ap (λ t. t ++ component) front ∙ sym (child_of_root p component (omega (arith, w.if-len-gt0.false, c.len.ensures.length))))
    ]
