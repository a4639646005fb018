use Rattle.std.proofs.Common.{subst, sym}
use Rattle.std.specs.Prelude.{IfOk, IsTrue}
use Rattle.std.specs.FinMap.Entries.{is_sorted}
use Rattle.gx_model.specs.Texts.{byte_cmp}
use Rattle.gx_push.specs.Wants.{shown_wants}
use Rattle.gx_ref_lines.specs.Refs.{shown_refs}
use Rattle.gx_growing_push.specs.Wanting.{Leaves}
use Rattle.gx_growing_push.proofs.pushing.left_of.Goals as goal

pub returns : goal.returns
returns g c = λ named lines are.
    let same = c.in_ok-after.ensures.all named lines are in
    let sorted = subst (λ rs. IsTrue (is_sorted byte_cmp rs)) (sym same) are.sorted in
    subst (λ rs. IfOk c.left_by.result (λ left. Leaves (shown_refs c.args.before.now.refs.items) rs (shown_wants c.args.wants.now.list.items) left.lines.items left.count)) same
    (c.left_by.ensures sorted)
