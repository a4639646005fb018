use Rattle.std.proofs.Common.{◌∙◌, sym}
use Rattle.gx_patch.proofs.Putting.{binary_body, hunks_body, no_body}
use Rattle.gx_patch.proofs.bodies.put_body.Goals as goal

pub returns-then-is_same : goal.returns-then-is_same
returns-then-is_same g c = no_body c.args.from.now c.args.to.now c.args.old.now c.args.new.now c.args.text.now.items (sym c.is_same.ensures ∙ c.if-is_same.true)

pub returns-then-are_binary : goal.returns-then-are_binary
returns-then-are_binary g c =
    binary_body c.args.from.now c.args.to.now c.args.old.now c.args.new.now c.put_binary.result c.args.text.now.items c.put_binary.new.text.items (sym c.is_same.ensures ∙ c.if-is_same.false) (sym c.are_binary.ensures ∙ c.if-are_binary.true)
    c.put_binary.ensures

pub returns : goal.returns
returns g c =
    hunks_body c.args.from.now c.args.to.now c.args.old.now c.args.new.now c.put_differences.result c.args.text.now.items c.put_label.new.text.items c.put_label-2.new.text.items c.put_differences.new.text.items
    (sym c.is_same.ensures ∙ c.if-is_same.false) (sym c.are_binary.ensures ∙ c.if-are_binary.false) c.in_ok-put_label.ensures c.in_ok-put_label-2.ensures c.put_differences.ensures
