use Rattle.std.proofs.Common.{◌∙◌, sym}
use Rattle.gx_differences.specs.Listed.{shown_difference}
use Rattle.gx_patch.proofs.Putting.{parts_put}
use Rattle.gx_patch.proofs.patches.put_patch.Goals as goal

pub returns-then-is_turned-clause-patch : goal.returns-then-is_turned-clause-patch
returns-then-is_turned-clause-patch g c =
    parts_put (shown_difference c.args.difference.now) c.joined-path.result.now c.joined-path.ensures.text (g.O.Objects.told c.args.objects.now) c.args.text.now.items c.put_file.new.text.items c.put_file-then-is_turned.new.text.items c.put_file-then-is_turned.result
    (sym c.is_turned.ensures ∙ c.if-is_turned.true) c.in_ok-put_file.ensures.patch c.put_file-then-is_turned.ensures.patch
