use Rattle.gx_differences.specs.Listed.{shown_leaf}
use Rattle.gx_patch.proofs.Putting.{file_patched}
use Rattle.gx_patch.proofs.patches.put_file.Goals as goal

pub returns-clause-patch : goal.returns-clause-patch
returns-clause-patch g c =
    file_patched c.args.path.now (shown_leaf c.args.old.now) (shown_leaf c.args.new.now) (g.O.Objects.told c.args.objects.now) c.in_ok-old_text.old_text.now c.in_ok-new_text.new_text.now c.args.text.now.items c.put_texts.new.text.items
    c.in_ok-old_text.ensures.text c.in_ok-new_text.ensures.text c.in_ok-put_texts.ensures
