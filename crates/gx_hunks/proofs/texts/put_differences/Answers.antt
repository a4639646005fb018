use Rattle.std.proofs.Common.{◌∙◌, ap}
use Rattle.gx_text.specs.Lent.{lent_texts}
use Rattle.gx_hunks.specs.Lines.{text_lines}
use Rattle.gx_hunks.proofs.Told.{grown_of}
use Rattle.gx_hunks.proofs.texts.put_differences.Goals as goal

pub returns : goal.returns
returns g c =
    grown_of c.put_changes.result c.args.text.now.items c.put_changes.new.text.items (text_lines c.args.old.now) (text_lines c.args.new.now) (lent_texts c.as_slice.result.now) (lent_texts c.as_slice-2.result.now)
    (ap lent_texts c.as_slice.ensures.value ∙ c.in_ok-old_lines.ensures.lines) (ap lent_texts c.as_slice-2.ensures.value ∙ c.in_ok-new_lines.ensures.lines) c.put_changes.ensures
