use Rattle.std.proofs.Common.{◌++◌, ap, sym, ◌∙◌}
use Rattle.gx_model.specs.Texts.{cut_at}
use Rattle.gx_look.proofs.JoinedTexts.{from_place}
use Rattle.gx_look.proofs.RefsInOrder.{all_left, later_left}
use Rattle.gx_look.proofs.refs.behind.Goals as goal

pub returns-in_default : goal.returns-in_default
returns-in_default c = all_left c.args.lines.now (c.args.before.now ++ c.args.word.now ++ c.args.after.now)

pub returns-then-begins_before : goal.returns-then-begins_before
returns-then-begins_before c =
    later_left c.args.lines.now c.args.from c.in-Some._line.now c.in-Some.later.now (c.args.before.now ++ c.args.word.now ++ c.args.after.now)
    (ap (cut_at 10) (sym (from_place c.args.from c.args.lines.now)) ∙ sym c.in-Some.ensures) (c.begins_before.ensures c.if-begins_before.true)

pub returns-else-begins_before : goal.returns-else-begins_before
returns-else-begins_before c = all_left c.args.lines.now (c.args.before.now ++ c.args.word.now ++ c.args.after.now)
