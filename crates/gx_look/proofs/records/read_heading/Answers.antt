use Rattle.std.proofs.Common.{sym, ◌∙◌}
use Rattle.gx_model.proofs.Texts.Cuts.{some_is}
use Rattle.gx_look.proofs.HeadingsInTexts.{heading_long, rest_short, some_heading, some_line}
use Rattle.gx_look.proofs.records.read_heading.Goals as goal

pub returns-in_default-clause-heading : goal.returns-in_default-clause-heading
returns-in_default-clause-heading c = λ held rest written e same. some_line held rest c.args.text.now written e (sym c.in_default.ensures)

pub returns-in_default-heading_of-clause-heading : goal.returns-in_default-heading_of-clause-heading
returns-in_default-heading_of-clause-heading c = λ held rest written e same.
    let there = some_heading held rest c.args.text.now written e c.in-Some.line.now c.in-Some.rest.now (sym c.in-Some.ensures) in
    let none = sym there ∙ sym c.in_default-heading_of.ensures in
    cc

pub overflow_sub-result : goal.overflow_sub-result
overflow_sub-result c = rest_short c.args.text.now c.in-Some.line.now c.in-Some.rest.now (sym c.in-Some.ensures)

pub returns-clause-heading : goal.returns-clause-heading
returns-clause-heading c = λ held rest written e.
    let cut = sym c.in-Some.ensures in (
      some_is _ _ (c.in-Some-heading_of.ensures ∙ some_heading held rest c.args.text.now written e c.in-Some.line.now c.in-Some.rest.now cut),
      heading_long held rest c.args.text.now written e c.in-Some.line.now c.in-Some.rest.now cut,
    )
