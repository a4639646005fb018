use Rattle.std.proofs.Common.{◌∙◌, ap, sym}
use Rattle.gx_model.specs.Records.{name_of}
use Rattle.gx_model.proofs.Records.HeldValues.{commit_held, commit_stands, held_is}
use Rattle.gx_rev.specs.Objects.{commit_at}
use Rattle.gx_sending.specs.Marks.{mark_in}
use Rattle.gx_sending.proofs.Marks.{named_digits, named_marked}
use Rattle.gx_sending.proofs.written.Written.commit_ish.Goals as goal

pub returns-in-Some : goal.returns-in-Some
returns-in-Some g c = λ name r ws namer sound held h.
    let commit = c.args.commit.now in
    let value = (commit_stands name namer r sound commit.bytes held).0 in
    named_marked name ws (commit_at r commit) c.in-Some.mark (c.in-Some.ensures ∙ h.marks commit (commit_held name namer r sound commit.bytes held) ∙ ap (mark_in ws) value)

pub returns-in-None : goal.returns-in-None
returns-in-None g c = λ name r ws namer sound held h.
    let commit = c.args.commit.now in
    let there = commit_held name namer r sound commit.bytes held in
    let value = (commit_stands name namer r sound commit.bytes held).0 in
    named_digits name ws (commit_at r commit) commit.bytes (c.in-None.ensures ∙ h.marks commit there ∙ ap (mark_in ws) value) (sym (held_is name namer r sound commit.bytes there).named ∙ ap (name_of name) value)
