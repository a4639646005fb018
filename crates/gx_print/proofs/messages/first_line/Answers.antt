use Rattle.std.proofs.Common.{sym}
use Rattle.gx_print.proofs.MessageTexts.{lines_cut, lines_whole}
use Rattle.gx_print.proofs.messages.first_line.Goals as goal

pub returns-in-Some : goal.returns-in-Some
returns-in-Some c = lines_cut c.args.text.now (c.in-Some.line.now, c.in-Some.rest.now) (sym c.in-Some.ensures)

pub returns-in-None : goal.returns-in-None
returns-in-None c = lines_whole c.args.text.now (sym c.in-None.ensures)
