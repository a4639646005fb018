use Rattle.std.proofs.Common.{rules}
use Rattle.gx_model.proofs.Texts.Quotes.{field_printed}
use Rattle.gx_text.proofs.Printing.{are_bytes}
use Rattle.gx_text.proofs.printed.put_printed.Goals as goal

pub returns-then-are_bare-clause-again : goal.returns-then-are_bare-clause-again
returns-then-are_bare-clause-again g c = field_printed c.args.text.now (are_bytes c.args.text.now c.type_inv.text)

pub returns-else-are_bare-clause-again : goal.returns-else-are_bare-clause-again
returns-else-are_bare-clause-again g c = field_printed c.args.text.now (are_bytes c.args.text.now c.type_inv.text)

pub returns-then-are_bare-clause-ok : goal.returns-then-are_bare-clause-ok
returns-then-are_bare-clause-ok g c = search rules
