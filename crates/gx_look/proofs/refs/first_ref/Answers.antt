use Rattle.std.proofs.Common.{Some, None}
use Rattle.gx_look.proofs.CheckedRefs.{first_so}
use Rattle.gx_look.proofs.refs.first_ref.Goals as goal

pub returns-in_err-name : goal.returns-in_err-name
returns-in_err-name c = rw c.from_residual-in_err-name.ensures (first_so c.args.text.now c.in_ok-line.line.now c.in_ok-line.rest.now None c.in_ok-line.ensures c.in_err-name.ensures)

pub returns : goal.returns
returns c = first_so c.args.text.now c.in_ok-line.line.now c.in_ok-line.rest.now (Some c.in_ok-name.name.now) c.in_ok-line.ensures c.in_ok-name.ensures
