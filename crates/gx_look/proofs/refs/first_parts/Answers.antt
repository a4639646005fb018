use Rattle.std.proofs.Common.{sym}
use Rattle.gx_look.proofs.refs.first_parts.Goals as goal

pub returns : goal.returns
returns c = record {
  line = c.in_ok-line.line.now;
  behind = c.in_ok-line._behind.now;
  front = sym c.in_ok-line.ensures;
  parts = sym c.in_ok-digits.ensures;
}
