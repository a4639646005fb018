use Rattle.gx_lines.proofs.LineFronts.{line_found, no_memory_for_lines}
use Rattle.gx_lines.proofs.lines.read_line.Goals as goal

pub returns-clause-line : goal.returns-clause-line
returns-clause-line c = line_found c.args.text.now c.cut.result c.ok_or.result c.cut.ensures c.ok_or.ensures.value

pub returns-clause-memory : goal.returns-clause-memory
returns-clause-memory c = no_memory_for_lines c.cut.result c.ok_or.result c.ok_or.ensures.value
