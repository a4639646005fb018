use Rattle.std.proofs.Common.{refl}
use Rattle.gx_export.proofs.Keeping.{line_kept}
use Rattle.gx_export.proofs.lines.Lines.add_file.Goals as goal

pub returns-clause-kept : goal.returns-clause-kept
returns-clause-kept g c = line_kept c.args.self.now (record c.args.self.now { text = c.end_line.new.text }) c.append_all.new.text.items _ _ c.end_line.result c.in_ok-append_all.ensures c.end_line.ensures refl refl refl
