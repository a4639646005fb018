use Rattle.std.proofs.Common.{take, [], Ok}
use Rattle.gx_model.specs.Export.{all_written, commit_commands}
use Rattle.gx_model.specs.Laws.RepositoryLaws.{values_of}
use Rattle.gx_export.specs.FileTexts.{AreKept}
use Rattle.gx_export.specs.Branches.{picked}
use Rattle.gx_export.specs.Marks.{Adds}
use Rattle.gx_rev.specs.Reached.{is_wanted}
use Rattle.gx_export.specs.Texts.{items_of}
use Rattle.gx_export.proofs.exporting.write_commits.Given as goal

abbrev pub invariant-loop-place : goal.invariant-loop-place
invariant-loop-place g l = record {
  adds : Adds l.repo.1 (all_written (picked (is_wanted l.repo.1) (take l.place (values_of l.repo.1)))) (items_of (commit_commands [] (picked (is_wanted l.repo.1) (take l.place (values_of l.repo.1))))) l.fn.written l.written (Ok tt);
  kept : AreKept (g.N.Namer.name_of l.repo.0) l.repo.1 (all_written (picked (is_wanted l.repo.1) (take l.place (values_of l.repo.1)))) l.lines;
}
