use Rattle.std.proofs.Common.{◌≡◌, Bool, take, [], Ok}
use Rattle.gx_model.specs.Changes.{all_changes, commits_with_changes}
use Rattle.gx_model.specs.Histories.Marks.{marks_of}
use Rattle.gx_model.specs.Histories.Values.{Commit}
use Rattle.gx_model.specs.Laws.RepositoryLaws.{values_of}
use Rattle.gx_export.specs.Branches.{picked, refs_of}
use Rattle.gx_export.specs.FileTexts.{AreKept}
use Rattle.gx_export.specs.Marks.{Adds}
use Rattle.gx_export.specs.Texts.{items_of}
use Rattle.gx_export.proofs.exporting_changes.write_commits.Given as goal

abbrev pub invariant-loop-place : goal.invariant-loop-place
invariant-loop-place g l = (test : Commit → Bool) → l.sent ≡ marks_of test (values_of l.repo.1)
    → Adds l.repo.1 (all_changes (picked test (take l.place (values_of l.repo.1)))) (items_of (commits_with_changes (g.N.Namer.name_of l.repo.0) (refs_of l.repo.1 l.branches) [] (picked test (take l.place (values_of l.repo.1))))) l.fn.written l.written (Ok tt)
    × AreKept (g.N.Namer.name_of l.repo.0) l.repo.1 (all_changes (picked test (take l.place (values_of l.repo.1)))) l.changes.files
