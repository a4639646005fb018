use Rattle.std.proofs.Common.{◌≡◌, Bool, take}
use Rattle.gx_model.specs.Histories.Marks.{marks_of}
use Rattle.gx_model.specs.Histories.Values.{Commit}
use Rattle.gx_model.specs.Laws.ExportLaws.{HaveEncodingsAlone}
use Rattle.gx_model.specs.Laws.RepositoryLaws.{values_of}
use Rattle.gx_export.specs.Branches.{picked}
use Rattle.gx_export.proofs.sayable.check_sayable.Given as goal

abbrev pub invariant-loop-place : goal.invariant-loop-place
invariant-loop-place g l = (test : Commit → Bool) → l.marks ≡ marks_of test (values_of l.repo.1) → HaveEncodingsAlone (picked test (take l.place (values_of l.repo.1)))
