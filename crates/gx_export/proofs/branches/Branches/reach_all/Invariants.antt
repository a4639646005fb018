use Rattle.std.proofs.Common.{◌≡◌, Bool, take, true}
use Rattle.std.specs.List.{list_all}
use Rattle.gx_model.specs.Export.{is_reached}
use Rattle.gx_model.specs.Histories.Marks.{marks_of}
use Rattle.gx_model.specs.Histories.Values.{Commit}
use Rattle.gx_model.specs.Histories.{Records}
use Rattle.gx_model.specs.Laws.RepositoryLaws.{values_of}
use Rattle.gx_export.specs.Branches.{FindsBranches, picked, refs_of}
use Rattle.gx_export.proofs.branches.Branches.reach_all.Given as goal

abbrev pub invariant-loop-place : goal.invariant-loop-place
invariant-loop-place g l = (repository : Records) (test : Commit → Bool) → FindsBranches repository l.sent l.self → l.sent ≡ marks_of test (values_of repository)
    → list_all (is_reached (refs_of repository l.self)) (picked test (take l.place (values_of repository))) ≡ true
