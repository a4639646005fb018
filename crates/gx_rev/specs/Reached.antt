-- What the refs of a repository reach.
use Rattle.std.specs.Prelude.{Bool, List}
use Rattle.gx_model.specs.Export.{is_reached}
use Rattle.gx_model.specs.Histories.{Records}
use Rattle.gx_model.specs.Histories.Marks.{marks_of}
use Rattle.gx_model.specs.Histories.Values.{Commit}
use Rattle.gx_model.specs.Laws.RepositoryLaws.{values_of}
use Rattle.gx_model.specs.Records.HistoryOf.{history_of}

-- whether a ref of the repository reaches a commit
abbrev pub is_wanted : Records → Commit → Bool
is_wanted repository = is_reached (history_of repository).refs

-- by the places of the records, the commits that refs reach are marked, and no other place
abbrev pub reached_marks : Records → List Bool
reached_marks repository = marks_of (is_wanted repository) (values_of repository)
