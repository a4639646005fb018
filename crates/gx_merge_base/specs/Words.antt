-- The commits that revisions give.
use Rattle.std.specs.Prelude.{◌≡◌, List, map, Option, Result, Ok, Err, IfSome}
use Rattle.std.specs.declared.vec.Vec.{Vec}
use Rattle.gx_model.specs.declared.objects.Kind.{Kind}
use Rattle.gx_model.specs.Histories.{Records}
use Rattle.gx_model.specs.Histories.Values.{Commit}
use Rattle.gx_model.specs.Records.HistoryOf.{history_of}
use Rattle.gx_model.specs.Revisions.{Revision}
use Rattle.gx_model.specs.Revisions.Denotation.{commit_denoted}
use Rattle.gx_model.specs.Revisions.Ranges.{WordFault, each_word}
use Rattle.gx_model.specs.Texts.{Bytes}
use Rattle.gx_object.specs.declared.name.Name.{Name}
use Rattle.gx_print.specs.Logs.{AreCommits}
use Rattle.gx_ranges.specs.Answers.{RefusesWord}
use Rattle.gx_ranges.specs.declared.fault.RangeFault.{RangeFault}
use Rattle.gx_rev.specs.Objects.{commit_at}

-- the commits that revisions give, or the first that is refused
abbrev pub commits_denoted : (Kind → Bytes → Bytes) → List Revision → Records → Result (List Commit) WordFault
commits_denoted name revisions repository = each_word (commit_denoted name (history_of repository)) revisions

-- these are the names of the commits that revisions give
abbrev pub AreGiven : (Kind → Bytes → Bytes) → List Revision → Records → List Name → Type 0
AreGiven name revisions repository names = (commits_denoted name revisions repository ≡ Ok (map (commit_at repository) names)) × AreCommits repository names

-- so it is in the repository that is told, or the first revision is refused
abbrev pub GivesCommits : {A : Type 0} → (Kind → Bytes → Bytes) → Option Records → List Revision → Result (Vec Name A) RangeFault → Type 0
GivesCommits name told revisions (Ok names) = IfSome told (λ r. AreGiven name revisions r names.items)
GivesCommits name told revisions (Err refusal) = RefusesWord told (commits_denoted name revisions) refusal.word refusal.kind
