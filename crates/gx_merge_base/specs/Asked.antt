-- What is answered of the ancestors of the commits that revisions give. Source: git-merge-base(1).
use Rattle.std.specs.Prelude.{◌≡◌, Bool, false, List, [], ◌∷◌, map, Option, Result, Ok, Err, IfSome}
use Rattle.std.specs.declared.vec.Vec.{Vec}
use Rattle.gx_model.specs.declared.objects.Kind.{Kind}
use Rattle.gx_model.specs.Faults.{◌>>=◌}
use Rattle.gx_model.specs.Histories.{Records}
use Rattle.gx_model.specs.Histories.Values.{Commit}
use Rattle.gx_model.specs.Records.HistoryOf.{history_of}
use Rattle.gx_model.specs.Revisions.{Revision}
use Rattle.gx_model.specs.Revisions.Ranges.{WordFault, reaches}
use Rattle.gx_model.specs.Texts.{Bytes}
use Rattle.gx_object.specs.declared.name.Name.{Name}
use Rattle.gx_print.specs.Logs.{AreCommits}
use Rattle.gx_ranges.specs.Answers.{RefusesWord}
use Rattle.gx_ranges.specs.declared.fault.RangeFault.{RangeFault}
use Rattle.gx_rev.specs.Objects.{commit_at}
use Rattle.gx_merge_base.specs.Bases.{bases}
use Rattle.gx_merge_base.specs.Words.{commits_denoted}

-- whether the first of some commits is the second, or one of its ancestors
abbrev pub first_is_ancestor : List Commit → Bool
first_is_ancestor [] = false
first_is_ancestor (c ∷ []) = false
first_is_ancestor (c ∷ d ∷ cs) = reaches d c

module _ (name : Kind → Bytes → Bytes) where
  -- the best common ancestors of the commits that revisions give, or the first that is refused
  abbrev pub bases_denoted : Bool → List Revision → Records → Result (List Commit) WordFault
  bases_denoted octopus revisions r = (commits_denoted name revisions r >>= λ cs. Ok (bases octopus cs (history_of r)))

  -- these are their names
  abbrev pub AreBasesGiven : Bool → List Revision → Records → List Name → Type 0
  AreBasesGiven octopus revisions r names = (bases_denoted octopus revisions r ≡ Ok (map (commit_at r) names)) × AreCommits r names

  -- so it is in the repository that is told, or the first revision is refused
  abbrev pub AnswersBases : {A : Type 0} → Option Records → Bool → List Revision → Result (Vec Name A) RangeFault → Type 0
  AnswersBases told octopus revisions (Ok names) = IfSome told (λ r. AreBasesGiven octopus revisions r names.items)
  AnswersBases told octopus revisions (Err refusal) = RefusesWord told (bases_denoted octopus revisions) refusal.word refusal.kind

  -- whether the first revision gives an ancestor of what the second gives, or the first that is refused
  abbrev pub ancestry_denoted : List Revision → Records → Result Bool WordFault
  ancestry_denoted revisions r = (commits_denoted name revisions r >>= λ cs. Ok (first_is_ancestor cs))

  abbrev pub AnswersAncestry : Option Records → List Revision → Result Bool RangeFault → Type 0
  AnswersAncestry told revisions (Ok is_one) = IfSome told (λ r. ancestry_denoted revisions r ≡ Ok is_one)
  AnswersAncestry told revisions (Err refusal) = RefusesWord told (ancestry_denoted revisions) refusal.word refusal.kind
