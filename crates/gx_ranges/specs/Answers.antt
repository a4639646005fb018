-- What is answered to range words, in words of the repository that is told.
use Rattle.std.specs.Prelude.{◌≡◌, ℕ, Bool, List, map, Option, None, Result, Ok, Err, IfSome}
use Rattle.std.specs.declared.vec.Vec.{Vec}
use Rattle.gx_model.specs.declared.objects.Kind.{Kind}
use Rattle.gx_model.specs.Histories.{Records}
use Rattle.gx_model.specs.Histories.Values.{Commit}
use Rattle.gx_model.specs.Records.HistoryOf.{history_of}
use Rattle.gx_model.specs.Revisions.{RangeWord}
use Rattle.gx_model.specs.Revisions.Ranges.{WordFault}
use Rattle.gx_model.specs.Texts.{Bytes}
use Rattle.gx_object.specs.declared.name.Name.{Name}
use Rattle.gx_questions.specs.declared.fault.AskFault.{AskFault}
use Rattle.gx_questions.specs.declared.fault.AskFault.TheVariants.{OutOfMemory, ReadFailed, Damaged, Revision}
use Rattle.gx_rev.specs.Objects.{commit_at}
use Rattle.gx_rev.specs.RevFaults.{fault_of}
use Rattle.gx_print.specs.Logs.{AreCommits, commits_logged, limited}
use Rattle.gx_ranges.specs.declared.fault.RangeFault.{RangeFault}

-- the fault of a word; want of memory, a failed read and damage are of none
abbrev pub refused_at : ℕ → AskFault → RangeFault
refused_at word (Revision fault) = record { word = word; kind = Revision fault }
refused_at word kind = record { word = 0; kind = kind }

-- a fault of no word
abbrev pub of_no_word : AskFault → RangeFault
of_no_word kind = record { word = 0; kind = kind }

-- The first word that is refused of the repository that is told, and why. Only of what tells none it is answered that it is
-- damaged.
abbrev pub RefusesWord : {X : Type 0} → Option Records → (Records → Result X WordFault) → ℕ → AskFault → Type 0
RefusesWord told given word OutOfMemory = word ≡ 0
RefusesWord told given word ReadFailed = word ≡ 0
RefusesWord told given word Damaged = (word ≡ 0) × (told ≡ None)
RefusesWord told given word (Revision fault) = IfSome told (λ r. given r ≡ Err (record { word = word; fault = fault_of fault }))

-- These are the names of the commits that are logged, so many at most.
abbrev pub AreLogged : Option ℕ → Records → Result (List Commit) WordFault → List Name → Type 0
AreLogged most repository given names = ((commits : List Commit) × (given ≡ Ok commits) × (map (commit_at repository) names ≡ limited most commits))
    × AreCommits repository names

-- the names of the commits that are logged, or the first word that is refused
abbrev pub AnswersLog : {A : Type 0} → (Kind → Bytes → Bytes) → Option Records → List RangeWord → Bool → Option ℕ → Result (Vec Name A) RangeFault → Type 0
AnswersLog name told words refs most (Ok names) = IfSome told (λ r. AreLogged most r (commits_logged name (history_of r) refs words) names.items)
AnswersLog name told words refs most (Err refusal) = RefusesWord told (λ r. commits_logged name (history_of r) refs words) refusal.word refusal.kind
