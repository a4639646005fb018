-- What range words include and exclude, as the commits that a walk has before it.
use Rattle.std.specs.Prelude.{◌≡◌, ℕ, List, [], Option, Result, Ok, Err, IfSome}
use Rattle.gx_model.specs.declared.objects.Kind.{Kind}
use Rattle.gx_model.specs.Histories.{Records}
use Rattle.gx_model.specs.Laws.RangeLaws.{is_excluded}
use Rattle.gx_model.specs.Records.HistoryOf.{history_of}
use Rattle.gx_model.specs.Revisions.{RangeWord}
use Rattle.gx_model.specs.Revisions.Ranges.{Word, span, word_denoted, words_denoted}
use Rattle.gx_model.specs.Texts.{Bytes}
use Rattle.gx_object.specs.declared.name.Name.{Name}
use Rattle.gx_questions.specs.Answers.{Refuses}
use Rattle.gx_questions.specs.declared.fault.AskFault.{AskFault}
use Rattle.gx_rev.specs.Walking.{is_included}
use Rattle.gx_ranges.specs.Answers.{RefusesWord}
use Rattle.gx_ranges.specs.Fronts.{Adds}
use Rattle.gx_ranges.specs.declared.fault.RangeFault.{RangeFault}

-- to two fronts come the commits of what a word includes and of what it excludes
pub record AddsSpan (stands : ℕ → ℕ) (word : Word) (old new : List (ℕ × Name) × List (ℕ × Name)) (repository : Records) : Type 0 where
  pub included : Adds stands (span word).included old.0 new.0 repository
  pub excluded : Adds stands (span word).excluded old.1 new.1 repository

-- the same of a word with revisions; or why it is refused
abbrev pub AddsWord : (Kind → Bytes → Bytes) → (ℕ → ℕ) → Option Records → RangeWord → List (ℕ × Name) × List (ℕ × Name) → List (ℕ × Name) × List (ℕ × Name) → Result (Unit {0}) AskFault → Type 0
AddsWord name stands told asked old new (Ok _) = IfSome told (λ r. (word : Word) × (word_denoted name (history_of r) asked ≡ Ok word) × AddsSpan stands word old new r)
AddsWord name stands told asked old new (Err fault) = Refuses told (λ r. word_denoted name (history_of r) asked) fault

-- two fronts have the commits of what words include and of what they exclude; or the first word is refused
abbrev pub AddsWords : (Kind → Bytes → Bytes) → (ℕ → ℕ) → Option Records → List RangeWord → List (ℕ × Name) → List (ℕ × Name) → Result (Unit {0}) RangeFault → Type 0
AddsWords name stands told asked wanted unwanted (Ok _) = IfSome told (λ r. (words : List Word) × (words_denoted name (history_of r) asked ≡ Ok words)
    × Adds stands (is_included words) [] wanted r × Adds stands (is_excluded words) [] unwanted r)
AddsWords name stands told asked wanted unwanted (Err refusal) = RefusesWord told (λ r. words_denoted name (history_of r) asked) refusal.word refusal.kind
