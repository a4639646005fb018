-- What range words include and exclude, the refs that they set, and the commits that they list.
use Rattle.std.specs.Prelude.{◌≡◌, ◌<◌, ℕ, List, [], map, Option, Some, Result, Ok, Err, IfSome, IsTrue}
use Rattle.std.specs.BTreeSet.{BTreeSet, contains}
use Rattle.std.specs.List.{slice_get}
use Rattle.std.specs.Ordering.{nat_cmp}
use Rattle.gx_model.specs.declared.objects.Kind.{Kind}
use Rattle.gx_model.specs.Changes.{set_refs}
use Rattle.gx_model.specs.Histories.{Records}
use Rattle.gx_model.specs.Laws.RangeLaws.{is_excluded}
use Rattle.gx_model.specs.Records.HistoryOf.{history_of}
use Rattle.gx_model.specs.Revisions.{RangeWord}
use Rattle.gx_model.specs.Revisions.Ranges.{Word, listing, words_denoted}
use Rattle.gx_model.specs.Texts.{Bytes}
use Rattle.gx_object.specs.declared.name.Name.{Name}
use Rattle.gx_print.specs.Logs.{AreCommits}
use Rattle.gx_ranges.specs.Answers.{RefusesWord}
use Rattle.gx_ranges.specs.Fronts as fronts
use Rattle.gx_ranges.specs.declared.fault.RangeFault.{RangeFault}
use Rattle.gx_rev.specs.Objects.{commit_at}
use Rattle.gx_rev.specs.Walking.{is_included}
use Rattle.gx_store.specs.Stores.{place_named}
use Rattle.gx_tips.specs.Tips.{AreTips, targets}
use Rattle.gx_tips.specs.declared.spans.Spans.{Spans}
use Rattle.gx_tips.specs.declared.tips.Tip.{Tip}

-- ---- spans

-- these are the commits of what words include, and of what they exclude
pub record AreSpans {A : Type 0} (stands : ℕ → ℕ) (words : List Word) (repository : Records) (spans : Spans A) : Type 0 where
  pub included : fronts.Adds stands (is_included words) [] spans.wanted.entries repository
  pub excluded : fronts.Adds stands (is_excluded words) [] spans.unwanted.entries repository

-- each is held and stands at its place
pub record AreHeld {A : Type 0} (stands : ℕ → ℕ) (spans : Spans A) (repository : Records) : Type 0 where
  pub included : fronts.AreTips stands spans.wanted.entries repository
  pub excluded : fronts.AreTips stands spans.unwanted.entries repository

-- those of what words give; or the first word is refused
abbrev pub FindsSpans : {A : Type 0} → (Kind → Bytes → Bytes) → (ℕ → ℕ) → Option Records → List RangeWord → Result (Spans A) RangeFault → Type 0
FindsSpans name stands told asked (Ok spans) = IfSome told (λ r. (words : List Word) × (words_denoted name (history_of r) asked ≡ Ok words) × AreSpans stands words r spans)
FindsSpans name stands told asked (Err refusal) = RefusesWord told (λ r. words_denoted name (history_of r) asked) refusal.word refusal.kind

-- ---- what they reach

-- these are the refs whose commits words include or exclude
pub record AreSetRefs {A : Type 0} (stands : ℕ → ℕ) (spans : Spans A) (repository : Records) (found : List Tip) : Type 0 where
  pub set : (words : List Word) → AreSpans stands words repository spans → targets repository found ≡ set_refs (history_of repository) words
  pub each : AreTips stands found repository

-- commits, each of which stands behind the next one
pub record AreNewestFirst (names : List Name) (repository : Records) : Type 0 where
  pub commits : AreCommits repository names
  pub order : (i j k l : ℕ) (n m : Name) → i < j → slice_get names i ≡ Some n → slice_get names j ≡ Some m
      → place_named repository.records n.bytes ≡ Some k → place_named repository.records m.bytes ≡ Some l → l < k

-- these are the commits that words list, the newest put first
pub record AreListed {A : Type 0} (stands : ℕ → ℕ) (spans : Spans A) (repository : Records) (names : List Name) : Type 0 where
  pub listed : (words : List Word) → AreSpans stands words repository spans → map (commit_at repository) names ≡ listing (history_of repository) words
  pub order : AreNewestFirst names repository

-- ---- places

-- of each of some places it is found whether these commits reach the one that stands there
abbrev pub FindsReached : (ℕ → ℕ) → List (ℕ × Name) → BTreeSet ℕ → Records → BTreeSet ℕ → Type 0
FindsReached stands tips places repository reached =
    (place : ℕ) → IsTrue (contains nat_cmp places place) → fronts.LeadsToPlace stands place tips repository (contains nat_cmp reached place)
