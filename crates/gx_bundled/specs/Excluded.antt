-- The commits that range words exclude, as the ends of what a bundle's reader has. Source: gitrevisions(7), "Specifying Ranges".
use Rattle.std.specs.Prelude.{◌≡◌, List, Option, Result, Ok, Err, IfSome}
use Rattle.std.specs.List.{AllByRecursion, list_any}
use Rattle.std.specs.declared.vec.Vec.{Vec}
use Rattle.gx_model.specs.declared.objects.Kind.{Kind}
use Rattle.gx_model.specs.declared.objects.Kind.TheVariants as kinds
use Rattle.gx_model.specs.Histories.{Records}
use Rattle.gx_model.specs.Histories.Values.{Commit}
use Rattle.gx_model.specs.Laws.RangeLaws.{is_excluded}
use Rattle.gx_model.specs.Records.HistoryOf.{history_of}
use Rattle.gx_model.specs.Revisions.{RangeWord}
use Rattle.gx_model.specs.Revisions.Ranges.{Word, reaches, words_denoted}
use Rattle.gx_model.specs.Texts.{Bytes}
use Rattle.gx_object.specs.declared.name.Name.{Name}
use Rattle.gx_ranges.specs.Answers.{RefusesWord}
use Rattle.gx_ranges.specs.declared.fault.RangeFault.{RangeFault}
use Rattle.gx_rev.specs.Objects.{IsHeldAs, commit_at}
use Rattle.gx_bundled.specs.declared.told.Told.{Told}

-- these are held commits, which reach what words exclude and nothing else
pub record AreExcluded (words : List Word) (repository : Records) (names : List Name) : Type 0 where
  pub held : AllByRecursion (IsHeldAs kinds.Commit repository) names
  pub reach : (reached : Commit) → list_any (λ called. reaches (commit_at repository called) reached) names ≡ is_excluded words reached

-- those of what words give; or the first word is refused
abbrev pub FindsExcluded : (Kind → Bytes → Bytes) → Option Records → List RangeWord → Result (List Name) RangeFault → Type 0
FindsExcluded name told asked (Ok names) = IfSome told (λ r. (words : List Word) × (words_denoted name (history_of r) asked ≡ Ok words) × AreExcluded words r names)
FindsExcluded name told asked (Err refusal) = RefusesWord told (λ r. words_denoted name (history_of r) asked) refusal.word refusal.kind

-- names that are found
abbrev pub items_if : {A : Type 0} → Result (Vec Name A) RangeFault → Result (List Name) RangeFault
items_if (Ok names) = Ok names.items
items_if (Err fault) = Err fault

-- those that are told to be had
abbrev pub had_if : {A : Type 0} → Result (Told A) RangeFault → Result (List Name) RangeFault
had_if (Ok told) = Ok told.had.items
had_if (Err fault) = Err fault
