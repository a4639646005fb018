-- The refs of a repository, with the commits that they hold and where these stand.
use Rattle.std.specs.Prelude.{◌≡◌, ℕ, List, map, Some, Ok}
use Rattle.std.specs.List.{AllByRecursion}
use Rattle.gx_model.specs.declared.objects.Kind.TheVariants as kinds
use Rattle.gx_model.specs.Histories.{Records, Target}
use Rattle.gx_model.specs.Records.HistoryOf.{target_in}
use Rattle.gx_model.specs.Revisions.Denotation.{commit_in}
use Rattle.gx_model.specs.Texts.{Bytes}
use Rattle.gx_objects.specs.Answers.{StandsThere}
use Rattle.gx_rev.specs.Objects.{IsHeld, IsHeldAs, commit_at, value_at}
use Rattle.gx_tips.specs.declared.tips.Tip.{Tip}

-- a ref's name and its object's
abbrev pub shown_tip : Tip → Bytes × Bytes
shown_tip tip = (tip.name.now, tip.object.bytes)

-- a ref's object is held, and peels to this commit, which stands at this place
pub record IsTip (stands : ℕ → ℕ) (repository : Records) (tip : Tip) : Type 0 where
  pub object : IsHeld repository tip.object
  pub peeled : commit_in (value_at repository tip.object) ≡ Ok (commit_at repository tip.commit)
  pub commit : IsHeldAs kinds.Commit repository tip.commit
  pub place : StandsThere stands tip.commit.bytes repository (Some tip.place)

abbrev pub AreTips : (ℕ → ℕ) → List Tip → Records → Type 0
AreTips stands tips repository = AllByRecursion (IsTip stands repository) tips

-- these are all refs
pub record AreAllRefs (stands : ℕ → ℕ) (repository : Records) (tips : List Tip) : Type 0 where
  pub refs : map shown_tip tips ≡ repository.refs
  pub each : AreTips stands tips repository

-- refs with what their objects stand for
abbrev pub targets : Records → List Tip → List (Bytes × Target)
targets repository tips = map (λ tip. (tip.name.now, target_in (value_at repository tip.object))) tips
