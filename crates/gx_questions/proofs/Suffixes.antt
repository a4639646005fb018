-- What suffixes give, one after another.
use Rattle.std.proofs.Common.{◌≡◌, ℕ, List, map, drop, Option, None, Some, Result, Ok, Err, refl, sym, ap, ◌∙◌}
use Rattle.std.specs.Prelude.{IfSome}
use Rattle.gx_model.specs.declared.objects.Kind.{Kind}
use Rattle.gx_model.specs.declared.objects.Kind.TheVariants as kind
use Rattle.gx_model.specs.Texts.{Bytes}
use Rattle.gx_model.specs.Faults.{Given, ◌>>=◌}
use Rattle.gx_model.specs.Histories.{Records}
use Rattle.gx_model.specs.Histories.Files.{FileMap}
use Rattle.gx_model.specs.Histories.Values.{Commit, Value, blob_value, commit_value, tag_value, tree_value}
use Rattle.gx_model.specs.Objects.{IsNamer}
use Rattle.gx_model.specs.Revisions.Denotation.{all_suffixed, commit_in, only_commit, peel}
use Rattle.gx_model.proofs.Records.HeldValues.{commit_stands, kind_held, tree_stands}
use Rattle.gx_object.specs.declared.name.Name.{Name}
use Rattle.gx_rev.specs.Objects.{IsHeld, IsHeldAs, commit_at, files_at, value_at}
use Rattle.gx_rev.specs.Views.{shown_suffix}
use Rattle.gx_rev.specs.declared.suffix.Suffix.{Suffix}
use Rattle.gx_questions.specs.Answers.{Answers, IsOfTold}
use Rattle.gx_questions.specs.declared.fault.AskFault.{AskFault}
use Rattle.gx_questions.proofs.Found.{Sound}
use Rattle.gx_questions.proofs.Peeled.{GivesCommit}
use Rattle.gx_questions.proofs.Told.{fails_first, goes_on}

-- ---- one kind alone

-- what holds of each repository holds of the one that is told
pub always : (told : Option Records) (P : Records → Type 0) → ((r : Records) → P r) → IfSome told P
always None P h = tt
always (Some r) P h = h r

peel_is : (v : Value) (c : Commit) → commit_in v ≡ Ok c → peel v ≡ commit_value c
peel_is (blob_value x) c e = absurd cc
peel_is (tree_value f) c e = absurd cc
peel_is (commit_value d) c e = let same : d ≡ c = cc in ap commit_value same
peel_is (tag_value t) c e = let same : t.target ≡ c = cc in ap commit_value same

-- a commit alone is what peels to one
pub peeled_commit : (v : Value) → only_commit (peel v) ≡ (commit_in v >>= λ c. Ok (commit_value c))
peeled_commit (blob_value x) = refl
peeled_commit (tree_value f) = refl
peeled_commit (commit_value c) = refl
peeled_commit (tag_value t) = refl

-- ---- by names of commits and trees

module _ (name : Kind → Bytes → Bytes) (namer : IsNamer name) where
  -- where a commit is given, so is its value
  pub commit_value_is : (told : Option Records) (given : Records → Given Commit) (result : Result Name AskFault) → Sound name namer told → IsOfTold told (IsHeldAs kind.Commit) result → Answers told commit_at given result
      → Answers told value_at (λ r. given r >>= λ c. Ok (commit_value c)) result × IsOfTold told IsHeld result
  commit_value_is None given (Ok n) s h a = (tt, tt)
  commit_value_is (Some r) given (Ok n) s h a = (ap (λ g. g >>= λ c. Ok (commit_value c)) a ∙ ap Ok (sym (commit_stands name namer r s n.bytes h).0), (kind_held name namer r s kind.Commit n.bytes h).0)
  commit_value_is told given (Err e) s h a = (fails_first told given (λ r c. Ok (commit_value c)) e a, tt)

  -- and where a tree's files are
  pub tree_value_is : (told : Option Records) (given : Records → Given (FileMap Bytes)) (result : Result Name AskFault) → Sound name namer told → IsOfTold told (IsHeldAs kind.Tree) result → Answers told files_at given result
      → Answers told value_at (λ r. given r >>= λ f. Ok (tree_value f)) result × IsOfTold told IsHeld result
  tree_value_is None given (Ok n) s h a = (tt, tt)
  tree_value_is (Some r) given (Ok n) s h a = (ap (λ g. g >>= λ f. Ok (tree_value f)) a ∙ ap Ok (sym (tree_stands name namer r s n.bytes h).0), (kind_held name namer r s kind.Tree n.bytes h).0)
  tree_value_is told given (Err e) s h a = (fails_first told given (λ r f. Ok (tree_value f)) e a, tt)

  -- what a step from a commit to another gives
  pub behind_commit : (told : Option Records) (n c : Name) (next : Commit → Given Commit) (result : Result Name AskFault) → Sound name namer told → IfSome told (λ r. commit_in (value_at r n) ≡ Ok (commit_at r c))
      → Answers told commit_at (λ r. next (commit_at r c)) result → IsOfTold told (IsHeldAs kind.Commit) result → Answers told value_at (λ r. commit_in (value_at r n) >>= λ d. next d >>= λ e. Ok (commit_value e)) result
  behind_commit told n c next result s e a h =
      goes_on told commit_at (λ r. commit_in (value_at r n)) c value_at (λ r d. next d >>= λ e. Ok (commit_value e)) result e
      (commit_value_is told (λ r. next (commit_at r c)) result s h a).0

  -- what peels to a commit
  pub peels_to : (told : Option Records) (n c : Name) → Sound name namer told → GivesCommit name namer told n c → IfSome told (λ r. ◌≡◌ {A = Given Value} (Ok (peel (value_at r n))) (Ok (value_at r c)))
  peels_to None n c s h = tt
  peels_to (Some r) n c s h = ap Ok (peel_is (value_at r n) (commit_at r c) h.0 ∙ sym (commit_stands name namer r s c.bytes h.1).0)

-- ---- from left to right

-- what the suffixes from a place on give of one object is what all give of another
abbrev pub GivesAlike : Option Records → Name → Name → List Suffix → ℕ → Type 0
GivesAlike told n v suffixes i = IfSome told (λ r. all_suffixed (value_at r n) (map shown_suffix suffixes) ≡ all_suffixed (value_at r v) (map shown_suffix (drop i suffixes)))
