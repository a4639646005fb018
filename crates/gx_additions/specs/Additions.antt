-- Segments that bring no objects, by the lines of their tails. Source: this project's own format.
use Rattle.std.specs.Prelude.{◌≡◌, ◌⊎◌, ◌^◌, ℕ, ◌+◌, ◌<◌, List, [], ◌∷◌, ◌++◌, length, codes, Option, Some}
use Rattle.std.specs.List.{flat_map}
use Rattle.sha2.specs.Sha256.{sha256}
use Rattle.gx_model.specs.declared.objects.Kind.{Kind}
use Rattle.gx_model.specs.Texts.{Bytes}
use Rattle.gx_model.specs.Histories.{Records}
use Rattle.gx_model.specs.Laws.RepositoryLaws.{with_refs}
use Rattle.gx_model.specs.Records.Sound.{IsSound}
use Rattle.gx_model.specs.Texts.Numbers.{number_text}
use Rattle.gx_model.specs.Objects.{line}
use Rattle.gx_model.specs.Stores.StoreText.{stored_ref}
use Rattle.gx_growing.specs.GrowingText.{IsGrowingText, Run, Segment, run_text, segment_text}
use Rattle.gx_growing.specs.GrowingLaws.{ForEachDigester}
use Rattle.gx_growing_parts.specs.Endings.{IsEnding}
use Rattle.gx_growing_parts.specs.declared.ending.Ending.{Ending}
use Rattle.gx_append.specs.Appending.{IsReadAs, IsTold, Takes}

-- a segment that brings no records and no rows: these are the live runs still
abbrev pub refs_alone : List Run → List (Bytes × Bytes) → Segment
refs_alone runs refs = record { records = []; count = 0; table = []; runs = runs; refs = refs }

-- A growing text takes the segment that has its live runs and other refs, which makes it one of the same records with these refs,
-- where they are sound together.
pub record RefsAreTaken (name : Kind → Bytes → Bytes) : Type 0 where
  pub taken : ForEachDigester (λ digest. (text : Bytes) (repository : Records) (old : IsGrowingText name digest text repository)
      (refs : List (Bytes × Bytes)) → IsSound name (record { records = repository.records; refs = refs }) → length text < 2 ^ 63
      → old.slot.ends + length (segment_text (refs_alone old.last.runs refs)) < 2 ^ 63
      → Takes name digest text repository (record { records = repository.records; refs = refs }) old (refs_alone old.last.runs refs))

-- the lines of so many refs
pub record AreLines (named : List (Bytes × Bytes)) (count : ℕ) (refs : Bytes) : Type 0 where
  pub counted : count ≡ length named
  pub of_refs : refs ≡ flat_map stored_ref named

-- the tail of these runs and lines
abbrev pub tail_with : List Run → ℕ → Bytes → Bytes
tail_with runs count refs =
    line (codes "runs") (number_text (length runs)) ++ (flat_map run_text runs ++ (line (codes "refs") (number_text count) ++ (refs ++ (codes "end" ++ 10 ∷ []))))

-- ---- appending them

-- A file is told that is a growing text of a repository, with this ending, and the lines are given of refs that the repository may
-- have.
pub record GivesRefs (name : Kind → Bytes → Bytes) (told : Option Bytes) (ending : Ending) (count : ℕ) (refs : Bytes) (repository : Records)
    (named : List (Bytes × Bytes)) : Type 0 where
  pub file : Bytes
  pub is : told ≡ Some file
  pub old : IsGrowingText name sha256 file repository
  pub ends : IsEnding old ending
  pub lines : AreLines named count refs
  pub sound : IsSound name (with_refs repository named)
  pub short : length file < 2 ^ 63

-- nothing is written, or the file is read as the repository, and ends where its text does
abbrev pub IsCutBack : (Kind → Bytes → Bytes) → Option Bytes → Option Bytes → ℕ → Records → Type 0
IsCutBack name told new ends repository = (new ≡ told) ⊎ IsTold new (λ file. IsReadAs name sha256 repository file × (length file ≡ ends))
