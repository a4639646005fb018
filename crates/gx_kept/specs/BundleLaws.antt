-- What the law of bundles says: who has what a bundle tells to be had has, with its objects, all that its refs reach.
-- Source: git-bundle(1), gitformat-bundle(5), and gitglossary(7), "reachable".
use Rattle.std.specs.Prelude.{◌≡◌, Bool, ◌||◌, List, IsTrue}
use Rattle.std.specs.List.{AllByRecursion, list_any}
use Rattle.gx_model.specs.declared.objects.Kind.{Kind}
use Rattle.gx_model.specs.Histories.{Record, Records}
use Rattle.gx_model.specs.Laws.PruningLaws.{LinksHave}
use Rattle.gx_model.specs.Objects.{IsNamer}
use Rattle.gx_model.specs.Pruning.{is_reachable}
use Rattle.gx_model.specs.Records.Publishing.{Ref}
use Rattle.gx_model.specs.Records.Sound.{AnyByRecursion, IsSound}
use Rattle.gx_model.specs.Texts.{Bytes, same_bytes}
use Rattle.gx_kept.specs.Telling.{reached_beyond}

-- whether one has the object of a name that had some, once these records came
abbrev pub has_with : (Bytes → Bool) → List Record → Bytes → Bool
has_with has sent called = has called || list_any (λ held. same_bytes called held.name) sent

-- who has the objects of these names has, with each object, also those that it names
pub record IsReader (had : List Bytes) (records : List Record) (has : Bytes → Bool) : Type 0 where
  pub told : AllByRecursion (λ called. IsTrue (has called)) had
  pub closed : AllByRecursion (λ held. IsTrue (has held.name) → LinksHave has held) records

-- Such a reader has then each object that refs reach, and what that names. Nothing goes out that these don't reach, or that what was
-- had reaches.
pub record PacksAreWhole (name : Kind → Bytes → Bytes) : Type 0 where
  pub held : (repository : Records) → IsSound name repository → (refs : List Ref) (had : List Bytes) (has : Bytes → Bool)
      → IsReader had repository.records has → (held : Record) → AnyByRecursion (λ other. other ≡ held) repository.records
      → IsTrue (is_reachable refs repository.records held.name) → IsTrue (has_with has (reached_beyond refs had repository.records) held.name)
  pub linked : (repository : Records) → IsSound name repository → (refs : List Ref) (had : List Bytes) (has : Bytes → Bool)
      → IsReader had repository.records has → (held : Record) → AnyByRecursion (λ other. other ≡ held) repository.records
      → IsTrue (is_reachable refs repository.records held.name) → LinksHave (has_with has (reached_beyond refs had repository.records)) held
