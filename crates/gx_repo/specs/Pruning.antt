-- What is left of a repository besides what its refs reach, and marks of records by their places, and how these spread.
-- Source: git-prune(1), and gitglossary(7), "reachable".
use Rattle.std.specs.Prelude.{◌≡◌, ℕ, ◌+◌, Bool, ◌||◌, List, [], ◌∷◌, ◌++◌, length, map}
use Rattle.std.specs.List.{filter, list_any}
use Rattle.gx_model.specs.Texts.{Bytes, same_bytes}
use Rattle.gx_model.specs.Histories.{Record, Records}
use Rattle.gx_model.specs.Pruning.{is_reachable, is_tip}
use Rattle.gx_model.specs.Records.Publishing.{Ref}

-- refs that hold the objects of these names; what refs reach is the same whatever the refs are called
abbrev pub tips_of : List Bytes → List Ref
tips_of = map (λ name. ([], name))

-- whether the refs of a repository, or the objects of these names, reach the object of this name
abbrev pub is_kept_beside : List Bytes → Records → Bytes → Bool
is_kept_beside names repository = is_reachable (repository.refs ++ tips_of names) repository.records

-- the records that the refs or the objects of these names reach, in their order, under the same refs
unfoldable pub pruned_beside : List Bytes → Records → Records
pruned_beside names repository = record { records = filter (λ held. is_kept_beside names repository held.name) repository.records; refs = repository.refs }

-- by the places of the records, those whose names pass are marked
abbrev pub marks_by : (Bytes → Bool) → List Record → List Bool
marks_by test records = map (λ held. test held.name) records

-- besides those that were, the records of these names are marked
abbrev pub MarksNames : List Record → List Bytes → List Bool → List Bool → Type 0
MarksNames records names old new = (test : Bytes → Bool) → old ≡ marks_by test records → new ≡ marks_by (λ name. test name || list_any (same_bytes name) names) records

-- where what refs hold was marked, what they reach is marked
abbrev pub Spreads : List Record → List Bool → List Bool → Type 0
Spreads records old new = (refs : List Ref) → old ≡ marks_by (is_tip refs) records → new ≡ marks_by (is_reachable refs records) records

-- the names of the objects that refs hold
abbrev pub objects_held : List Ref → List Bytes
objects_held = map (λ ref. ref.1)

-- the number of bytes in the bodies of records
abbrev pub weight : List Record → ℕ
weight [] = 0
weight (r ∷ rs) = length r.body + weight rs
