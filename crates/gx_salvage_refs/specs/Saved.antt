-- Which records are saved.
use Rattle.std.specs.Prelude.{◌≡◌, ℕ, ◌+◌, is_some, IsTrue, List, [], ◌∷◌, length, Some}
use Rattle.std.specs.List.{AllByRecursion}
use Rattle.gx_model.specs.Histories.{Record, Records}
use Rattle.gx_model.specs.Records.Growth.{record_named}
use Rattle.gx_model.specs.Texts.{Bytes}

-- these are records of a repository
abbrev pub AreOf : Records → List Record → Type 0
AreOf r records = AllByRecursion (λ held. record_named r.records held.name ≡ Some held) records

-- an object of this name is held
abbrev pub IsSaved : List Record → Bytes → Type 0
IsSaved records called = IsTrue (is_some (record_named records called))

-- what is held stays
abbrev pub KeepsSaved : List Record → List Record → Type 0
KeepsSaved old new = (called : Bytes) → IsSaved old called → IsSaved new called

-- how many bytes the bodies of records have
abbrev pub body_bytes : List Record → ℕ
body_bytes [] = 0
body_bytes (held ∷ records) = length held.body + body_bytes records
