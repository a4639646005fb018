-- Objects that are held, many at once.
use Rattle.std.specs.Prelude.{List}
use Rattle.std.specs.List.{AllByRecursion}
use Rattle.gx_model.specs.declared.objects.Kind.{Kind}
use Rattle.gx_model.specs.Texts.{Bytes}
use Rattle.gx_model.specs.Histories.{Record}
use Rattle.gx_model.specs.Records.Sound.{Holds, IsTarget}

-- a record of this kind for each of these names
abbrev pub HoldsEach : List Record → Kind → List Bytes → Type 0
HoldsEach records of_kind names = AllByRecursion (Holds records of_kind) names

-- each of these refs may hold its object, which is among the records
abbrev pub AreTargets : List Record → List (Bytes × Bytes) → Type 0
AreTargets records refs = AllByRecursion (λ ref. IsTarget records ref.0 ref.1) refs
