-- What a turn for a next text's file comes to.
use Rattle.std.specs.Prelude.{◌≡◌, Bool, true}
use Rattle.gx_place.specs.declared.claim.Turn.{Turn}
use Rattle.gx_place.specs.declared.claim.Turn.TheVariants.{Held, Again, Barred, Unlocked}

-- where it ends with a file, that one is this run's
abbrev pub IsOwnTurn : {F : Type 0} → (F → Bool) → Turn F → Type 0
IsOwnTurn is_own (Held file) = is_own file ≡ true
IsOwnTurn is_own Again = Unit {0}
IsOwnTurn is_own (Barred error) = Unit {0}
IsOwnTurn is_own (Unlocked error) = Unit {0}
