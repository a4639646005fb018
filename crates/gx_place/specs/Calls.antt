-- The calls that a run made of a system, newest first, with what they answered.
use Rattle.std.specs.Prelude.{◌≡◌, ℕ, List, ◌∷◌, ◌++◌, Option, Some, None, Result, Ok, ⊤}
use Rattle.std.specs.declared.io.Error.{Error}
use Rattle.gx_place.specs.declared.look.Look.{Look}

-- a path's bytes
abbrev pub Text : Type 0
Text = List ℕ

-- a call that looks at files, or changes which of them a name names; a file that is open goes by a number
pub data Call : Type 0 where
  -- what a path names, behind links, or no link followed; and what is open
  Looked : Text → Result Look Error → Call
  LookedAtName : Text → Result Look Error → Call
  LookedAt : ℕ → Result Look Error → Call
  Synced : ℕ → Result (Unit {0}) Error → Call
  Renamed : Text → Text → Result (Unit {0}) Error → Call
  Removed : Text → Result (Unit {0}) Error → Call

-- this call was made; a system that tells nothing goes on so, and nothing is claimed of it
abbrev pub Makes : Call → Option (List Call) → Option (List Call) → Type 0
Makes call None new = new ≡ None
Makes call (Some old) new = new ≡ Some (call ∷ old)

-- calls were made of which this holds
abbrev pub Made : (List Call → Type 0) → Option (List Call) → Option (List Call) → Type 0
Made IsSo None new = new ≡ None
Made IsSo (Some old) new = (made : List Call) × (new ≡ Some (made ++ old)) × IsSo made

-- the newest calls found that a path names a file
pub record Finds (path : Text) (file : ℕ) (calls : List Call) : Type 0 where
  pub named : Look
  pub now : Look
  pub before : List Call
  pub newest : calls ≡ LookedAt file (Ok now) ∷ LookedAtName path (Ok named) ∷ before
  pub same : named.stamp.identity ≡ now.stamp.identity

-- the same, where the calls are known
abbrev pub IsNamed : Option (List Call) → Text → ℕ → Type 0
IsNamed None path file = ⊤
IsNamed (Some calls) path file = Finds path file calls
