-- What the calls of a device do to its text, and what a stop of the machine may leave of it between two syncs.
use Rattle.std.specs.Prelude.{◌≡◌, ◌⊎◌, ◌^◌, ℕ, ◌+◌, ◌-◌, ◌≤◌, ◌<◌, ◌++◌, length, take, drop, Option, Some, None, Result, Ok, Err, IsErr, ⊤}
use Rattle.std.specs.declared.io.Error.{Error}
use Rattle.gx_model.specs.Texts.{Bytes}

-- what a call of a device answers
abbrev pub Answer : Type 0
Answer = Result (Unit {0}) Error

-- ---- what is read

-- a text with these bytes at a place, over what was there and behind its end
abbrev pub written_at : ℕ → Bytes → Bytes → Bytes
written_at at bytes text = take at text ++ (bytes ++ drop (at + length bytes) text)

-- A write of so many bytes is torn: any bytes stand in its range, and what stood before and behind it stands there still.
pub record Torn (at count : ℕ) (old new : Bytes) : Type 0 where
  pub before : at ≤ length old → take at new ≡ take at old
  pub behind : drop (at + count) new ≡ drop (at + count) old
  pub no_shorter : length old ≤ length new

-- a cut is done or not, or in part: what stands in front of it stands there still
abbrev pub Cut : ℕ → Bytes → Bytes → Type 0
Cut at old new = at ≤ length old → take at new ≡ take at old

-- a write gives the text with these bytes, and one that fails is torn
abbrev pub WritesTo : ℕ → Bytes → Answer → Bytes → Option Bytes → Type 0
WritesTo at bytes (Ok _) old new = new ≡ Some (written_at at bytes old)
WritesTo at bytes (Err _) old new = (text : Bytes) × (new ≡ Some text) × Torn at (length bytes) old text

-- of a device that tells no text, and of a write behind the end, nothing is claimed
abbrev pub Writes : ℕ → Bytes → Answer → Option Bytes → Option Bytes → Type 0
Writes at bytes result None new = ⊤
Writes at bytes result (Some old) new = at ≤ length old → WritesTo at bytes result old new

-- a cut gives the text up to the place
abbrev pub CutsTo : ℕ → Answer → Bytes → Option Bytes → Type 0
CutsTo at (Ok _) old new = new ≡ Some (take at old)
CutsTo at (Err _) old new = (text : Bytes) × (new ≡ Some text) × Cut at old text

-- of a device that tells no text, and of a cut behind the end, nothing is claimed
abbrev pub Cuts : ℕ → Answer → Option Bytes → Option Bytes → Type 0
Cuts at result None new = ⊤
Cuts at result (Some old) new = at ≤ length old → CutsTo at result old new

-- a device counts its failures up to this number
abbrev pub most_faults : ℕ
most_faults = 2 ^ 64 - 1

-- a call fails only where the device has failed since, as long as it counts
pub record CountsFaults (before now : ℕ) (result : Answer) : Type 0 where
  pub later : before ≤ now
  pub failed : IsErr result → now < most_faults → before < now

-- of a device that tells no text nothing is claimed
abbrev pub FailsFor : Option Bytes → ℕ → ℕ → Answer → Type 0
FailsFor None before now result = ⊤
FailsFor (Some _) before now result = CountsFaults before now result

-- ---- what a stop leaves

-- a stop leaves this text alone
abbrev pub Only : Bytes → (Bytes → Type 0) → Type 0
Only text outcomes = (c : Bytes) → outcomes c → c ≡ text

-- a stop leaves the text that is told alone
abbrev pub OnlyText : Option Bytes → (Bytes → Type 0) → Type 0
OnlyText None outcomes = ⊤
OnlyText (Some text) outcomes = Only text outcomes

-- each new outcome of a stop is an old one after a step
abbrev pub Follows : (Bytes → Bytes → Type 0) → (Bytes → Type 0) → (Bytes → Type 0) → Type 0
Follows Step old new = (c : Bytes) → new c → (d : Bytes) × old d × Step d c

module _ {D : Type 0} (moment : D → ℕ) (left_since : D → ℕ → Bytes → Type 0) (may_leave : D → Bytes → Type 0) where
  -- time goes on: a stop since a moment might have left what it might have left before, or what one may leave now
  pub record Elapses (old new : D) : Type 0 where
    pub later : moment old ≤ moment new
    pub nothing_else : (t : ℕ) (c : Bytes) → t ≤ moment old → left_since new t c → left_since old t c ⊎ may_leave new c
    pub keeps : (t : ℕ) (c : Bytes) → t ≤ moment old → left_since old t c → left_since new t c

  -- A stop at any moment of these calls, or between two of them, leaves what one might have left before the first, or what this
  -- holds of. So it does of any calls before these and these.
  pub record LeavesOnly (old new : D) (Holds : Bytes → Type 0) : Type 0 where
    pub later : moment old ≤ moment new
    pub each : (c : Bytes) → left_since new (moment old) c → may_leave old c ⊎ Holds c
    pub since : (t : ℕ) (c : Bytes) → t ≤ moment old → left_since new t c → left_since old t c ⊎ Holds c
