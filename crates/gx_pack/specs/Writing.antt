-- What goes out of a pack, or why no more does.
use Rattle.std.specs.Prelude.{◌≡◌, ℕ, ◌++◌, Option, Result, Ok, Err}
use Rattle.sha1.specs.Sha1.{Holds, sha1}
use Rattle.sha1.specs.declared.Sha1.{Sha1}
use Rattle.gx_model.specs.Texts.{Bytes}
use Rattle.gx_model.specs.Texts.Sinks.{FailedWithin, Taken, Took}
use Rattle.gx_text.specs.declared.device.Failed.{Failed}

-- a sink, by the name of its loan, what it took, and what is digested of that
pub record Sent : Type 0 where
  pub name : ℕ
  pub taken : Option Taken
  pub hasher : Sha1

-- a text is digested behind what was
abbrev pub Digests : Sha1 → Sha1 → Bytes → Type 0
Digests old new text = (before : Bytes) → Holds old before → Holds new (before ++ text)

-- a text goes out and is digested; or the sink fails within it
abbrev pub Goes : Sent → Sent → Bytes → Result (Unit {0}) Failed → Type 0
Goes old new text (Ok _) = Took old.taken new.taken text × Digests old.hasher new.hasher text
Goes old new text (Err _) = FailedWithin old.taken new.taken text

-- it goes to this sink and no other
abbrev pub Writes : Sent → Sent → Bytes → Result (Unit {0}) Failed → Type 0
Writes old new text result = (new.name ≡ old.name) × Goes old new text result

-- a text goes out, or the sink fails within it
abbrev pub Delivers : Option Taken → Option Taken → Bytes → Result (Unit {0}) Failed → Type 0
Delivers was now text (Ok _) = Took was now text
Delivers was now text (Err _) = FailedWithin was now text

-- the digest of what went out goes out
abbrev pub WritesDigest : Sent → Sent → Result (Unit {0}) Failed → Type 0
WritesDigest old new result = (new.name ≡ old.name) × ((text : Bytes) → Holds old.hasher text → Delivers old.taken new.taken (sha1 text) result)
