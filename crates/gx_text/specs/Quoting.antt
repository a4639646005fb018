-- Texts between quotes, as they are read and printed.
use Rattle.std.specs.Prelude.{ℕ, [], ◌∷◌, ◌++◌, Option, Result}
use Rattle.std.specs.Borrow.{Bor}
use Rattle.std.specs.Option.{option_map}
use Rattle.std.specs.List.{flat_map}
use Rattle.std.specs.declared.vec.Vec.{Vec}
use Rattle.gx_model.specs.Faults.{Gives}
use Rattle.gx_model.specs.Texts.{Bytes}
use Rattle.gx_model.specs.Texts.Paths.{or_bad_path, printed_byte, unquote}
use Rattle.gx_text.specs.TextFaults.{fault_of}
use Rattle.gx_text.specs.declared.fault.TextFault.{TextFault}

-- the bytes between quotes and what follows them are answered, or BadPath where there are none
abbrev pub GivesUnquoted : {A : Type 0} → Option (Bytes × Bytes) → Result (Vec ℕ A × Bor Bytes) TextFault → Type 0
GivesUnquoted {A} found result = Gives fault_of (λ (read : Vec ℕ A × Bor Bytes). (read.0.items, read.1.now)) result (or_bad_path found)

-- what follows the quoted text at the front, where one stands there
abbrev pub after_quoted : Bytes → Option Bytes
after_quoted bs = option_map (λ p. p.1) (unquote bs)

-- a text between quotes, each byte as it is printed there
abbrev pub printed_quoted : Bytes → Bytes
printed_quoted text = 34 ∷ flat_map printed_byte text ++ 34 ∷ []
