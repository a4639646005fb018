-- What is left of a text of which a part is read.
use Rattle.std.specs.Prelude.{◌≡◌, ◌++◌}
use Rattle.gx_model.specs.Texts.{Bytes}

-- a text ends with these bytes
abbrev pub EndsWith : Bytes → Bytes → Type 0
EndsWith text rest = (front : Bytes) × (text ≡ front ++ rest)
