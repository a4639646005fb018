-- What came of a source, and what is still to come.
use Rattle.std.proofs.Common.{◌≡◌, ◌++◌, Option, None, Some}
use Rattle.std.specs.Bool.{⊤}
use Rattle.gx_model.specs.Texts.{Bytes}
use Rattle.gx_text.specs.Devices.{Coming}

-- these bytes came of what a source had to give, and the rest is still to come
abbrev pub Came : Option Coming → Bytes → Option Coming → Type 0
Came None text now = ⊤
Came (Some c) text now = (left : Coming) × (now ≡ Some left) × (c.bytes ≡ text ++ left.bytes) × (left.fails ≡ c.fails)
