-- Texts that are lent, without where they lie in memory. Source: this project's own.
use Rattle.std.specs.Prelude.{List, map}
use Rattle.std.specs.Borrow.{Bor}
use Rattle.gx_model.specs.Texts.{Bytes}

-- some texts
abbrev pub lent_texts : List (Bor Bytes) → List Bytes
lent_texts = map (λ text. text.now)

-- a part and what follows it
abbrev pub lent_pair : Bor Bytes × Bor Bytes → Bytes × Bytes
lent_pair parts = (parts.0.now, parts.1.now)
