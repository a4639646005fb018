-- The lines of a commit's or a tag's body, read from the left: a word, a space, and the rest of the line.
use Rattle.std.specs.Prelude.{nat_eq, if◌then◌else◌, [], ◌∷◌, length, take, drop, Option, None, Some}
use Rattle.std.specs.Cmp.Lexicographic.{pointwise}
use Rattle.std.specs.Option.{option_and_then}
use Rattle.gx_model.specs.Texts.{Bytes, cut_at}
use Rattle.gx_model.specs.Texts.Idents.{is_ident}
use Rattle.gx_model.specs.Objects.Naming.{lower_name_in}

-- the first step, and with what it gives the second, where both are there
infixl 10 ◌>>=◌
abbrev pub ◌>>=◌ : {A B : Type 0} → Option A → (A → Option B) → Option B
o >>= f = option_and_then f o

-- what follows this front
unfoldable pub stripped : Bytes → Bytes → Option Bytes
stripped front bytes = if pointwise nat_eq (take (length front) bytes) front then Some (drop (length front) bytes) else None

-- what the line of this word has, and what follows the line
unfoldable pub field : Bytes → Bytes → Option (Bytes × Bytes)
field word bytes = do
  a ← stripped word bytes
  b ← stripped (32 ∷ []) a
  cut_at 10 b

-- a line with the digits of a name
unfoldable pub name_field : Bytes → Bytes → Option (Bytes × Bytes)
name_field word bytes = do
  a ← field word bytes
  n ← lower_name_in a.0
  Some (n, a.1)

-- a line with an identity
unfoldable pub ident_field : Bytes → Bytes → Option (Bytes × Bytes)
ident_field word bytes = do
  a ← field word bytes
  if is_ident a.0 then Some a else None

-- what a line at the front has, or nothing where there is no such line
abbrev pub or_absent : Option (Bytes × Bytes) → Bytes → Option Bytes × Bytes
or_absent None bytes = (None, bytes)
or_absent (Some a) bytes = (Some a.0, a.1)
