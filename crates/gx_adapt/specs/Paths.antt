-- Paths that begin with a quote. One that isn't a quoted text is the name itself, as git takes it.
-- Source: git-fast-import(1), "filemodify", on paths and on quoted paths.
use Rattle.std.specs.Prelude.{ℕ, ◌-◌, Bool, false, not, ◌&&◌, ◌||◌, ◌==◌, [], ◌∷◌, ◌++◌, length, take, Option, Some, None, if◌then◌else◌}
use Rattle.std.specs.List.{flat_map}
use Rattle.gx_model.specs.Texts.{Bytes, cut_at}
use Rattle.gx_model.specs.Texts.Paths.{is_quoted}
use Rattle.gx_text.specs.Quoting.{after_quoted}

-- a byte between quotes: a quote or a backslash has a backslash before it
abbrev pub escaped : ℕ → Bytes
escaped b = if b == 34 || b == 92 then 92 ∷ b ∷ [] else b ∷ []

-- a text between quotes
abbrev pub quoted : Bytes → Bytes
quoted text = 34 ∷ flat_map escaped text ++ 34 ∷ []

-- something is there, and nothing follows it
abbrev pub ends : Option Bytes → Bool
ends None = false
ends (Some rest) = length rest == 0

-- a path that begins with a quote and isn't a quoted text
unfoldable pub is_open : Bytes → Bool
is_open path = is_quoted path && not (ends (after_quoted path))

-- a path, in quotes where it has to be
abbrev pub anew : Bytes → Bytes
anew path = if is_open path then quoted path else path

-- a source before what follows its closing quote, which is a space; or else before the first space
abbrev pub source_before : Bytes → Option Bytes → Option (Bytes × Bytes)
source_before bs None = cut_at 32 bs
source_before bs (Some []) = cut_at 32 bs
source_before bs (Some (b ∷ more)) = if b == 32 then Some (take (length bs - length (b ∷ more)) bs, more) else cut_at 32 bs

-- the source of a copy or a rename, as it is written, and what follows the space behind it
unfoldable pub source_of : Bytes → Option (Bytes × Bytes)
source_of bs = source_before bs (after_quoted bs)
