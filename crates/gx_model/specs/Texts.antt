-- Texts are byte strings. What stands before and after a byte in them, and which bytes they lack.
-- Source: this project's own.
pub mod Digits
pub mod Headers
pub mod Idents
pub mod Numbers
pub mod Paths
pub mod RefNames
pub mod Sinks
use Rattle.std.specs.Prelude.{ℕ, Bool, false, not, ◌&&◌, ◌||◌, ◌==◌, List, [], ◌∷◌, Option, Some, None, nat_eq, if◌then◌else◌}
use Rattle.std.specs.Option.{option_map, unwrap_or}
use Rattle.std.specs.List.{list_any, list_all}
use Rattle.std.specs.Str.{bytes_eq}
use Rattle.std.specs.Ordering.{nat_cmp}
use Rattle.std.specs.Cmp.Lexicographic.{slice_cmp}
use Rattle.std.specs.declared.cmp.Ordering.{Ordering}

-- a text: its bytes, each below 256 where it was read
abbrev pub Bytes : Type 0
Bytes = List ℕ

-- whether two texts are equal
abbrev pub same_bytes : Bytes → Bytes → Bool
same_bytes = bytes_eq

-- the byte order of texts
abbrev pub byte_cmp : Bytes → Bytes → Ordering
byte_cmp = slice_cmp nat_cmp

-- what stands before the first c, and what stands after it; nothing where no c stands
unfoldable pub cut_at : ℕ → Bytes → Option (Bytes × Bytes)
cut_at c [] = None
cut_at c (b ∷ bs) = if b == c then Some ([], bs) else option_map (λ p. (b ∷ p.0, p.1)) (cut_at c bs)

-- the same two parts, and nothing in place of each where no c stands
abbrev pub parts_at : ℕ → Bytes → Bytes × Bytes
parts_at c bs = unwrap_or (cut_at c bs) ([], [])

-- some two neighbours are a and b
abbrev pub has_pair : ℕ → ℕ → Bytes → Bool
has_pair a b [] = false
has_pair a b (x ∷ []) = false
has_pair a b (x ∷ y ∷ zs) = (x == a && y == b) || has_pair a b (y ∷ zs)

-- whether c stands nowhere
abbrev pub lacks : ℕ → Bytes → Bool
lacks c bs = not (list_any (λ b. b == c) bs)

-- with no LF
abbrev pub is_line : Bytes → Bool
is_line = list_all (λ b. not (nat_eq b 10))
