-- Numbers in decimal. Source: git-fast-import(1), where each number is written so.
use Rattle.std.specs.Prelude.{ℕ, ◌+◌, ◌^◌, Bool, ◌&&◌, nat_eq, nat_lt, [], ◌∷◌, length, map, Option, Some, None, if◌then◌else◌}
use Rattle.std.specs.List.{list_all}
use Rattle.std.specs.Char.{is_ascii_digit}
use Rattle.std.specs.Int.Digits.{digits_of}
use Rattle.std.specs.Str.Parse.{digits_value}
use Rattle.gx_model.specs.Texts.{Bytes}

-- one or more digits, whose value is below 2 ^ 64; zeros may lead
abbrev pub is_number : Bytes → Bool
is_number ds = list_all is_ascii_digit ds && nat_lt 0 (length ds) && nat_lt (digits_value 10 ds) (2 ^ 64)

-- the number that a text writes in decimal, where it is one
abbrev pub decimal_of : Bytes → Option ℕ
decimal_of ds = if is_number ds then Some (digits_value 10 ds) else None

-- a number in decimal, however many digits it has: the highest first, and no zero before the others
unfoldable pub number_text : ℕ → Bytes
number_text n = if nat_eq n 0 then 48 ∷ [] else map (λ digit. 48 + digit) (digits_of 10 n)
