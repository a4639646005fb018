-- Hexadecimal digits. Source: Pro Git, "Git Objects", where names are written in lower case, and git-fast-import(1), where either case is read.
use Rattle.std.specs.Prelude.{ℕ, ◌+◌, Bool, ◌&&◌, ◌||◌, ◌==◌, nat_le, nat_eq, length, if◌then◌else◌}
use Rattle.std.specs.List.{list_all}
use Rattle.gx_model.specs.Texts.{Bytes}

-- a digit, or a letter from a to f
abbrev pub is_lower_digit : ℕ → Bool
is_lower_digit digit = (nat_le 48 digit && nat_le digit 57) || (nat_le 97 digit && nat_le digit 102)

-- a hexadecimal digit of either case
abbrev pub is_any_digit : ℕ → Bool
is_any_digit d = (nat_le 48 d && nat_le d 57) || (nat_le 97 d && nat_le d 102) || (nat_le 65 d && nat_le d 70)

-- a digit in lower case
abbrev pub lower : ℕ → ℕ
lower d = if nat_le 65 d && nat_le d 70 then d + 32 else d

-- the text of a name: 40 lower-case digits
abbrev pub is_name_text : Bytes → Bool
is_name_text text = nat_eq (length text) 40 && list_all is_lower_digit text

-- 40 digits of either case
abbrev pub is_any_name_text : Bytes → Bool
is_any_name_text bs = list_all is_any_digit bs && length bs == 40
