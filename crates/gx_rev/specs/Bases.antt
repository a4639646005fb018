-- The base in a revision's text.
use Rattle.std.specs.Prelude.{Bool, ◌&&◌, nat_eq, nat_le, nat_lt, length}
use Rattle.std.specs.List.{list_all}
use Rattle.gx_model.specs.Texts.{Bytes}
use Rattle.gx_model.specs.Texts.Digits.{is_any_digit}

-- an object's name in full: 40 hexadecimal digits
abbrev pub is_full_name : Bytes → Bool
is_full_name text = list_all is_any_digit text && nat_eq (length text) 40

-- what may abbreviate an object's name: 4 to 39 hexadecimal digits
abbrev pub is_abbreviation : Bytes → Bool
is_abbreviation text = list_all is_any_digit text && nat_le 4 (length text) && nat_lt (length text) 40
