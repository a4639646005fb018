-- Header lines of a commit: what stands between the line of its committer and the empty line before its message.
-- Source: gitformat-signature(5), on `gpgsig` and `mergetag`, and git-commit(1), "Discussion", on `encoding`.
use Rattle.std.specs.Prelude.{Bool, true, not, ◌&&◌, ◌==◌, nat_eq, if◌then◌else◌, [], ◌∷◌, ◌++◌, drop, codes, Option, None, Some}
use Rattle.std.specs.List.{starts_with}
use Rattle.gx_model.specs.Texts.{Bytes, parts_at, same_bytes}

-- lines that aren't empty, each with its LF; or what is left of them behind the first byte of one
abbrev pub are_lines : Bool → Bytes → Bool
are_lines is_start [] = is_start
are_lines is_start (b ∷ bs) = not (is_start && b == 10) && are_lines (b == 10) bs

-- headers, with the lines that continue them: lines that aren't empty, each with its LF
abbrev pub is_headers : Bytes → Bool
is_headers = are_lines true

-- what stands before the first empty line, and what follows it; the text may begin inside a line
abbrev pub headers_from : Bool → Bytes → Bytes × Bytes
headers_from is_start [] = ([], [])
headers_from is_start (b ∷ bs) =
    if is_start && b == 10 then ([], bs) else (b ∷ (headers_from (b == 10) bs).0, (headers_from (b == 10) bs).1)

-- the header lines at the front of a text, and what follows the empty line behind them
abbrev pub headers_in : Bytes → Bytes × Bytes
headers_in = headers_from true

-- ---- the encoding of a message

-- the header of an encoding, or none
abbrev pub encoding_header : Option Bytes → Bytes
encoding_header None = []
encoding_header (Some encoding) = codes "encoding " ++ encoding ++ 10 ∷ []

-- a text, unless it is empty
abbrev pub unless_empty : Bytes → Option Bytes
unless_empty [] = None
unless_empty (b ∷ bs) = Some (b ∷ bs)

-- the encoding that the first header tells: one behind another header, or an empty one, tells none
abbrev pub encoding_in : Bytes → Option Bytes
encoding_in headers = if starts_with nat_eq headers (codes "encoding ") then unless_empty (parts_at 10 (drop 9 headers)).0 else None

-- whether these are the header of an encoding, or none: a stream can say no other
abbrev pub is_encoding_alone : Bytes → Bool
is_encoding_alone headers = same_bytes headers (encoding_header (encoding_in headers))
