-- Paths: their components, their text, and the quoted form. Source: git-fast-import(1), "filemodify", on paths and on quoted paths.
use Rattle.std.specs.Prelude.{◌≡◌, IsTrue, ℕ, zero, suc, ◌+◌, ◌-◌, ◌*◌, ◌/◌, ◌%◌, ◌<◌, ◌≤◌, Bool, true, false, not, ◌&&◌, ◌||◌, ◌==◌, nat_lt, nat_le, codes, List, [], ◌∷◌, ◌++◌, length, Option, Some, None, Result, Ok, Err, if◌then◌else◌}
use Rattle.std.specs.Option.{option_map, option_and_then}
use Rattle.std.specs.List.{list_any, list_all, slice_split, join_with_byte, flat_map, AllByRecursion}
use Rattle.std.specs.Str.{bytes_eq}
use Rattle.std.specs.Cmp.Lexicographic.{pointwise}
use Rattle.std.specs.Ordering.{on}
use Rattle.std.specs.declared.cmp.Ordering.{Ordering}
use Rattle.gx_model.specs.declared.faults.Fault.{Fault}
use Rattle.gx_model.specs.declared.faults.Fault.TheVariants as faults
use Rattle.gx_model.specs.Texts.{Bytes, byte_cmp, same_bytes}

-- ---- paths

-- the components. The root has none
abbrev pub Path : Type 0
Path = List Bytes

-- whether two paths are equal
abbrev pub same_path : Path → Path → Bool
same_path = pointwise same_bytes

-- each number of a text is a byte
abbrev pub AreBytes : Bytes → Type 0
AreBytes text = AllByRecursion (λ x. x < 256) text

-- bytes: not empty, not `.` or `..`, with no `/` and no NUL
abbrev pub is_component : Bytes → Bool
is_component c = list_all (λ b. nat_lt b 256) c && not (length c == 0) && not (bytes_eq c (codes ".")) && not (bytes_eq c (codes "..")) && not (list_any (λ b. b == 47) c) && not (list_any (λ b. b == 0) c)

-- the text of a path
abbrev pub path_text : Path → Bytes
path_text cs = join_with_byte 47 cs

-- the byte order of whole paths
abbrev pub path_cmp : Path → Path → Ordering
path_cmp = on path_text byte_cmp

-- at most 4,095 bytes
abbrev pub is_short : Path → Bool
is_short p = nat_le (length (path_text p)) 4095

-- a path of a file: not the root
abbrev pub is_file_path : Path → Bool
is_file_path [] = false
is_file_path (c ∷ p) = list_all is_component (c ∷ p) && is_short (c ∷ p)

-- p begins q: q is p, or below p
abbrev pub begins : Path → Path → Bool
begins [] q = true
begins (c ∷ p) [] = false
begins (c ∷ p) (d ∷ q) = same_bytes c d && begins p q

-- one of the two is at or below the other
abbrev pub are_in_line : Path → Path → Bool
are_in_line p q = begins p q || begins q p

-- the components of a text: the empty text is the root
abbrev pub parts_of : Bytes → Path
parts_of [] = []
parts_of (b ∷ bs) = slice_split (λ x. x == 47) (b ∷ bs)

-- the path that a text gives: BadPath is told before PathTooLong
abbrev pub path_of : Bytes → Result (Path) Fault
path_of bs =
    if list_all is_component (parts_of bs) then (if nat_le (length bs) 4095 then Ok (parts_of bs) else Err faults.PathTooLong)
    else Err faults.BadPath

-- the path of a text: its proper components, joined by slashes, are the text
pub record IsPathOf (text : Bytes) (p : Path) : Type 0 where
  pub joined : path_text p ≡ text
  pub components : IsTrue (list_all is_component p)
  pub short : length text ≤ 4095

-- ---- quoted texts

-- whether a text begins with a quote
abbrev pub is_quoted : Bytes → Bool
is_quoted [] = false
is_quoted (b ∷ bs) = b == 34

-- what an escape stands for, by the letter after the `\`
abbrev pub named : ℕ → Option ℕ
named c =
    if c == 97 then Some 7 else (if c == 98 then Some 8 else (if c == 102 then Some 12 else (if c == 110 then Some 10 else (if c == 114 then Some 13
    else (if c == 116 then Some 9 else (if c == 118 then Some 11 else (if c == 92 then Some 92 else (if c == 34 then Some 34 else None))))))))

-- an octal digit
abbrev pub is_octal : ℕ → Bool
is_octal d = nat_le 48 d && nat_le d 55

-- the byte of three octal digits, of which the first is at most 3
abbrev pub octal_of : ℕ → ℕ → ℕ → Option ℕ
octal_of a b c = if nat_le 48 a && nat_le a 51 && is_octal b && is_octal c then Some ((a - 48) * 64 + (b - 48) * 8 + (c - 48)) else None

-- what stands after a `\`
abbrev pub escape_at : Bytes → Option (ℕ × Bytes)
escape_at [] = None
escape_at (a ∷ []) = option_map (λ x. (x, [])) (named a)
escape_at (a ∷ b ∷ []) = option_map (λ x. (x, b ∷ [])) (named a)
escape_at (a ∷ b ∷ c ∷ rest) = if nat_le 48 a && nat_le a 51 then option_map (λ x. (x, rest)) (octal_of a b c) else option_map (λ x. (x, b ∷ c ∷ rest)) (named a)

-- the byte that the front of a quoted text stands for, or its closing quote, and what follows
unfoldable pub char_at : Bytes → Option (Option ℕ × Bytes)
char_at [] = None
char_at (b ∷ bs) =
    if b == 34 then Some (None, bs)
    else (if b == 92 then option_map (λ x. (Some x.0, x.1)) (escape_at bs)
    else (if b == 10 || b == 0 then None else Some (Some b, bs)))

-- one byte more before what is read, or the closing quote
abbrev pub with_char : Option ℕ → Bytes → Option (Bytes × Bytes) → Option (Bytes × Bytes)
with_char None rest more = Some ([], rest)
with_char (Some b) rest more = option_map (λ p. (b ∷ p.0, p.1)) more

-- the bytes up to the closing quote, at most n of them, and what follows it
unfoldable pub unquote_within : ℕ → Bytes → Option (Bytes × Bytes)
unquote_within zero bs = None
unquote_within (suc n) bs = option_and_then (λ x. with_char x.0 x.1 (unquote_within n x.1)) (char_at bs)

-- what is read, or BadPath
abbrev pub or_bad_path : {A : Type 0} → Option A → Result A Fault
or_bad_path None = Err faults.BadPath
or_bad_path (Some x) = Ok x

-- the bytes of a text that begins with a quote, and what follows it
abbrev pub unquote : Bytes → Option (Bytes × Bytes)
unquote [] = None
unquote (b ∷ bs) = if b == 34 then unquote_within (length bs) bs else None

-- a path, with what follows it
abbrev pub with_rest : Bytes → Result (Path) Fault → Result (Path × Bytes) Fault
with_rest rest (Ok cs) = Ok (cs, rest)
with_rest rest (Err e) = Err e

-- the path of the bytes between quotes, with what follows them
abbrev pub path_at : Option (Bytes × Bytes) → Result (Path × Bytes) Fault
path_at None = Err faults.BadPath
path_at (Some p) = with_rest p.1 (path_of p.0)

-- the path of a quoted text, and what follows it
unfoldable pub quoted_of : Bytes → Result (Path × Bytes) Fault
quoted_of bs = path_at (unquote bs)

-- a byte that stands for itself between quotes
abbrev pub is_itself : ℕ → Bool
is_itself b = not (b == 34) && not (b == 92) && not (b == 10) && not (b == 0)

-- how a byte is written between quotes: as itself, by a letter, or by three octal digits
pub data WritesByte : Bytes → ℕ → Type 0 where
  as_itself : {b : ℕ} → IsTrue (is_itself b) → WritesByte (b ∷ []) b
  by_letter : {l b : ℕ} → named l ≡ Some b → WritesByte (92 ∷ l ∷ []) b
  by_digits : {x y z b : ℕ} → octal_of x y z ≡ Some b → WritesByte (92 ∷ x ∷ y ∷ z ∷ []) b

-- how a text is written between quotes, byte by byte
pub data WritesText : Bytes → Bytes → Type 0 where
  writes_none : WritesText [] []
  writes_more : {w ws bs : Bytes} {b : ℕ} → WritesByte w b → WritesText ws bs → WritesText (w ++ ws) (b ∷ bs)

-- a text between quotes, and what follows it
pub record IsQuotedText (bs text rest : Bytes) : Type 0 where
  pub body : Bytes
  pub spelled : bs ≡ 34 ∷ (body ++ 34 ∷ rest)
  pub writes : WritesText body text

-- ---- printing

-- the letter of a byte's named escape
abbrev pub letter_of : ℕ → Option ℕ
letter_of x =
    if x == 7 then Some 97 else (if x == 8 then Some 98 else (if x == 12 then Some 102 else (if x == 10 then Some 110 else (if x == 13 then Some 114
    else (if x == 9 then Some 116 else (if x == 11 then Some 118 else (if x == 92 then Some 92 else (if x == 34 then Some 34 else None))))))))

-- a byte that needs no quotes where it is printed
abbrev pub is_printed_bare : ℕ → Bool
is_printed_bare x = nat_le 32 x && nat_lt x 127 && not (x == 34) && not (x == 92)

-- the three octal digits of a byte
abbrev pub octal_digits : ℕ → Bytes
octal_digits x = (48 + x / 8 / 8) ∷ (48 + x / 8 % 8) ∷ (48 + x % 8) ∷ []

-- a byte as an escape: by its letter, or in octal
abbrev pub escaped : ℕ → Option ℕ → Bytes
escaped x None = 92 ∷ octal_digits x
escaped x (Some letter) = 92 ∷ letter ∷ []

-- a byte between quotes
abbrev pub printed_byte : ℕ → Bytes
printed_byte x = if is_printed_bare x then x ∷ [] else escaped x (letter_of x)

-- the printed form of a path: quoted where a byte needs it
abbrev pub printed : Bytes → Bytes
printed text = if list_all is_printed_bare text then text else 34 ∷ flat_map printed_byte text ++ 34 ∷ []
