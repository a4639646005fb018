-- How objects get their names. Source: Pro Git, "Git Objects", and FIPS 180-4.
use Rattle.std.specs.Prelude.{ℕ, ◌%◌, ◌&&◌, nat_eq, if◌then◌else◌, [], ◌∷◌, ◌++◌, length, map, codes, decimal, replicate, Option, Some, None}
use Rattle.std.specs.List.{list_all}
use Rattle.gx_model.specs.declared.objects.Kind.{Kind}
use Rattle.gx_model.specs.declared.objects.Kind.TheVariants.{Blob, Tree, Commit, Tag}
use Rattle.gx_model.specs.Texts.{Bytes}
use Rattle.gx_model.specs.Texts.Digits.{is_any_digit, is_name_text, lower}
use Rattle.gx_model.specs.Objects.{unhex}

-- the word of a kind
abbrev pub kind_word : Kind → Bytes
kind_word Blob = codes "blob"
kind_word Tree = codes "tree"
kind_word Commit = codes "commit"
kind_word Tag = codes "tag"

-- the text whose SHA-1 digest is the name: the kind's word, a space, the body's length, a NUL and the body
unfoldable pub record_text : Kind → Bytes → Bytes
record_text kind body = kind_word kind ++ 32 ∷ decimal (length body) ++ 0 ∷ body

-- a number for each kind
abbrev pub kind_number : Kind → ℕ
kind_number Blob = 0
kind_number Tree = 1
kind_number Commit = 2
kind_number Tag = 3

-- a name for tests, which many objects share: 18 bytes 0x11, the kind's number, and the body's length modulo 256
unfoldable pub short_name : Kind → Bytes → Bytes
short_name kind body = replicate 18 17 ++ kind_number kind ∷ length body % 256 ∷ []

-- the name that 40 digits of either case give
unfoldable pub name_in : Bytes → Option Bytes
name_in text = if nat_eq (length text) 40 && list_all is_any_digit text then Some (unhex (map lower text)) else None

-- the name that 40 lower-case digits give
unfoldable pub lower_name_in : Bytes → Option Bytes
lower_name_in text = if is_name_text text then Some (unhex text) else None
