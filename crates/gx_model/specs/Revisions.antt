-- Revisions and range words as texts. Source: gitrevisions(7).
pub mod Denotation
pub mod Ranges
use Rattle.std.specs.Prelude.{ℕ, ◌-◌, ◌==◌, ◌&&◌, ◌||◌, codes, nat_eq, List, [], ◌∷◌, length, take, drop, Option, Some, None, Ok, Err, if◌then◌else◌}
use Rattle.std.specs.Option.{ok_or, option_map}
use Rattle.std.specs.List.{starts_with, ends_with, suffix_len}
use Rattle.std.specs.Char.{is_ascii_digit}
use Rattle.std.specs.Map.{lookup}
use Rattle.gx_model.specs.Texts.{Bytes, cut_at, same_bytes}
use Rattle.gx_model.specs.Texts.Numbers.{decimal_of}
use Rattle.gx_model.specs.Texts.RefNames.{is_ref_name}
use Rattle.gx_model.specs.Texts.Paths.{Path, path_of}
use Rattle.gx_model.specs.Faults.{Given, ◌>>=◌}
use Rattle.gx_model.specs.declared.faults.Fault.TheVariants.{BadRevision}

-- ---- what the texts say

-- a suffix of a revision
pub data Suffix : Type 0 where
  -- ^n and ~n
  parent : ℕ → Suffix
  ancestor : ℕ → Suffix
  -- ^{} and ^{object}, and ^{..} with a kind
  peeled : Suffix
  itself : Suffix
  as_commit : Suffix
  as_blob : Suffix
  as_tree : Suffix
  as_tag : Suffix

-- a revision: what its base, its suffixes and its path say
pub record Revision : Type 0 where
  pub base : Bytes
  pub suffixes : List Suffix
  pub path : Option Path

-- a range word, with revisions for its commits
pub data RangeWord : Type 0 where
  -- r and ^r
  WithAncestors : Revision → RangeWord
  WithoutAncestors : Revision → RangeWord
  -- a..b and a...b
  Between : Revision → Revision → RangeWord
  Apart : Revision → Revision → RangeWord
  -- r^@, r^! and r^-n
  AllParents : Revision → RangeWord
  Alone : Revision → RangeWord
  WithoutOne : Revision → ℕ → RangeWord

-- ---- revisions: a base, suffixes that begin with `^` or `~`, and a path behind a `:`

-- the ref HEAD
abbrev pub head : Bytes
head = codes "HEAD"

-- `@` is HEAD
abbrev pub base_of : Bytes → Given Bytes
base_of x = if same_bytes x (codes "@") then Ok head else (if is_ref_name x then Ok x else Err BadRevision)

-- a number in decimal, and 1 where it is left out
abbrev pub number_or_one : Bytes → Given ℕ
number_or_one [] = Ok 1
number_or_one (d ∷ ds) = ok_or (decimal_of (d ∷ ds)) BadRevision

-- the suffixes in braces, by what stands behind the `^`
abbrev pub braced_suffixes : List (Bytes × Suffix)
braced_suffixes =
    (codes "{}", peeled) ∷ (codes "{object}", itself) ∷ (codes "{commit}", as_commit) ∷ (codes "{blob}", as_blob) ∷ (codes "{tree}", as_tree)
    ∷ (codes "{tag}", as_tag) ∷ []

-- after a `^`: one of those in braces, or the number of a parent
abbrev pub braced_or_parent : Option Suffix → Bytes → Given Suffix
braced_or_parent (Some s) x = Ok s
braced_or_parent None x = number_or_one x >>= λ n. Ok (parent n)

-- the suffix that a text gives, its `^` or `~` included
abbrev pub suffix_of : Bytes → Given Suffix
suffix_of [] = Err BadRevision
suffix_of (b ∷ x) =
    if b == 94 then braced_or_parent (lookup (same_bytes x) braced_suffixes) x
    else number_or_one x >>= λ n. Ok (ancestor n)

-- the suffixes of some texts, or the first fault
abbrev pub suffixes_of : List Bytes → Given (List Suffix)
suffixes_of [] = Ok []
suffixes_of (x ∷ xs) = suffix_of x >>= λ s. suffixes_of xs >>= λ ss. Ok (s ∷ ss)

-- a byte that begins a suffix, before what was cut
abbrev pub starts_suffix : ℕ → Bytes × List Bytes → Bytes × List Bytes
starts_suffix b x = ([], (b ∷ x.0) ∷ x.1)

-- a byte of the base or of a suffix, before what was cut
abbrev pub goes_on : ℕ → Bytes × List Bytes → Bytes × List Bytes
goes_on b x = (b ∷ x.0, x.1)

-- what stands before the first `^` or `~`, and what begins with each of these, up to the next
abbrev pub base_and_suffixes : Bytes → Bytes × List Bytes
base_and_suffixes [] = ([], [])
base_and_suffixes (b ∷ bs) = (if b == 94 || b == 126 then starts_suffix b else goes_on b) (base_and_suffixes bs)

-- all before the first `:`, and the text of a path behind it
abbrev pub with_path : Bytes → Option (Bytes × Bytes) → Bytes × Option Bytes
with_path x None = (x, None)
with_path x (Some p) = (p.0, Some p.1)

-- the path behind the `:`, where there is one
abbrev pub optional_path : Option Bytes → Given (Option Path)
optional_path None = Ok None
optional_path (Some x) = path_of x >>= λ p. Ok (Some p)

-- the revision of its parts, read from left to right
abbrev pub revision_in : Bytes × List Bytes → Option Bytes → Given Revision
revision_in x path = do
  base ← base_of x.0
  suffixes ← suffixes_of x.1
  path ← optional_path path
  Ok (record { base = base; suffixes = suffixes; path = path })

-- the revision of what stands before and behind the `:`
abbrev pub revision_by : Bytes × Option Bytes → Given Revision
revision_by x = revision_in (base_and_suffixes x.0) x.1

-- the revision that a text gives
unfoldable pub revision_of : Bytes → Given Revision
revision_of x = revision_by (with_path x (cut_at 58 x))

-- ---- range words

-- what stands before the first `..`, and what follows it
abbrev pub cut_dots : Bytes → Option (Bytes × Bytes)
cut_dots [] = None
cut_dots (b ∷ bs) =
    if starts_with nat_eq (b ∷ bs) (codes "..") then Some ([], drop 2 (b ∷ bs)) else option_map (λ p. (b ∷ p.0, p.1)) (cut_dots bs)

-- a side that is left out is HEAD
abbrev pub side_of : Bytes → Given Revision
side_of [] = revision_of head
side_of (b ∷ bs) = revision_of (b ∷ bs)

-- two sides, of which one may be left out
abbrev pub pair_of : (Revision → Revision → RangeWord) → Bytes → Bytes → Given RangeWord
pair_of word left right =
    if length left == 0 && length right == 0 then Err BadRevision
    else side_of left >>= λ a. side_of right >>= λ b. Ok (word a b)

-- what stands at both sides of two dots, or of three
abbrev pub dotted : Bytes → Bytes → Given RangeWord
dotted left right = if starts_with nat_eq right (codes ".") then pair_of Apart left (drop 1 right) else pair_of Between left right

-- all but the last n bytes
abbrev pub without_last : ℕ → Bytes → Bytes
without_last n x = take (length x - n) x

-- the number of digits at the end
abbrev pub digits_last : Bytes → ℕ
digits_last = suffix_len is_ascii_digit

-- what stands before a `^-` and digits at the end, and these digits
abbrev pub minus_of : Bytes → Option (Bytes × Bytes)
minus_of x =
    let body : Bytes = without_last (digits_last x) x in
    if ends_with nat_eq body (codes "^-") then Some (without_last 2 body, drop (length body) x) else None

-- the word r^-n, for n from 1
abbrev pub without_parent : Revision → ℕ → Given RangeWord
without_parent r n = if n == 0 then Err BadRevision else Ok (WithoutOne r n)

-- the word r^-n where it has that shape, and otherwise a revision
abbrev pub minus_or_alone : Bytes → Option (Bytes × Bytes) → Given RangeWord
minus_or_alone x (Some p) = revision_of p.0 >>= λ r. number_or_one p.1 >>= λ n. without_parent r n
minus_or_alone x None = revision_of x >>= λ r. Ok (WithAncestors r)

-- the first of these whose shape it has: ^r, r^@, r^!, r^-n, r
abbrev pub undotted : Bytes → Given RangeWord
undotted x =
    if starts_with nat_eq x (codes "^") then (revision_of (drop 1 x) >>= λ r. Ok (WithoutAncestors r))
    else (if ends_with nat_eq x (codes "^@") then (revision_of (without_last 2 x) >>= λ r. Ok (AllParents r))
    else (if ends_with nat_eq x (codes "^!") then (revision_of (without_last 2 x) >>= λ r. Ok (Alone r))
    else minus_or_alone x (minus_of x)))

-- a pair where there are two dots, and otherwise one of the other words
abbrev pub range_by : Bytes → Option (Bytes × Bytes) → Given RangeWord
range_by x (Some p) = dotted p.0 p.1
range_by x None = undotted x

-- the range word that a text gives
unfoldable pub range_of : Bytes → Given RangeWord
range_of x = range_by x (cut_dots x)
