-- The reading of a store file's text of either version, from front to back: the records and the refs, or the first fault.
-- Source: this project's own format.
use Rattle.std.specs.Prelude.{ℕ, zero, suc, ◌+◌, Bool, true, false, ◌&&◌, nat_eq, nat_lt, if◌then◌else◌, List, [], ◌∷◌, ◌++◌, length, take, drop, codes, Option, None, Some, Result, Ok, Err}
use Rattle.std.specs.Option.{ok_or, option_and_then}
use Rattle.std.specs.List.{starts_with}
use Rattle.std.specs.Map.{lookup}
use Rattle.std.specs.Fmt.{decimal}
use Rattle.std.specs.declared.cmp.Ordering.{Ordering}
use Rattle.std.specs.declared.cmp.Ordering.TheVariants.{Less, Equal, Greater}
use Rattle.gx_model.specs.declared.objects.Kind.{Kind}
use Rattle.gx_model.specs.declared.objects.Kind.TheVariants as kind
use Rattle.gx_model.specs.declared.store_versions.Version.{Version}
use Rattle.gx_model.specs.declared.store_versions.Version.TheVariants.{One, Two}
use Rattle.gx_model.specs.declared.store_faults.FileFault.{FileFault}
use Rattle.gx_model.specs.declared.store_faults.FileFault.TheVariants as fault
use Rattle.gx_model.specs.Texts.{Bytes, byte_cmp, cut_at, same_bytes}
use Rattle.gx_model.specs.Texts.Numbers.{decimal_of}
use Rattle.gx_model.specs.Texts.RefNames.{is_ref_name, tag_ref}
use Rattle.gx_model.specs.Faults.{◌>>=◌}
use Rattle.gx_model.specs.Texts.Digits.{is_name_text}
use Rattle.gx_model.specs.Objects.{unhex}
use Rattle.gx_model.specs.Histories.{Record, Records, record_for}
use Rattle.gx_model.specs.Records.HistoryOf.{tag_parts_in}
use Rattle.gx_model.specs.Records.Growth.{record_named}
use Rattle.gx_model.specs.Records.RecordFaults.{record_fault}
use Rattle.gx_model.specs.Objects.Naming.{kind_word}
use Rattle.gx_model.specs.Stores.StoreText.{version_text}

-- what is read of a store text, or the first fault
abbrev pub Stored : Type 0 → Type 0
Stored A = Result A FileFault

-- nothing where a test holds, and otherwise this fault
abbrev pub only_if : Bool → FileFault → Stored (Unit {0})
only_if holds f = if holds then Ok tt else Err f

-- ---- lines

-- the first line, without its LF, and what follows it
abbrev pub stored_line : Bytes → Stored (Bytes × Bytes)
stored_line text = ok_or (cut_at 10 text) fault.Truncated

-- a number as it is written: without leading zeros
abbrev pub if_written_so : Bytes → ℕ → Option ℕ
if_written_so x n = if same_bytes (decimal n) x then Some n else None

-- a number without leading zeros
abbrev pub stored_number : Bytes → Option ℕ
stored_number x = option_and_then (if_written_so x) (decimal_of x)

-- what follows a word and a space
abbrev pub after_word : Bytes → Bytes → Option Bytes
after_word word l = if starts_with nat_eq l (word ++ 32 ∷ []) then Some (drop (length word + 1) l) else None

-- the number in a line that begins with this word, and what follows the line
abbrev pub stored_count : Bytes → Bytes → Stored (ℕ × Bytes)
stored_count word text = do
  l ← stored_line text
  n ← ok_or (option_and_then stored_number (after_word word l.0)) fault.BadRecord
  Ok (n, l.1)

-- the version that a first line says
abbrev pub version_of : Bytes → Option Version
version_of x = if same_bytes x (version_text One) then Some One else (if same_bytes x (version_text Two) then Some Two else None)

-- the version, and what follows the first line
abbrev pub after_magic : Bytes → Stored (Version × Bytes)
after_magic text = do
  l ← stored_line text
  word ← ok_or (after_word (codes "gxstore") l.0) fault.BadMagic
  version ← ok_or (version_of word) fault.BadVersion
  Ok (version, l.1)

-- ---- records

-- the kinds by their words
abbrev pub kind_words : List (Bytes × Kind)
kind_words = (kind_word kind.Blob, kind.Blob) ∷ (kind_word kind.Tree, kind.Tree) ∷ (kind_word kind.Commit, kind.Commit) ∷ (kind_word kind.Tag, kind.Tag) ∷ []

-- the length of a body, and the name that stands behind it where one does
abbrev pub Length : Type 0
Length = ℕ × Option Bytes

-- a length with the name of these digits
abbrev pub with_digits : Bytes → ℕ → Option Length
with_digits digits n = if is_name_text digits then Some (n, Some (unhex digits)) else None

-- a length alone in version 1; in version 2 with the digits of a name behind it
abbrev pub length_field : Version → Bytes → Option Length
length_field One x = option_and_then (λ n. Some (n, None)) (stored_number x)
length_field Two x = option_and_then (λ p. option_and_then (with_digits p.1) (stored_number p.0)) (cut_at 32 x)

-- a kind with the length of its body
abbrev pub with_length : Version → Bytes → Kind → Option (Kind × Length)
with_length v x k = option_and_then (λ n. Some (k, n)) (length_field v x)

-- a kind and a length
abbrev pub record_line : Version → Bytes → Option (Kind × Length)
record_line v l = option_and_then (λ p. option_and_then (with_length v p.1) (lookup (same_bytes p.0) kind_words)) (cut_at 32 l)

-- so many bytes and an LF, and what follows them
abbrev pub stored_body : ℕ → Bytes → Stored (Bytes × Bytes)
stored_body n text = do
  whole ← only_if (nat_lt n (length text)) fault.Truncated
  ended ← only_if (starts_with nat_eq (drop n text) (10 ∷ [])) fault.BadRecord
  Ok (take n text, drop (n + 1) text)

-- whether a stated name is this one, where one is stated
abbrev pub is_stated : Option Bytes → Bytes → Bool
is_stated None name = true
is_stated (Some stated) name = same_bytes stated name

-- a record that the repository takes
abbrev pub admitted : List Record → Record → Option FileFault → Stored (List Record)
admitted rs r None = Ok (rs ++ r ∷ [])
admitted rs r (Some f) = Err f

-- the records with one more, which has the name that is stated and which the repository takes
abbrev pub with_stored : (Kind → Bytes → Bytes) → List Record → Option Bytes → Kind → Bytes → Stored (List Record)
with_stored name rs stated k body = do
  named ← only_if (is_stated stated (name k body)) fault.NameMismatch
  admitted rs (record_for name k body) (record_fault rs (record_for name k body))

module _ (name : Kind → Bytes → Bytes) (v : Version) where
  -- the records with one more, and what follows it
  abbrev pub next_record : List Record → Bytes → Stored (List Record × Bytes)
  next_record rs text = do
    l ← stored_line text
    k ← ok_or (record_line v l.0) fault.BadRecord
    body ← stored_body k.1.0 l.1
    more ← with_stored name rs k.1.1 k.0 body.0
    Ok (more, body.1)

  -- the records that come next
  abbrev pub next_records : ℕ → List Record → Bytes → Stored (List Record × Bytes)
  next_records zero rs text = Ok (rs, text)
  next_records (suc n) rs text = next_record rs text >>= λ x. next_records n x.0 x.1

-- ---- refs

-- digits in lower case, a space, and a ref name
abbrev pub if_ref : Bytes × Bytes → Option (Bytes × Bytes)
if_ref p = if is_name_text p.0 && is_ref_name p.1 then Some (p.1, unhex p.0) else None

-- the line of a ref
abbrev pub ref_line : Bytes → Option (Bytes × Bytes)
ref_line l = option_and_then if_ref (cut_at 32 l)

-- a commit, or a tag whose own name makes this ref
abbrev pub is_target_of_kind : Bytes → Kind → Bytes → Bool
is_target_of_kind ref kind.Commit body = true
is_target_of_kind ref kind.Tag body = same_bytes ref (tag_ref (tag_parts_in body).name)
is_target_of_kind ref _ body = false

-- whether a ref may hold this
abbrev pub is_target : Bytes → Option Record → Bool
is_target ref None = false
is_target ref (Some r) = is_target_of_kind ref r.kind r.body

-- whether a ref name stands before another
abbrev pub is_less : Ordering → Bool
is_less Less = true
is_less Equal = false
is_less Greater = false

-- greater than the ref before, if there is one
abbrev pub is_after : Option Bytes → Bytes → Bool
is_after None ref = true
is_after (Some last) ref = is_less (byte_cmp last ref)

-- the ref that comes next
abbrev pub next_ref : List Record → Option Bytes → Bytes → Stored ((Bytes × Bytes) × Bytes)
next_ref rs last text = do
  l ← stored_line text
  x ← ok_or (ref_line l.0) fault.BadRef
  held ← only_if (is_target x.0 (record_named rs x.1)) fault.BadRef
  ordered ← only_if (is_after last x.0) fault.RefOrder
  Ok (x, l.1)

-- the refs that come next
abbrev pub next_refs : ℕ → List Record → Option Bytes → Bytes → Stored (List (Bytes × Bytes) × Bytes)
next_refs zero rs last text = Ok ([], text)
next_refs (suc n) rs last text = next_ref rs last text >>= λ x. next_refs n rs (Some x.0.0) x.1 >>= λ xs. Ok (x.0 ∷ xs.0, xs.1)

-- ---- the whole

-- the end of a store text
abbrev pub stored_end : Bytes → Stored (Unit {0})
stored_end text = do
  l ← stored_line text
  word ← only_if (same_bytes l.0 (codes "end")) fault.BadRecord
  only_if (nat_eq (length l.1) 0) fault.TrailingBytes

-- the records and refs of a store text, or the first fault
unfoldable pub store_of : (Kind → Bytes → Bytes) → Bytes → Stored Records
store_of name text = do
  start ← after_magic text
  objects ← stored_count (codes "objects") start.1
  records ← next_records name start.0 objects.0 [] objects.1
  refs ← stored_count (codes "refs") records.1
  named ← next_refs refs.0 records.0 None refs.1
  ended ← stored_end named.1
  Ok (record { records = records.0; refs = named.0 })
