-- Texts of refs and objects, as git-for-each-ref(1) with `%(objectname) %(refname)` and git-cat-file(1) with `--batch` print them, in
-- any order. Source: these manuals; on texts that are refused this project's own.
use Rattle.std.specs.Prelude.{◌≡◌, ℕ, zero, suc, ◌+◌, Bool, true, false, not, ◌&&◌, nat_lt, if◌then◌else◌, List, [], ◌∷◌, ◌++◌, length, take, drop, codes, Option, None, Some, Result, Ok, Err, IsTrue}
use Rattle.std.specs.List.{AllByRecursion, flat_map}
use Rattle.std.specs.Option.{ok_or}
use Rattle.gx_model.specs.declared.objects.Kind.{Kind}
use Rattle.gx_model.specs.Texts.{Bytes, cut_at, same_bytes}
use Rattle.gx_model.specs.Texts.Digits.{is_name_text}
use Rattle.gx_model.specs.Texts.Numbers.{decimal_of, number_text}
use Rattle.gx_model.specs.Texts.RefNames.{is_ref_name}
use Rattle.gx_model.specs.Faults.{◌>>=◌}
use Rattle.gx_model.specs.Objects.{hex, is_name, line, unhex}
use Rattle.gx_model.specs.Objects.Naming.{kind_word}
use Rattle.gx_wide.specs.WideTexts.{kind_of_word}

-- an item: what a ref is to hold, or an object under the name that is told of it
pub data Item : Type 0 where
  ref_item : Bytes → Bytes → Item
  object_item : Kind → Bytes → Bytes → Item

-- an item as it is written
abbrev pub item_text : Item → Bytes
item_text (ref_item called ref) = line (hex called) ref
item_text (object_item of_kind called body) = line (hex called) (kind_word of_kind ++ 32 ∷ number_text (length body)) ++ body ++ 10 ∷ []

-- a ref name; `missing` is Git's word for an object that it lacks
abbrev pub is_ref_told : Bytes → Bool
is_ref_told ref = is_ref_name ref && not (same_bytes ref (codes "missing"))

-- the parts of an item have their forms
abbrev pub is_item : Item → Bool
is_item (ref_item called ref) = is_name called && is_ref_told ref
is_item (object_item of_kind called body) = is_name called

-- a text is that of these items
abbrev pub IsObjectsText : List Item → Bytes → Type 0
IsObjectsText items text = (text ≡ flat_map item_text items) × AllByRecursion (λ item. IsTrue (is_item item)) items

-- ---- why a text isn't read

pub data ItemFault : Type 0 where
  TruncatedData : ItemFault
  BadLine : ItemFault
  BadNumber : ItemFault
  Missing : ItemFault
  BadRefName : ItemFault
  NameMismatch : ItemFault

-- what is read of an item, or why not
abbrev pub Read : Type 0 → Type 0
Read A = Result A ItemFault

abbrev pub only_where : Bool → ItemFault → Read (Unit {0})
only_where true fault = Ok tt
only_where false fault = Err fault

-- the length that digits write, without zeros before it
abbrev pub length_in : Bytes → Read ℕ
length_in digits = ok_or (decimal_of digits) BadNumber >>= λ n. only_where (same_bytes digits (number_text n)) BadNumber >>= λ _. Ok n

-- a ref, by the rest of its line
abbrev pub ref_in : Bytes → Bytes → Read Item
ref_in digits ref =
    if same_bytes ref (codes "missing") then Err Missing
    else (if is_ref_name ref then Ok (ref_item (unhex digits) ref) else Err BadRefName)

-- so many bytes and an LF, and what follows them
abbrev pub body_in : ℕ → Bytes → Read (Bytes × Bytes)
body_in n text =
    if nat_lt n (length text) then (if same_bytes (take 1 (drop n text)) (10 ∷ []) then Ok (take n text, drop (n + 1) text) else Err BadLine) else Err TruncatedData

-- the first fault, with the number of its item
abbrev pub at_item : {A : Type 0} → ℕ → Read A → Result A (ℕ × ItemFault)
at_item number (Ok x) = Ok x
at_item number (Err fault) = Err (number, fault)

module _ (name : Kind → Bytes → Bytes) where
  -- an object whose kind and length are told, and what follows it; its name is the one that is told
  abbrev pub object_in : Bytes → Bytes → Bytes → Bytes → Read (Item × Bytes)
  object_in digits word size text =
      ok_or (kind_of_word word) BadLine >>= λ of_kind. length_in size >>= λ n. body_in n text
      >>= λ body. only_where (same_bytes (name of_kind body.0) (unhex digits)) NameMismatch
      >>= λ _. Ok (object_item of_kind (unhex digits) body.0, body.1)

  -- an item whose line is cut off: one more space is that of an object
  abbrev pub item_in : Bytes → Bytes → Option (Bytes × Bytes) → Bytes → Read (Item × Bytes)
  item_in digits rest None text = ref_in digits rest >>= λ item. Ok (item, text)
  item_in digits rest (Some parts) text = object_in digits parts.0 parts.1 text

  -- the item at the front, and what follows it
  unfoldable pub item_at : Bytes → Read (Item × Bytes)
  item_at text =
      ok_or (cut_at 10 text) TruncatedData >>= λ head. ok_or (cut_at 32 head.0) BadLine
      >>= λ parts. only_where (is_name_text parts.0) BadLine >>= λ _. item_in parts.0 parts.1 (cut_at 32 parts.1) head.1

  -- the items of a text, at most n, of which the first has a number
  unfoldable pub items_within : ℕ → ℕ → Bytes → Result (List Item) (ℕ × ItemFault)
  items_within n number [] = Ok []
  items_within zero number (b ∷ bs) = Ok []
  items_within (suc n) number (b ∷ bs) =
      at_item number (item_at (b ∷ bs)) >>= λ first. items_within n (number + 1) first.1 >>= λ others. Ok (first.0 ∷ others)

  -- the items of a text, or its first fault: no item is empty
  abbrev pub items_of : Bytes → Result (List Item) (ℕ × ItemFault)
  items_of text = items_within (length text) 1 text
