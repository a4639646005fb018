-- Worked rows on commits and tags with further headers, on texts of objects, and on what these give.
-- Source: gitformat-signature(5), git-cat-file(1), git-for-each-ref(1).
use Rattle.std.specs.Prelude.{◌≡◌, ℕ, true, false, Bool, List, [], ◌∷◌, ◌++◌, length, replicate, codes, refl, Option, None, Some, Result, Ok, Err}
use Rattle.gx_model.specs.declared.objects.Kind.{Kind}
use Rattle.gx_model.specs.declared.objects.Kind.TheVariants as kind
use Rattle.gx_model.specs.Texts.{Bytes, cut_at}
use Rattle.gx_model.specs.Texts.Headers.{encoding_in}
use Rattle.gx_model.specs.Texts.Idents.{is_ident}
use Rattle.gx_model.specs.Texts.Numbers.{number_text}
use Rattle.gx_model.specs.Streams.Spelling.{text_of_lines}
use Rattle.gx_model.specs.Objects.{hex, tree_text}
use Rattle.gx_model.specs.Histories.{Record, Records}
use Rattle.gx_model.specs.Rows.RowTexts.{last_byte_name}
use Rattle.gx_wide.specs.WideTexts.{WideTagParts, WideText, is_wide_commit_body, is_wide_tag_body, wide_commit_parts_in, wide_tag_parts_in}
use Rattle.gx_wide.specs.WideSound.{peeled}
use Rattle.gx_wide.specs.ObjectsTexts.{Item, ItemFault, BadLine, BadNumber, BadRefName, Missing, NameMismatch, TruncatedData, item_at, items_of, items_within}
use Rattle.gx_wide.specs.Placing.{BadObject, Dangling, NotFastForward, TakeFault, WrongKind, placed_within, taken}

-- ---- bodies

abbrev zeros : Bytes
zeros = replicate 40 48

abbrev root : Bytes
root = codes "tree " ++ zeros

abbrev author : Bytes
author = codes "author A <a@x> 1 +0000"

abbrev committer : Bytes
committer = codes "committer nobody"

-- a commit with these lines behind those of its committer
abbrev commit_of : List Bytes → Bytes
commit_of lines = text_of_lines (root ∷ author ∷ committer ∷ lines)

-- its headers, the encoding that they tell, and its message
abbrev Told : Type 0
Told = Bytes × Option Bytes × Option Bytes

abbrev told_by : WideText → Told
told_by text = (text.headers, encoding_in text.headers, text.message)

abbrev told : Bytes → Told
told body = told_by (wide_commit_parts_in body).text

abbrev signature : List Bytes
signature = codes "gpgsig -----BEGIN" ∷ codes " " ∷ codes " -----END" ∷ []

abbrev signed : Bytes
signed = commit_of (signature ++ [] ∷ codes "m" ∷ [])

pub record CommitRows : Type 0 where
  pub signature_is_kept : told signed ≡ (text_of_lines signature, None, Some (codes "m" ++ 10 ∷ []))
  pub signed_is_one : is_wide_commit_body signed ≡ true
  pub no_message : told (commit_of []) ≡ ([], None, None)
  pub no_message_is_one : is_wide_commit_body (commit_of []) ≡ true
  pub empty_message : told (commit_of ([] ∷ [])) ≡ ([], None, Some [])
  pub encoding_first : told (commit_of (codes "encoding x" ∷ codes "HG:extra y" ∷ [] ∷ [])) ≡ (codes "encoding x" ++ 10 ∷ codes "HG:extra y" ++ 10 ∷ [], Some (codes "x"), Some [])
  -- an encoding that Git doesn't read: behind another header, or empty
  pub encoding_behind : told (commit_of (codes "HG:extra y" ∷ codes "encoding x" ∷ [] ∷ [])) ≡ (codes "HG:extra y" ++ 10 ∷ codes "encoding x" ++ 10 ∷ [], None, Some [])
  pub encoding_behind_is_one : is_wide_commit_body (commit_of (codes "HG:extra y" ∷ codes "encoding x" ∷ [] ∷ [])) ≡ true
  pub empty_encoding : told (commit_of (codes "encoding " ∷ [])) ≡ (codes "encoding " ++ 10 ∷ [], None, None)
  pub empty_encoding_is_one : is_wide_commit_body (commit_of (codes "encoding " ∷ [])) ≡ true
  -- the last header has no end; there is no author; a tree in upper case
  pub no_end : is_wide_commit_body (commit_of [] ++ codes "gpgsig x") ≡ false
  pub no_author : is_wide_commit_body (text_of_lines (root ∷ committer ∷ [] ∷ [])) ≡ false
  pub upper_case : is_wide_commit_body (text_of_lines ((codes "tree " ++ replicate 40 65) ∷ author ∷ committer ∷ [])) ≡ false

pub commit_rows : CommitRows
unfolding cut_at is_ident
commit_rows = record {
  signature_is_kept = refl;
  signed_is_one = refl;
  no_message = refl;
  no_message_is_one = refl;
  empty_message = refl;
  encoding_first = refl;
  encoding_behind = refl;
  encoding_behind_is_one = refl;
  empty_encoding = refl;
  empty_encoding_is_one = refl;
  no_end = refl;
  no_author = refl;
  upper_case = refl;
}

-- ---- tags

abbrev tag_of : Bytes → List Bytes → Bytes
tag_of word lines = text_of_lines ((codes "object " ++ zeros) ∷ (codes "type " ++ word) ∷ codes "tag v1" ∷ lines)

-- what it tags, its tagger, its further headers and its message
abbrev tag_told : Bytes → Kind × Option Bytes × Bytes × Option Bytes
tag_told body = let parts : WideTagParts = wide_tag_parts_in body in (parts.of_kind, parts.tagger, parts.further, parts.message)

pub record TagRows : Type 0 where
  pub of_tree : tag_told (tag_of (codes "tree") ([] ∷ codes "m" ∷ [])) ≡ (kind.Tree, None, [], Some (codes "m" ++ 10 ∷ []))
  pub of_tree_is_one : is_wide_tag_body (tag_of (codes "tree") ([] ∷ codes "m" ∷ [])) ≡ true
  pub of_tag : is_wide_tag_body (tag_of (codes "tag") (codes "tagger nobody" ∷ [] ∷ [])) ≡ true
  pub no_message : tag_told (tag_of (codes "blob") (codes "tagger nobody" ∷ [])) ≡ (kind.Blob, Some (codes "nobody"), [], None)
  pub further : tag_told (tag_of (codes "commit") (codes "gpgsig x" ∷ codes "tagger y" ∷ [] ∷ [])) ≡ (kind.Commit, None, codes "gpgsig x" ++ 10 ∷ codes "tagger y" ++ 10 ∷ [], Some [])
  pub empty_tagger : tag_told (tag_of (codes "commit") (codes "tagger " ∷ [])) ≡ (kind.Commit, Some [], [], None)
  pub of_nothing : is_wide_tag_body (tag_of (codes "trees") ([] ∷ [])) ≡ false
  pub no_end : is_wide_tag_body (tag_of (codes "tag") [] ++ codes "x") ≡ false

pub tag_rows : TagRows
unfolding cut_at
tag_rows = record { of_tree = refl; of_tree_is_one = refl; of_tag = refl; no_message = refl; further = refl; empty_tagger = refl; of_nothing = refl; no_end = refl }

-- ---- texts of objects

abbrev name : Kind → Bytes → Bytes
name = last_byte_name

abbrev record_for : Kind → Bytes → Record
record_for of_kind body = record { name = name of_kind body; kind = of_kind; body = body }

abbrev digits : Kind → Bytes → Bytes
digits of_kind body = hex (name of_kind body)

abbrev no_files : Bytes
no_files = tree_text []

-- a commit of no files with these lines behind that of the tree
abbrev commit_with : List Bytes → Bytes
commit_with lines = text_of_lines ((codes "tree " ++ digits kind.Tree no_files) ∷ lines ++ author ∷ committer ∷ [])

abbrev first : Bytes
first = commit_with []

abbrev second : Bytes
second = commit_with ((codes "parent " ++ digits kind.Commit first) ∷ [])

abbrev tag_of_tree : Bytes
tag_of_tree = text_of_lines ((codes "object " ++ digits kind.Tree no_files) ∷ codes "type tree" ∷ codes "tag t" ∷ [])

-- how an object is printed
abbrev printed : Bytes → Kind → Bytes → Bytes
printed word of_kind body = (digits of_kind body ++ 32 ∷ word ++ 32 ∷ number_text (length body) ++ 10 ∷ []) ++ body ++ 10 ∷ []

abbrev ref_line : Bytes → Bytes → Bytes
ref_line called ref = called ++ 32 ∷ ref ++ 10 ∷ []

-- the newest comes first, and what it names behind it
abbrev offered : Bytes
offered =
    ref_line (digits kind.Commit second) (codes "refs/heads/main") ++ ref_line (digits kind.Tag tag_of_tree) (codes "refs/tags/t")
    ++ printed (codes "commit") kind.Commit second ++ printed (codes "tag") kind.Tag tag_of_tree ++ printed (codes "commit") kind.Commit first ++ printed (codes "tree") kind.Tree no_files

abbrev empty : Records
empty = record { records = []; refs = [] }

abbrev main_of : Bytes → Records
main_of body = record {
  records = record_for kind.Tree no_files ∷ record_for kind.Commit first ∷ record_for kind.Commit second ∷ [];
  refs = (codes "refs/heads/main", name kind.Commit body) ∷ [];
}

-- what the items of a text give
abbrev taken_of : Bool → Records → Result (List Item) (ℕ × ItemFault) → Option (Result Records TakeFault)
taken_of force repository (Ok items) = Some (taken force repository items)
taken_of force repository (Err fault) = None

abbrev taken_text : Bool → Records → Bytes → Option (Result Records TakeFault)
taken_text force repository text = taken_of force repository (items_of name text)

-- why a text isn't read
abbrev fault_of : Result (List Item) (ℕ × ItemFault) → Option (ℕ × ItemFault)
fault_of (Ok items) = None
fault_of (Err fault) = Some fault

abbrev fault_in : Bytes → Option (ℕ × ItemFault)
fault_in text = fault_of (items_of name text)

abbrev blob : Bytes
blob = printed (codes "blob") kind.Blob (codes "x")

pub record OfferRows : Type 0 where
  pub placed : taken_text false empty offered
      ≡ Some (Ok (record {
        records = record_for kind.Tree no_files ∷ record_for kind.Commit first ∷ record_for kind.Commit second ∷ record_for kind.Tag tag_of_tree ∷ [];
        refs = (codes "refs/heads/main", name kind.Commit second) ∷ (codes "refs/tags/t", name kind.Tag tag_of_tree) ∷ [];
      }))
  -- what is held is not added again, a ref goes forward, and a ref is dropped
  pub held : taken_text false (main_of first) (ref_line (digits kind.Commit second) (codes "refs/heads/main") ++ printed (codes "commit") kind.Commit second) ≡ Some (Ok (main_of second))
  pub dropped : taken_text false (main_of first) (ref_line zeros (codes "refs/heads/main")) ≡ Some (Ok (record { records = (main_of first).records; refs = [] }))
  pub back : taken_text false (main_of second) (ref_line (digits kind.Commit first) (codes "refs/heads/main"))
      ≡ Some (Err (NotFastForward (codes "refs/heads/main") (name kind.Commit second) (name kind.Commit first)))
  pub forced : taken_text true (main_of second) (ref_line (digits kind.Commit first) (codes "refs/heads/main")) ≡ Some (Ok (main_of first))
  pub no_parent : taken_text false empty (printed (codes "commit") kind.Commit second ++ printed (codes "tree") kind.Tree no_files)
      ≡ Some (Err (Dangling (name kind.Commit second) (name kind.Commit first)))
  pub no_object : taken_text false empty (ref_line zeros (codes "refs/tags/x") ++ ref_line (digits kind.Blob []) (codes "refs/tags/x")) ≡ Some (Err (Dangling (codes "refs/tags/x") (name kind.Blob [])))
  pub branch_of_blob : taken_text false empty (ref_line (digits kind.Blob (codes "x")) (codes "refs/heads/x") ++ blob) ≡ Some (Err (WrongKind (codes "refs/heads/x")))
  pub no_tree : taken_text false empty (printed (codes "tree") kind.Tree (codes "x")) ≡ Some (Err (BadObject (name kind.Tree (codes "x"))))
  pub peeled_to_tree : peeled (record_for kind.Tree no_files ∷ record_for kind.Tag tag_of_tree ∷ []) (name kind.Tag tag_of_tree) ≡ name kind.Tree no_files
  -- a text that is cut off, one behind an item, and others that aren't read
  pub cut_in_line : fault_in (blob ++ codes "1234") ≡ Some (2, TruncatedData)
  pub cut_in_body : fault_in (digits kind.Blob (codes "x") ++ codes " blob 2" ++ 10 ∷ codes "x") ≡ Some (1, TruncatedData)
  pub longer : fault_in (digits kind.Blob (codes "x") ++ codes " blob 1" ++ 10 ∷ codes "xy") ≡ Some (1, BadLine)
  pub other_kind : fault_in (digits kind.Blob (codes "x") ++ codes " blub 1" ++ 10 ∷ codes "x" ++ 10 ∷ []) ≡ Some (1, BadLine)
  pub leading_zero : fault_in (digits kind.Blob (codes "x") ++ codes " blob 01" ++ 10 ∷ codes "x" ++ 10 ∷ []) ≡ Some (1, BadNumber)
  pub lacking : fault_in (ref_line zeros (codes "missing")) ≡ Some (1, Missing)
  pub no_ref : fault_in (ref_line zeros (codes "a..b")) ≡ Some (1, BadRefName)
  pub other_name : fault_in (ref_line zeros (codes "refs/tags/x") ++ zeros ++ codes " blob 1" ++ 10 ∷ codes "x" ++ 10 ∷ []) ≡ Some (2, NameMismatch)

pub offer_rows : OfferRows
unfolding cut_at item_at items_within placed_within taken number_text
offer_rows = record {
  placed = refl;
  held = refl;
  dropped = refl;
  back = refl;
  forced = refl;
  no_parent = refl;
  no_object = refl;
  branch_of_blob = refl;
  no_tree = refl;
  peeled_to_tree = refl;
  cut_in_line = refl;
  cut_in_body = refl;
  longer = refl;
  other_kind = refl;
  leading_zero = refl;
  lacking = refl;
  no_ref = refl;
  other_name = refl;
}
