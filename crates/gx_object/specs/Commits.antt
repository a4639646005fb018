-- The body of a commit, read from the left.
use Rattle.std.specs.Prelude.{◌≡◌, ℕ, zero, suc, Bool, not, ◌&&◌, nat_eq, if◌then◌else◌, List, [], ◌∷◌, map, length, slice_get, codes, Option, None, Some, IsTrue}
use Rattle.std.specs.List.{flat_map, list_all}
use Rattle.std.specs.Option.{option_map}
use Rattle.gx_model.specs.Texts.{Bytes}
use Rattle.gx_model.specs.Objects.{CommitParts, hex, is_name, line}
use Rattle.gx_wide.specs.WideTexts.{tail_of}
use Rattle.gx_object.specs.Lines.{◌>>=◌, field, ident_field, name_field}
use Rattle.gx_object.specs.declared.name.Name.{Name}

-- the lines of the parents
abbrev pub parent_lines : List Bytes → Bytes
parent_lines names = flat_map (λ n. line (codes "parent") (hex n)) names

-- the bytes of names
abbrev pub bytes_of_names : List Name → List Bytes
bytes_of_names names = map (λ name. name.bytes) names

-- where these are lines of parents, the name in the line at this place is found, or none where there is no such line
abbrev pub FindsParent : Bytes → ℕ → Option Name → Type 0
FindsParent lines place found = (names : List Bytes) → IsTrue (list_all is_name names) → lines ≡ parent_lines names → option_map (λ name. name.bytes) found ≡ slice_get names place

abbrev pub with_first : Bytes → List Bytes × Bytes → List Bytes × Bytes
with_first name rest = (name ∷ rest.0, rest.1)

-- the names of at most n lines at the front, and what follows them
unfoldable pub parents_within : ℕ → Bytes → List Bytes × Bytes
parents_within zero bytes = ([], bytes)
parents_within (suc n) bytes = elim (name_field (codes "parent") bytes) [
  | None ↦ ([], bytes)
  | Some a ↦ with_first a.0 (parents_within n a.1)
]

-- a line isn't empty, so there are no more lines than bytes
abbrev pub parents_of : Bytes → List Bytes × Bytes
parents_of bytes = parents_within (length bytes) bytes

-- lines of parents, and nothing else
pub record AreParents (bytes : Bytes) : Type 0 where
  pub lines : bytes ≡ parent_lines (parents_of bytes).0
  pub names : IsTrue (list_all is_name (parents_of bytes).0)

-- the encoding that a line at the front has, which isn't empty
unfoldable pub encoding_field : Bytes → Option Bytes
encoding_field headers = do
  a ← field (codes "encoding") headers
  if nat_eq (length a.0) 0 then None else Some a.0

-- whether a line that isn't empty is all that is read at the front of headers, or there are none
abbrev pub is_line_alone : Option (Bytes × Bytes) → Bytes → Bool
is_line_alone None headers = nat_eq (length headers) 0
is_line_alone (Some a) headers = not (nat_eq (length a.0) 0) && nat_eq (length a.1) 0

unfoldable pub commit_parts_of : Bytes → Option CommitParts
commit_parts_of body = do
  tree ← name_field (codes "tree") body
  author ← ident_field (codes "author") (parents_of tree.1).1
  committer ← ident_field (codes "committer") author.1
  tail ← tail_of committer.1
  message ← tail.1
  Some (record {
    tree = tree.0;
    parents = (parents_of tree.1).0;
    text = record { author = author.0; committer = committer.0; headers = tail.0; message = message };
  })
