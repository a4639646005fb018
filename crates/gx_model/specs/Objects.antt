-- Objects as texts: digits of names, modes, tree entries, and the bodies of trees, commits and tags. Source: Pro Git, "Git Objects".
pub mod NameMaps
pub mod Naming
use Rattle.std.specs.Prelude.{◌≡◌, ℕ, ◌+◌, ◌*◌, ◌-◌, ◌/◌, ◌%◌, Bool, true, false, not, ◌&&◌, nat_lt, nat_eq, if◌then◌else◌, List, [], ◌∷◌, ◌++◌, map, length, IsTrue, Option, None, Some, codes}
use Rattle.std.specs.List.{flat_map, list_all, list_any}
use Rattle.std.specs.FinMap.Entries.{is_sorted}
use Rattle.gx_model.specs.declared.objects.Kind.{Kind}
use Rattle.gx_model.specs.declared.objects.Mode.{Mode}
use Rattle.gx_model.specs.declared.objects.Mode.TheVariants.{File, Exec, Link, Gitlink, Dir}
use Rattle.gx_model.specs.Texts.{Bytes, byte_cmp, same_bytes}
use Rattle.gx_model.specs.Texts.RefNames.{is_tag_name}
use Rattle.gx_model.specs.Texts.Paths.{is_component}
use Rattle.gx_model.specs.Histories.Values.{CommitText, is_optional_ident, is_proper_text}

-- ---- digits

-- the lower-case digit of a number below 16
abbrev pub hex_digit : ℕ → ℕ
hex_digit value = if nat_lt value 10 then 48 + value else 87 + value

-- two lower-case digits a byte
abbrev pub hex : Bytes → Bytes
hex = flat_map (λ byte. hex_digit (byte / 16) ∷ hex_digit (byte % 16) ∷ [])

-- the number of a lower-case digit
abbrev pub digit_value : ℕ → ℕ
digit_value digit = if nat_lt digit 58 then digit - 48 else digit - 87

-- the bytes of lower-case digits
abbrev pub unhex : Bytes → Bytes
unhex (a ∷ b ∷ s) = (16 * digit_value a + digit_value b) ∷ unhex s
unhex _ = []

-- ---- bodies

-- octal, without leading zeros
abbrev pub mode_text : Mode → Bytes
mode_text File = codes "100644"
mode_text Exec = codes "100755"
mode_text Link = codes "120000"
mode_text Gitlink = codes "160000"
mode_text Dir = codes "40000"

-- an entry of a tree: what a component names
pub record Entry : Type 0 where
  pub mode : Mode
  pub component : Bytes
  pub name : Bytes

-- an entry in the body of a tree
abbrev pub entry_text : Entry → Bytes
entry_text entry = mode_text entry.mode ++ (32 ∷ (entry.component ++ 0 ∷ entry.name))

-- the body of a tree
abbrev pub tree_text : List Entry → Bytes
tree_text = flat_map entry_text

-- a word, its rest and an LF
abbrev pub line : Bytes → Bytes → Bytes
line word rest = word ++ 32 ∷ rest ++ 10 ∷ []

-- a line that may be left out
abbrev pub optional_line : Bytes → Option Bytes → Bytes
optional_line word None = []
optional_line word (Some rest) = line word rest

-- the lines of a commit behind its parents, and its message behind an empty one
abbrev pub text_lines : CommitText → Bytes
text_lines text =
    line (codes "author") text.author ++ line (codes "committer") text.committer ++ text.headers
    ++ 10 ∷ text.message

-- the parts of a commit's body and of a tag's
pub record CommitParts : Type 0 where
  pub tree : Bytes
  pub parents : List Bytes
  pub text : CommitText

-- the parts of a tag object
pub record TagParts : Type 0 where
  pub object : Bytes
  pub name : Bytes
  pub tagger : Option Bytes
  pub message : Bytes

-- the body of a commit
abbrev pub commit_text : CommitParts → Bytes
commit_text parts = line (codes "tree") (hex parts.tree) ++ flat_map (λ name. line (codes "parent") (hex name)) parts.parents ++ text_lines parts.text

-- the body of a tag
abbrev pub tag_text : TagParts → Bytes
tag_text parts =
    line (codes "object") (hex parts.object) ++ line (codes "type") (codes "commit") ++ line (codes "tag") parts.name
    ++ optional_line (codes "tagger") parts.tagger ++ 10 ∷ parts.message

-- ---- which entries are those of a tree

-- the mode of a directory
abbrev pub is_dir : Mode → Bool
is_dir Dir = true
is_dir _ = false

-- the component, with a slash added to that of a tree
abbrev pub entry_key : Entry → Bytes
entry_key entry = if is_dir entry.mode then entry.component ++ 47 ∷ [] else entry.component

-- no two texts are equal
abbrev pub are_different : List Bytes → Bool
are_different [] = true
are_different (c ∷ cs) = not (list_any (same_bytes c) cs) && are_different cs

-- components, in Git's order, each once
abbrev pub is_canonical : List Entry → Bool
is_canonical entries =
    list_all (λ entry. is_component entry.component) entries && is_sorted byte_cmp (map (λ entry. (entry_key entry, entry.component)) entries)
    && are_different (map (λ entry. entry.component) entries)

-- 20 bytes
abbrev pub is_name : Bytes → Bool
is_name name = nat_eq (length name) 20 && list_all (λ byte. nat_lt byte 256) name

-- this is the canonical body of these parts
abbrev pub IsTreeText : List Entry → Bytes → Type 0
IsTreeText entries body = (body ≡ tree_text entries) × IsTrue (is_canonical entries) × IsTrue (list_all (λ entry. is_name entry.name) entries)

-- this is the canonical body of a commit with these parts
abbrev pub IsCommitText : CommitParts → Bytes → Type 0
IsCommitText parts body = (body ≡ commit_text parts) × IsTrue (is_name parts.tree) × IsTrue (list_all is_name parts.parents) × IsTrue (is_proper_text parts.text)

-- this is the canonical body of a tag with these parts
abbrev pub IsTagText : TagParts → Bytes → Type 0
IsTagText parts body = (body ≡ tag_text parts) × IsTrue (is_name parts.object) × IsTrue (is_tag_name parts.name) × IsTrue (is_optional_ident parts.tagger)

-- what a namer gives: 20 bytes
pub record IsNamer (name : Kind → Bytes → Bytes) : Type 0 where
  pub long : (kind : Kind) (body : Bytes) → length (name kind body) ≡ 20
  pub bytes : (kind : Kind) (body : Bytes) → IsTrue (list_all (λ byte. nat_lt byte 256) (name kind body))

-- what holds for every namer
abbrev pub ForEachNamer : ((Kind → Bytes → Bytes) → Type 0) → Type 0
ForEachNamer Law = (name : Kind → Bytes → Bytes) → IsNamer name → Law name
