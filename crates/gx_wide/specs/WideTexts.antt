-- Commits and tags as Git has them: with a message or none, by anybody that a line can name; tags of anything, with any further
-- headers behind those that Git reads itself. Source: gitglossary(7), "commit object" and "tag object", and gitformat-signature(5), on
-- `gpgsig` and `mergetag`.
use Rattle.std.specs.Prelude.{◌≡◌, ℕ, Bool, true, not, ◌&&◌, ◌==◌, nat_eq, if◌then◌else◌, List, [], ◌∷◌, ◌++◌, length, codes, Option, None, Some, IsTrue, ⊤}
use Rattle.std.specs.List.{flat_map, list_all, starts_with}
use Rattle.std.specs.Option.{option_map, unwrap_or}
use Rattle.gx_model.specs.declared.objects.Kind.{Kind}
use Rattle.gx_model.specs.declared.objects.Kind.TheVariants as kinds
use Rattle.gx_model.specs.Texts.{Bytes, cut_at, is_line, same_bytes}
use Rattle.gx_model.specs.Texts.Headers.{is_headers}
use Rattle.gx_model.specs.Texts.Idents.{on_some}
use Rattle.gx_model.specs.Histories.Values.{CommitText, is_optional_line}
use Rattle.gx_model.specs.Objects.{CommitParts, TagParts, hex, is_name, line, optional_line, unhex}
use Rattle.gx_model.specs.Objects.Naming.{kind_word}
use Rattle.gx_model.specs.Records.HistoryOf.{commit_parts_in, field, parents_in_to}

-- ---- what stands behind the headers that Git reads itself

-- a message stands behind an empty line; where there is none, there is no such line
abbrev pub message_text : Option Bytes → Bytes
message_text None = []
message_text (Some message) = 10 ∷ message

-- a byte before headers that are read
abbrev pub with_byte : ℕ → Bytes × Option Bytes → Bytes × Option Bytes
with_byte b tail = (b ∷ tail.0, tail.1)

-- the headers up to the first empty line, and the message behind it; nothing where the last header has no end
abbrev pub tail_from : Bool → Bytes → Option (Bytes × Option Bytes)
tail_from is_start [] = if is_start then Some ([], None) else None
tail_from is_start (b ∷ bs) = if is_start && b == 10 then Some ([], Some bs) else option_map (with_byte b) (tail_from (b == 10) bs)

-- the further headers and the message of which a text consists
abbrev pub tail_of : Bytes → Option (Bytes × Option Bytes)
tail_of = tail_from true

-- the first line begins with a word and a space
abbrev pub has_word : Bytes → Bytes → Bool
has_word word headers = on_some (cut_at 10 headers) (λ parts. starts_with nat_eq parts.0 (word ++ 32 ∷ []))

-- ---- commits

-- who made a commit, and when, each by any line; the header lines behind them, and what they say of it
pub record WideText : Type 0 where
  pub author : Bytes
  pub committer : Bytes
  pub headers : Bytes
  pub message : Option Bytes

-- the parts of a commit's body
pub record WideCommitParts : Type 0 where
  pub tree : Bytes
  pub parents : List Bytes
  pub text : WideText

-- the lines of a commit behind its parents, and its message
abbrev pub wide_text_lines : WideText → Bytes
wide_text_lines text =
    line (codes "author") text.author ++ line (codes "committer") text.committer ++ (text.headers ++ message_text text.message)

-- the body of a commit
abbrev pub wide_commit_text : WideCommitParts → Bytes
wide_commit_text parts =
    line (codes "tree") (hex parts.tree) ++ flat_map (λ name. line (codes "parent") (hex name)) parts.parents ++ wide_text_lines parts.text

-- the texts of a commit have their forms
pub record HasWideForm (text : WideText) : Type 0 where
  pub author : IsTrue (is_line text.author)
  pub committer : IsTrue (is_line text.committer)
  pub headers : IsTrue (is_headers text.headers)

-- this is the body of a commit with these parts
abbrev pub IsWideCommitText : WideCommitParts → Bytes → Type 0
IsWideCommitText parts body =
    (body ≡ wide_commit_text parts) × IsTrue (is_name parts.tree) × IsTrue (list_all is_name parts.parents) × HasWideForm parts.text

-- ---- tags

-- the parts of a tag's body: what it tags, by its name and its kind
pub record WideTagParts : Type 0 where
  pub object : Bytes
  pub of_kind : Kind
  pub name : Bytes
  pub tagger : Option Bytes
  pub further : Bytes
  pub message : Option Bytes

-- the body of a tag
abbrev pub wide_tag_text : WideTagParts → Bytes
wide_tag_text parts =
    line (codes "object") (hex parts.object) ++ line (codes "type") (kind_word parts.of_kind) ++ line (codes "tag") parts.name
    ++ optional_line (codes "tagger") parts.tagger ++ (parts.further ++ message_text parts.message)

-- where there is no tagger, no line of one stands first among the further headers
abbrev pub IsTaggerApart : Option Bytes → Bytes → Type 0
IsTaggerApart None further = (x rest : Bytes) → IsTrue (is_line x) → further ≡ line (codes "tagger") x ++ rest → ⊥
IsTaggerApart (Some tagger) further = ⊤

-- the texts of a tag have their forms
pub record HasWideTagForm (parts : WideTagParts) : Type 0 where
  pub name : IsTrue (is_line parts.name)
  pub tagger : IsTrue (is_optional_line parts.tagger)
  pub further : IsTrue (is_headers parts.further)
  pub apart : IsTaggerApart parts.tagger parts.further

-- this is the body of a tag with these parts
abbrev pub IsWideTagText : WideTagParts → Bytes → Type 0
IsWideTagText parts body = (body ≡ wide_tag_text parts) × IsTrue (is_name parts.object) × HasWideTagForm parts

-- ---- the parts of any body

-- what the line of a word at the front has, where there is one, and what follows
abbrev pub optional_field : Bool → ℕ → Bytes → Option Bytes × Bytes
optional_field is_there word text = if is_there then (Some (field word text).0, (field word text).1) else (None, text)

-- the further headers and the message, or nothing where the last header has no end
abbrev pub tail_in : Bytes → Bytes × Option Bytes
tail_in text = unwrap_or (tail_of text) ([], None)

-- the texts of a commit, behind its parents
abbrev pub wide_text_in : Bytes → WideText
wide_text_in text =
    let author = field 7 text in
    let committer = field 10 author.1 in
    let tail = tail_in committer.1 in
    record { author = author.0; committer = committer.0; headers = tail.0; message = tail.1 }

-- the parts of a commit's body: its tree and its parents stand as in one by identities
abbrev pub wide_commit_parts_in : Bytes → WideCommitParts
wide_commit_parts_in body =
    let tree = field 5 body in
    record { tree = (commit_parts_in body).tree; parents = (commit_parts_in body).parents; text = wide_text_in (parents_in_to (length tree.1) tree.1).1 }

-- the kind that a word tells
abbrev pub kind_of_word : Bytes → Option Kind
kind_of_word word =
    if same_bytes word (codes "commit") then Some kinds.Commit else (if same_bytes word (codes "tree") then Some kinds.Tree
    else (if same_bytes word (codes "blob") then Some kinds.Blob else (if same_bytes word (codes "tag") then Some kinds.Tag else None)))

-- the parts of a tag's body
abbrev pub wide_tag_parts_in : Bytes → WideTagParts
wide_tag_parts_in body =
    let object = field 7 body in
    let type_line = field 5 object.1 in
    let name = field 4 type_line.1 in
    let tagger = optional_field (has_word (codes "tagger") name.1) 7 name.1 in
    let tail = tail_in tagger.1 in
    record {
      object = unhex object.0;
      of_kind = unwrap_or (kind_of_word type_line.0) kinds.Commit;
      name = name.0;
      tagger = tagger.0;
      further = tail.0;
      message = tail.1;
    }

-- whether no line of a word stands first where nothing is told by it
abbrev pub is_apart : (Bytes → Bool) → Option Bytes → Bytes → Bool
is_apart is_first None further = not (is_first further)
is_apart is_first (Some told) further = true

-- whether the texts of a commit have their forms
abbrev pub is_wide_text : WideText → Bool
is_wide_text text = is_line text.author && is_line text.committer && is_headers text.headers

-- whether the texts of a tag have their forms
abbrev pub is_wide_tag : WideTagParts → Bool
is_wide_tag parts =
    is_line parts.name && is_optional_line parts.tagger && is_headers parts.further && is_apart (has_word (codes "tagger")) parts.tagger parts.further

-- whether a body is a commit's
abbrev pub is_wide_commit_body : Bytes → Bool
is_wide_commit_body body =
    let parts : WideCommitParts = wide_commit_parts_in body in
    same_bytes body (wide_commit_text parts) && is_name parts.tree && list_all is_name parts.parents && is_wide_text parts.text

-- whether a body is a tag's
abbrev pub is_wide_tag_body : Bytes → Bool
is_wide_tag_body body =
    let parts : WideTagParts = wide_tag_parts_in body in
    same_bytes body (wide_tag_text parts) && is_name parts.object && is_wide_tag parts

-- ---- of the parts that have identities and a message

-- the texts of a commit by identities, with a message
abbrev pub widened_text : CommitText → WideText
widened_text text = record { author = text.author; committer = text.committer; headers = text.headers; message = Some text.message }

-- the parts of such a commit
abbrev pub widened_commit : CommitParts → WideCommitParts
widened_commit parts = record { tree = parts.tree; parents = parts.parents; text = widened_text parts.text }

-- the parts of a tag of a commit without further headers
abbrev pub widened_tag : TagParts → WideTagParts
widened_tag parts = record {
  object = parts.object;
  of_kind = kinds.Commit;
  name = parts.name;
  tagger = parts.tagger;
  further = [];
  message = Some parts.message;
}
