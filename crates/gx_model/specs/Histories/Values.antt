-- What a history is made of: bytes, file maps, commits and tags. Source: gitglossary(7), "blob object", "tree object", "commit object" and "tag object".
use Rattle.std.specs.Prelude.{◌≡◌, ℕ, Bool, true, false, ◌&&◌, List, [], ◌∷◌, ◌++◌, map, Option, None, Some, is_none, IsTrue}
use Rattle.std.specs.List.{filter, filter_map, list_all}
use Rattle.std.specs.Option.{option_eq}
use Rattle.gx_model.specs.declared.objects.Mode.{Mode}
use Rattle.gx_model.specs.declared.objects.Mode.TheVariants.{File, Exec, Link, Gitlink, Dir}
use Rattle.gx_model.specs.Texts.{Bytes, is_line, same_bytes}
use Rattle.gx_model.specs.Texts.Digits.{is_name_text}
use Rattle.gx_model.specs.Texts.Headers.{encoding_header, is_headers}
use Rattle.gx_model.specs.Texts.RefNames.{is_tag_name}
use Rattle.gx_model.specs.Texts.Idents.{is_ident}
use Rattle.gx_model.specs.Texts.Paths.{same_path}
use Rattle.gx_model.specs.Histories.Files.{FileMap, file_at, first_components, is_file_map, sub_map}

-- who made a commit, and when, the header lines behind them, and what they say of it
pub record CommitText : Type 0 where
  pub author : Bytes
  pub committer : Bytes
  pub headers : Bytes
  pub message : Bytes

mutual
  -- a commit: its file map, its parents in order, and its texts
  pub data Commit : Type 0 where
    commit : FileMap Bytes → Commits → CommitText → Commit

  -- a list of commits, the parents of one
  pub data Commits : Type 0 where
    none : Commits
    more : Commit → Commits → Commits

-- an annotated tag
pub record Tag : Type 0 where
  pub target : Commit
  pub name : Bytes
  pub tagger : Option Bytes
  pub message : Bytes

-- what a history holds: bytes, a file map, a commit or a tag
pub data Value : Type 0 where
  blob_value : Bytes → Value
  tree_value : FileMap Bytes → Value
  commit_value : Commit → Value
  tag_value : Tag → Value

-- the file map of a commit
abbrev pub files_of : Commit → FileMap Bytes
files_of (commit files parents text) = files

-- the parents of a commit
abbrev pub parents_of : Commit → Commits
parents_of (commit files parents text) = parents

-- the texts of a commit
abbrev pub text_of : Commit → CommitText
text_of (commit files parents text) = text

-- the commit of a value that is one
abbrev pub commit_of : Value → Option Commit
commit_of (commit_value c) = Some c
commit_of _ = None

-- parents as a list
abbrev pub list_of : Commits → List Commit
list_of none = []
list_of (more c cs) = c ∷ list_of cs

-- a list of commits as parents
abbrev pub commits_of : List Commit → Commits
commits_of [] = none
commits_of (c ∷ cs) = more c (commits_of cs)

-- ---- the test whether two values are one

-- a number for each mode
abbrev pub mode_number : Mode → ℕ
mode_number File = 0
mode_number Exec = 1
mode_number Link = 2
mode_number Gitlink = 3
mode_number Dir = 4

-- whether two modes are equal
abbrev pub same_mode : Mode → Mode → Bool
same_mode File File = true
same_mode Exec Exec = true
same_mode Link Link = true
same_mode Gitlink Gitlink = true
same_mode Dir Dir = true
same_mode _ _ = false

-- whether two file maps are equal
abbrev pub same_files : FileMap Bytes → FileMap Bytes → Bool
same_files [] [] = true
same_files (e ∷ es) (f ∷ fs) = same_path e.0 f.0 && same_mode e.1.0 f.1.0 && same_bytes e.1.1 f.1.1 && same_files es fs
same_files _ _ = false

-- whether the texts of two commits are equal
abbrev pub same_text_of : CommitText → CommitText → Bool
same_text_of text other = same_bytes text.author other.author && same_bytes text.committer other.committer && same_bytes text.headers other.headers && same_bytes text.message other.message

abbrev mutual
  -- whether two commits are equal
  pub same_commit : Commit → Commit → Bool
  same_commit (commit files parents text) (commit others elders words) = same_files files others && same_commits parents elders && same_text_of text words

  -- whether the parents of two commits are equal
  pub same_commits : Commits → Commits → Bool
  same_commits none none = true
  same_commits none (more d ds) = false
  same_commits (more c cs) none = false
  same_commits (more c cs) (more d ds) = same_commit c d && same_commits cs ds

-- whether two tags are equal
abbrev pub same_tag : Tag → Tag → Bool
same_tag tag other = same_commit tag.target other.target && same_bytes tag.name other.name && option_eq same_bytes tag.tagger other.tagger && same_bytes tag.message other.message

-- whether two values are equal
abbrev pub same_value : Value → Value → Bool
same_value (blob_value bytes) (blob_value others) = same_bytes bytes others
same_value (tree_value files) (tree_value others) = same_files files others
same_value (commit_value revision) (commit_value other) = same_commit revision other
same_value (tag_value tag) (tag_value other) = same_tag tag other
same_value _ _ = false

-- ---- which values are proper

-- no directory; and a gitlink's bytes are 40 lower-case digits
abbrev pub is_leaf : Mode → Bytes → Bool
is_leaf Dir content = false
is_leaf Gitlink content = is_name_text content
is_leaf _ content = true

-- a file map of contents
abbrev pub is_content : FileMap Bytes → Bool
is_content files = is_file_map files && list_all (λ entry. is_leaf entry.1.0 entry.1.1) files

-- a line, or nothing
abbrev pub is_optional_line : Option Bytes → Bool
is_optional_line None = true
is_optional_line (Some text) = is_line text

-- an identity, or nothing
abbrev pub is_optional_ident : Option Bytes → Bool
is_optional_ident None = true
is_optional_ident (Some text) = is_ident text

-- an encoding is a line, and not empty
abbrev pub is_optional_encoding : Option Bytes → Bool
is_optional_encoding None = true
is_optional_encoding (Some []) = false
is_optional_encoding (Some (b ∷ x)) = is_line (b ∷ x)

-- headers that a stream can say: that of an encoding, or none
abbrev pub IsEncodingAlone : Bytes → Type 0
IsEncodingAlone headers = (encoding : Option Bytes) × IsTrue (is_optional_encoding encoding) × (headers ≡ encoding_header encoding)

-- the texts of a commit have their forms
abbrev pub is_proper_text : CommitText → Bool
is_proper_text text = is_ident text.author && is_ident text.committer && is_headers text.headers

-- a value whose parts have their forms
abbrev pub is_proper : Value → Bool
is_proper (blob_value bytes) = true
is_proper (tree_value files) = is_content files
is_proper (commit_value revision) = is_content (files_of revision) && is_proper_text (text_of revision)
is_proper (tag_value tag) = is_tag_name tag.name && is_optional_ident tag.tagger

-- ---- what a value is made of

-- the sub-maps at the first components that are directories, in order
abbrev pub sub_maps : FileMap Bytes → List (FileMap Bytes)
sub_maps files = map (λ component. sub_map files (component ∷ [])) (filter (λ component. is_none (file_at files (component ∷ []))) (first_components files))

-- what a file has or names, unless it is a gitlink
abbrev pub unless_gitlink : Mode → Bytes → Option Bytes
unless_gitlink Gitlink x = None
unless_gitlink _ x = Some x

-- the bytes of a file, as a value; a gitlink has none
abbrev pub blob_of : Mode → Bytes → Option Value
blob_of Gitlink content = None
blob_of _ content = Some (blob_value content)

-- the bytes of each file that is no gitlink
abbrev pub blobs_of : FileMap Bytes → List Value
blobs_of files = filter_map (λ entry. blob_of entry.1.0 entry.1.1) files

-- what has to stand before a value
abbrev pub parts : Value → List Value
parts (blob_value bytes) = []
parts (tree_value files) = blobs_of files ++ map tree_value (sub_maps files)
parts (commit_value revision) = tree_value (files_of revision) ∷ map commit_value (list_of (parents_of revision))
parts (tag_value tag) = commit_value tag.target ∷ []
