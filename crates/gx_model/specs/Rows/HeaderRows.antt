-- Worked rows on the headers of commits behind the committer.
-- Source: gitformat-signature(5), on `gpgsig` and `mergetag`, and git-commit(1), "Discussion", on `encoding`.
use Rattle.std.specs.Prelude.{◌≡◌, Bool, true, false, List, [], ◌∷◌, ◌++◌, replicate, codes, None, Some, refl}
use Rattle.gx_model.specs.Texts.{Bytes, cut_at}
use Rattle.gx_model.specs.Texts.Headers.{encoding_header, encoding_in}
use Rattle.gx_model.specs.Texts.Idents.{is_ident}
use Rattle.gx_model.specs.Streams.Spelling.{text_of_lines}
use Rattle.gx_model.specs.Records.HistoryOf.{commit_parts_in}
use Rattle.gx_model.specs.Records.RecordFaults.{is_commit_body}

-- a commit with these lines behind that of its committer
abbrev commit_of : List Bytes → Bytes
commit_of lines = text_of_lines ((codes "tree " ++ replicate 40 48) ∷ codes "author A <a@x> 1 +0000" ∷ codes "committer A <a@x> 1 +0000" ∷ lines)

-- its headers and its message
abbrev told : List Bytes → Bytes × Bytes
told lines = ((commit_parts_in (commit_of lines)).text.headers, (commit_parts_in (commit_of lines)).text.message)

-- whether that is a commit
abbrev is_one : List Bytes → Bool
is_one lines = is_commit_body (commit_of lines)

-- a header with the lines that continue it, of which one is a space alone
abbrev signature : List Bytes
signature = codes "gpgsig -----BEGIN" ∷ codes " " ∷ codes " -----END" ∷ []

-- a commit with it, and two lines of a message around an empty one
abbrev signed : List Bytes
signed = signature ++ [] ∷ codes "m" ∷ [] ∷ codes "n" ∷ []

pub record HeaderRows : Type 0 where
  -- headers go to the first empty line
  pub signed_told : told signed ≡ (text_of_lines signature, text_of_lines (codes "m" ∷ [] ∷ codes "n" ∷ []))
  pub signed_is_one : is_one signed ≡ true
  pub none_told : told ([] ∷ []) ≡ ([], [])
  pub none_is_one : is_one ([] ∷ []) ≡ true
  -- in any order, and twice
  pub any : told (codes "HG:extra a" ∷ codes "encoding x" ∷ codes "HG:extra b" ∷ [] ∷ []) ≡ (text_of_lines (codes "HG:extra a" ∷ codes "encoding x" ∷ codes "HG:extra b" ∷ []), [])
  pub any_is_one : is_one (codes "HG:extra a" ∷ codes "encoding x" ∷ codes "HG:extra b" ∷ [] ∷ []) ≡ true
  -- without an empty line behind them there is no message, and no commit
  pub bare : is_one [] ≡ false
  pub signed_bare : is_one signature ≡ false
  pub unterminated : is_commit_body (commit_of [] ++ codes "gpgsig x") ≡ false
  -- the encoding that the first header tells
  pub encoded : encoding_in (text_of_lines (codes "encoding x y" ∷ signature)) ≡ Some (codes "x y")
  pub encoded_behind : encoding_in (text_of_lines (codes "HG:extra a" ∷ codes "encoding x" ∷ [])) ≡ None
  pub empty : encoding_in (text_of_lines (codes "encoding " ∷ [])) ≡ None
  pub other_word : encoding_in (text_of_lines (codes "encodings x" ∷ [])) ≡ None
  pub header : encoding_header (Some (codes "x y")) ≡ text_of_lines (codes "encoding x y" ∷ [])

pub header_rows : HeaderRows
unfolding cut_at is_ident
header_rows = record {
  signed_told = refl;
  signed_is_one = refl;
  none_told = refl;
  none_is_one = refl;
  any = refl;
  any_is_one = refl;
  bare = refl;
  signed_bare = refl;
  unterminated = refl;
  encoded = refl;
  encoded_behind = refl;
  empty = refl;
  other_word = refl;
  header = refl;
}
