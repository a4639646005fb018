-- The texts of commits and tags are lines: identities and tag names hold no LF.
use Rattle.std.proofs.Common.{Option, None, Some}
use Rattle.std.specs.Prelude.{T, ◌&&◌}
use Rattle.std.specs.Bool.{passes}
use Rattle.gx_model.specs.Texts.{Bytes, is_line}
use Rattle.gx_model.specs.Texts.RefNames.{is_tag_name}
use Rattle.gx_model.specs.Texts.Headers.{is_headers}
use Rattle.gx_model.specs.Texts.Idents.{is_ident}
use Rattle.gx_model.specs.Histories.Values.{CommitText, is_optional_ident, is_optional_line, is_proper_text}
use Rattle.gx_model.proofs.Texts.PathTests.{first, is_true, second}
use Rattle.gx_model.proofs.Texts.LineTexts.{ident_is_line, tag_is_line}

-- an identity is a line
pub ident_line : (text : Bytes) → T (is_ident text) → T (is_line text)
ident_line text h = passes _ (ident_is_line text (is_true _ h))

-- a tag's name is a line
pub tag_line : (text : Bytes) → T (is_tag_name text) → T (is_line text)
tag_line text h = passes _ (tag_is_line text (is_true _ h))

-- an optional identity is an optional line
pub optional_ident_line : (text : Option Bytes) → T (is_optional_ident text) → T (is_optional_line text)
optional_ident_line None h = tt
optional_ident_line (Some text) h = ident_line text h

-- the lines of a commit's text, and its headers
pub record TextLines (t : CommitText) : Type 0 where
  pub author : T (is_line t.author)
  pub committer : T (is_line t.committer)
  pub headers : T (is_headers t.headers)

-- the parts of a proper text are lines, and headers
pub text_lines_of : (t : CommitText) → T (is_proper_text t) → TextLines t
text_lines_of t h = record {
  author = ident_line t.author (first _ _ (first (is_ident t.author && is_ident t.committer) _ h));
  committer = ident_line t.committer (second (is_ident t.author) _ (first (is_ident t.author && is_ident t.committer) _ h));
  headers = second (is_ident t.author && is_ident t.committer) _ h;
}
