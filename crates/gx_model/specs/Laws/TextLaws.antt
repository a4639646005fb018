-- What holds of numbers, ref names, identities and paths.
-- Source: git-fast-import(1), git-check-ref-format(1).
use Rattle.std.specs.Prelude.{◌≡◌, ◌↔◌, ◌⊎◌, IsTrue, ℕ, ◌^◌, ◌<◌, true, length, Some, Ok, Err}
use Rattle.std.specs.List.{list_all}
use Rattle.std.specs.Fmt.{decimal}
use Rattle.gx_model.specs.declared.faults.Fault.{Fault}
use Rattle.gx_model.specs.declared.faults.Fault.TheVariants as faults
use Rattle.gx_model.specs.Texts.{Bytes, is_line}
use Rattle.gx_model.specs.Texts.Numbers.{decimal_of}
use Rattle.gx_model.specs.Texts.RefNames.{is_ref_name, is_tag_name}
use Rattle.gx_model.specs.Texts.Idents.{is_ident, IsIdent}
use Rattle.gx_model.specs.Texts.Paths.{AreBytes, Path, is_component, path_text, parts_of, path_of, IsPathOf, unquote, quoted_of, IsQuotedText, printed}
use Rattle.gx_model.specs.Streams.Lines.{last_path}

-- a number's decimal text is read as the number
abbrev pub DecimalsAreRead : Type 0
DecimalsAreRead = (n : ℕ) → n < 2 ^ 64 → decimal_of (decimal n) ≡ Some n

-- reading from the left accepts just the identities
abbrev pub IdentsAreRead : Type 0
IdentsAreRead = (bs : Bytes) → (is_ident bs ≡ true) ↔ IsIdent bs

-- no LF stands in an identity, a ref name or a tag's name
abbrev pub IdentsAreLines : Type 0
IdentsAreLines = (bs : Bytes) → is_ident bs ≡ true → is_line bs ≡ true

-- a ref name holds no LF
abbrev pub RefNamesAreLines : Type 0
RefNamesAreLines = (n : Bytes) → is_ref_name n ≡ true → is_line n ≡ true

-- a tag name holds no LF
abbrev pub TagNamesAreLines : Type 0
TagNamesAreLines = (n : Bytes) → is_tag_name n ≡ true → is_line n ≡ true

-- ---- paths

-- the components of a text, joined again, are the text
abbrev pub PartsAreJoined : Type 0
PartsAreJoined = (text : Bytes) → path_text (parts_of text) ≡ text

-- a path is read exactly where its text has that form
abbrev pub PathsAreRead : Type 0
PathsAreRead = (text : Bytes) (p : Path) → (path_of text ≡ Ok p) ↔ IsPathOf text p

-- no proper components make the text
abbrev pub HasNoPath : Bytes → Type 0
HasNoPath text = (p : Path) → path_text p ≡ text → IsTrue (list_all is_component p) → ⊥

-- proper components make the text, and it is too long
pub record IsLongPathText (text : Bytes) : Type 0 where
  pub path : Path
  pub joined : path_text path ≡ text
  pub components : IsTrue (list_all is_component path)
  pub long : 4095 < length text

-- why a text is no path
abbrev pub IsPathFault : Bytes → Fault → Type 0
IsPathFault text f = ((f ≡ faults.BadPath) × HasNoPath text) ⊎ ((f ≡ faults.PathTooLong) × IsLongPathText text)

-- each fault of a path comes exactly where it is one
abbrev pub PathsAreRefused : Type 0
PathsAreRefused = (text : Bytes) (f : Fault) → (path_of text ≡ Err f) ↔ IsPathFault text f

-- the text of components is bytes
abbrev pub PathsAreBytes : Type 0
PathsAreBytes = (p : Path) → list_all is_component p ≡ true → AreBytes (path_text p)

-- the bytes between quotes are those that are written
abbrev pub QuotedTextsAreRead : Type 0
QuotedTextsAreRead = (bs text rest : Bytes) → (unquote bs ≡ Some (text, rest)) ↔ IsQuotedText bs text rest

-- a quoted text, and it is the text of a path
pub record IsQuotedPath (bs : Bytes) (p : Path) (rest : Bytes) : Type 0 where
  pub text : Bytes
  pub quoted : IsQuotedText bs text rest
  pub path : IsPathOf text p

-- a quoted path is read exactly where one is written
abbrev pub QuotedPathsAreRead : Type 0
QuotedPathsAreRead = (bs : Bytes) (p : Path) (rest : Bytes) → (quoted_of bs ≡ Ok (p, rest)) ↔ IsQuotedPath bs p rest

-- a quoted text, and it is refused as a path
pub record IsQuotedFault (bs : Bytes) (f : Fault) : Type 0 where
  pub text : Bytes
  pub rest : Bytes
  pub quoted : IsQuotedText bs text rest
  pub refused : path_of text ≡ Err f

-- a text begins with no quoted text
abbrev pub HasNoQuotedText : Bytes → Type 0
HasNoQuotedText bs = (text rest : Bytes) → IsQuotedText bs text rest → ⊥

-- each fault of a quoted path comes exactly where it is one
abbrev pub QuotedPathsAreRefused : Type 0
QuotedPathsAreRefused = (bs : Bytes) (f : Fault) → (quoted_of bs ≡ Err f) ↔ (((f ≡ faults.BadPath) × HasNoQuotedText bs) ⊎ IsQuotedFault bs f)

-- a printed path holds no LF, and read as the last field of a line it is the path
abbrev pub PrintedPathsAreLines : Type 0
PrintedPathsAreLines = (text : Bytes) → is_line (printed text) ≡ true

-- a printed path is read back
abbrev pub PrintedPathsAreRead : Type 0
PrintedPathsAreRead = (p : Path) → path_of (path_text p) ≡ Ok p → last_path (printed (path_text p)) ≡ Ok p
