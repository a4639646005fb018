-- The shapes of a line and its parts: what a whole text gives, or its fault.
-- Source: git-fast-import(1), "mark", "commit", "tag", "reset", "filemodify", "filedelete", "filecopy", "filerename" and "feature".
use Rattle.std.specs.Prelude.{◌≡◌, ◌⊎◌, IsTrue, ℕ, ◌<◌, List, [], ◌∷◌, ◌++◌, length, replicate, codes, Option, Some, None, Ok, Err}
use Rattle.gx_model.specs.Texts.{Bytes, lacks, is_line}
use Rattle.gx_model.specs.Texts.Numbers.{decimal_of}
use Rattle.gx_model.specs.Texts.RefNames.{is_ref_name, is_tag_name}
use Rattle.gx_model.specs.Texts.Idents.{IsIdent}
use Rattle.gx_model.specs.Texts.Paths.{Path, IsPathOf}
use Rattle.gx_model.specs.Laws.TextLaws.{IsPathFault, IsQuotedPath, IsQuotedFault, HasNoQuotedText}
use Rattle.gx_model.specs.Streams.Spelling.{IsNot}
use Rattle.gx_model.specs.Faults.{Given}
use Rattle.gx_model.specs.declared.faults.Fault.{Fault}
use Rattle.gx_model.specs.declared.faults.Fault.TheVariants as faults
use Rattle.gx_model.specs.declared.objects.Mode.{Mode}
use Rattle.gx_model.specs.declared.objects.Mode.TheVariants as modes
use Rattle.gx_model.specs.declared.features.Feature.{Feature}
use Rattle.gx_model.specs.declared.features.Feature.TheVariants as features
use Rattle.gx_model.specs.Streams.Commands.{CommitIsh, Marked, Named}
use Rattle.gx_model.specs.Streams.Grammar.{Where, AtMark, AtName, AtBlock}
use Rattle.gx_model.specs.Texts.Digits.{is_any_name_text}

-- ---- the word of a line

-- a line of a word that has a text: the word, a space, the text
abbrev pub line_of : Bytes → Bytes → Bytes
line_of word text = word ++ 32 ∷ text

-- a line of this word, alone or with a text
abbrev pub IsOf : Bytes → Bytes → Type 0
IsOf word line = (line ≡ word) ⊎ ((text : Bytes) × (line ≡ line_of word text))

-- a line of none of these words
abbrev pub IsOfNone : List Bytes → Bytes → Type 0
IsOfNone [] line = Unit {0}
IsOfNone (word ∷ words) line = (IsOf word line → ⊥) × IsOfNone words line

-- a line of one of these words
abbrev pub IsOfOne : List Bytes → Bytes → Type 0
IsOfOne [] line = ⊥
IsOfOne (word ∷ words) line = IsOf word line ⊎ IsOfOne words line

-- one of these texts
abbrev pub IsOneOf : List Bytes → Bytes → Type 0
IsOneOf [] text = ⊥
IsOneOf (x ∷ xs) text = (text ≡ x) ⊎ IsOneOf xs text

-- the first part of a text up to a space, and what follows that space; or all of it where no space stands
abbrev pub BeginsPart : Bytes → Bytes → Option Bytes → Type 0
BeginsPart text part None = IsTrue (lacks 32 part) × (text ≡ part)
BeginsPart text part (Some more) = IsTrue (lacks 32 part) × (text ≡ line_of part more)

-- ---- texts of one form

-- what a text gives, or the fault
abbrev pub TextShape : Type 0 → Type 1
TextShape A = Bytes → Given A → Type 0

-- a text of the form gives itself, and every other one the fault
pub data IsForm (Form : Bytes → Type 0) (otherwise : Fault) : Bytes → Given Bytes → Type 0 where
  has_form : {text : Bytes} → Form text → IsForm Form otherwise text (Ok text)
  lacks_form : {text : Bytes} → (Form text → ⊥) → IsForm Form otherwise text (Err otherwise)

-- an identity
abbrev pub IsIdentText : TextShape Bytes
IsIdentText = IsForm IsIdent faults.BadIdent

-- a ref name
abbrev pub IsRefText : TextShape Bytes
IsRefText = IsForm (λ text. IsTrue (is_ref_name text)) faults.BadRefName

-- a tag's name
abbrev pub IsTagNameText : TextShape Bytes
IsTagNameText = IsForm (λ text. IsTrue (is_tag_name text)) faults.BadRefName

-- an encoding: a line, and not empty
abbrev pub IsEncodingText : TextShape Bytes
IsEncodingText = IsForm (λ text. (0 < length text) × IsTrue (is_line text)) faults.BadLine

-- any text, which plays no part
abbrev pub IsAnyText : TextShape (Unit {0})
IsAnyText text given = given ≡ Ok tt

-- ---- marks and what names a commit

-- a mark as it is written
abbrev pub with_colon : Bytes → Bytes
with_colon digits = 58 ∷ digits

-- a mark: `:` and a number from 1
pub data IsMarkText : Bytes → Given ℕ → Type 0 where
  is_mark : {text digits : Bytes} {n : ℕ} → text ≡ with_colon digits → decimal_of digits ≡ Some n → 0 < n → IsMarkText text (Ok n)
  mark_is_zero : {text digits : Bytes}
      → text ≡ with_colon digits → decimal_of digits ≡ Some 0 → IsMarkText text (Err faults.BadNumber)
  mark_is_no_number : {text digits : Bytes}
      → text ≡ with_colon digits → decimal_of digits ≡ None → IsMarkText text (Err faults.BadNumber)
  is_no_mark : {text : Bytes} → IsNot with_colon text → IsMarkText text (Err faults.BadLine)

-- the name that stands for nothing
abbrev pub forty_zeros : Bytes
forty_zeros = replicate 40 48

-- what names a commit: a mark, or any other text but forty zeros
pub data IsCommitIshText : Bytes → Given CommitIsh → Type 0 where
  names_mark : {text : Bytes} {n : ℕ} → IsMarkText text (Ok n) → IsCommitIshText text (Ok (Marked n))
  names_bad_mark : {text digits : Bytes} {f : Fault}
      → text ≡ with_colon digits → IsMarkText text (Err f) → IsCommitIshText text (Err f)
  names_zeros : {text : Bytes} → text ≡ forty_zeros → IsCommitIshText text (Err faults.Unsupported)
  names_commit : {text : Bytes} → IsNot with_colon text → (text ≡ forty_zeros → ⊥) → IsCommitIshText text (Ok (Named text))

-- ---- features

-- the features that are known
abbrev pub feature_texts : List Bytes
feature_texts = codes "done" ∷ codes "date-format=raw" ∷ codes "force" ∷ []

-- a feature that is known
pub data IsFeatureText : Bytes → Given Feature → Type 0 where
  asks_done : {text : Bytes} → text ≡ codes "done" → IsFeatureText text (Ok features.Done)
  asks_raw_dates : {text : Bytes} → text ≡ codes "date-format=raw" → IsFeatureText text (Ok features.RawDates)
  asks_force : {text : Bytes} → text ≡ codes "force" → IsFeatureText text (Ok features.Force)
  asks_other : {text : Bytes} → (IsOneOf feature_texts text → ⊥) → IsFeatureText text (Err faults.Unsupported)

-- ---- modes and what content is taken from

-- the modes that a line may have, and those of directories
abbrev pub mode_texts : List Bytes
mode_texts = codes "100644" ∷ codes "644" ∷ codes "100755" ∷ codes "755" ∷ codes "120000" ∷ codes "160000" ∷ codes "040000" ∷ codes "40000" ∷ []

-- the mode of a modify line
pub data IsModeText : Bytes → Given Mode → Type 0 where
  mode_file : {text : Bytes} → (text ≡ codes "100644") ⊎ (text ≡ codes "644") → IsModeText text (Ok modes.File)
  mode_executable : {text : Bytes} → (text ≡ codes "100755") ⊎ (text ≡ codes "755") → IsModeText text (Ok modes.Exec)
  mode_link : {text : Bytes} → text ≡ codes "120000" → IsModeText text (Ok modes.Link)
  mode_gitlink : {text : Bytes} → text ≡ codes "160000" → IsModeText text (Ok modes.Gitlink)
  mode_directory : {text : Bytes} → (text ≡ codes "040000") ⊎ (text ≡ codes "40000") → IsModeText text (Err faults.Unsupported)
  mode_other : {text : Bytes} → (IsOneOf mode_texts text → ⊥) → IsModeText text (Err faults.BadMode)

-- a dataref: a mark, `inline`, or forty hexadecimal digits that aren't all zero
pub data IsDataRefText : Bytes → Given Where → Type 0 where
  at_mark : {text : Bytes} {n : ℕ} → IsMarkText text (Ok n) → IsDataRefText text (Ok (AtMark n))
  at_bad_mark : {text digits : Bytes} {f : Fault} → text ≡ with_colon digits → IsMarkText text (Err f) → IsDataRefText text (Err f)
  at_block : {text : Bytes} → text ≡ codes "inline" → IsDataRefText text (Ok AtBlock)
  at_zeros : {text : Bytes} → text ≡ forty_zeros → IsDataRefText text (Err faults.Unsupported)
  at_name : {text : Bytes} → IsTrue (is_any_name_text text) → (text ≡ forty_zeros → ⊥) → IsDataRefText text (Ok (AtName text))
  at_nothing : {text : Bytes}
      → IsNot with_colon text → (text ≡ codes "inline" → ⊥) → (IsTrue (is_any_name_text text) → ⊥) → IsDataRefText text (Err faults.BadLine)

-- ---- paths in lines

-- a text that begins with a quote
abbrev pub quote_text : Bytes → Bytes
quote_text text = 34 ∷ text

-- no quoted text begins the text, or one that is refused as a path
abbrev pub IsQuoteFault : Bytes → Fault → Type 0
IsQuoteFault text f = ((f ≡ faults.BadPath) × HasNoQuotedText text) ⊎ IsQuotedFault text f

-- a path that ends its line: quoted to the line's end, or taken byte for byte
pub data IsLastPath : Bytes → Given Path → Type 0 where
  bare_last : {text : Bytes} {p : Path} → IsNot quote_text text → IsPathOf text p → IsLastPath text (Ok p)
  bare_last_fault : {text : Bytes} {f : Fault} → IsNot quote_text text → IsPathFault text f → IsLastPath text (Err f)
  quoted_last : {text : Bytes} {p : Path} → IsQuotedPath text p [] → IsLastPath text (Ok p)
  quoted_last_goes_on : {text : Bytes} {p : Path} {b : ℕ} {rest : Bytes}
      → IsQuotedPath text p (b ∷ rest) → IsLastPath text (Err faults.BadLine)
  quoted_last_fault : {text x : Bytes} {f : Fault} → text ≡ quote_text x → IsQuoteFault text f → IsLastPath text (Err f)

-- what a space begins
abbrev pub space_text : Bytes → Bytes
space_text text = 32 ∷ text

-- a source and what follows the space after it: quoted, or up to the first space
pub data IsSource : Bytes → Given (Path × Bytes) → Type 0 where
  bare_source : {text part rest : Bytes} {p : Path}
      → IsNot quote_text text → BeginsPart text part (Some rest) → IsPathOf part p → IsSource text (Ok (p, rest))
  bare_source_fault : {text part : Bytes} {f : Fault} (rest : Bytes)
      → IsNot quote_text text → BeginsPart text part (Some rest) → IsPathFault part f → IsSource text (Err f)
  bare_source_is_last : {text : Bytes} → IsNot quote_text text → BeginsPart text text None → IsSource text (Err faults.BadLine)
  quoted_source : {text rest : Bytes} {p : Path} → IsQuotedPath text p (space_text rest) → IsSource text (Ok (p, rest))
  quoted_source_goes_on : {text rest : Bytes} {p : Path}
      → IsQuotedPath text p rest → IsNot space_text rest → IsSource text (Err faults.BadLine)
  quoted_source_fault : {text x : Bytes} {f : Fault} → text ≡ quote_text x → IsQuoteFault text f → IsSource text (Err f)

-- a source and a destination
pub data AreTwoPaths : Bytes → Given (Path × Path) → Type 0 where
  source_and_destination : {text rest : Bytes} {source destination : Path}
      → IsSource text (Ok (source, rest)) → IsLastPath rest (Ok destination) → AreTwoPaths text (Ok (source, destination))
  source_fault : {text : Bytes} {f : Fault} → IsSource text (Err f) → AreTwoPaths text (Err f)
  destination_fault : {text rest : Bytes} {source : Path} {f : Fault}
      → IsSource text (Ok (source, rest)) → IsLastPath rest (Err f) → AreTwoPaths text (Err f)
