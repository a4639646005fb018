-- What a call answers of a repository: a text and a number, or the fault's word.
-- Source: gitrevisions(7), git-cat-file(1), git-show-ref(1), git-rev-list(1), git-archive(1) and git-fast-export(1).
use Rattle.std.specs.Prelude.{◌≡◌, ℕ, List, [], ◌∷◌, ◌++◌, Result, Ok, Err, codes}
use Rattle.std.specs.List.{flat_map}
use Rattle.gx_model.specs.declared.faults.Fault.TheVariants.{WrongKind}
use Rattle.gx_model.specs.declared.objects.Kind.{Kind}
use Rattle.gx_model.specs.declared.objects.Kind.TheVariants as kind
use Rattle.gx_model.specs.declared.objects.Mode.{Mode}
use Rattle.gx_model.specs.declared.objects.Mode.TheVariants as mode
use Rattle.gx_model.specs.Texts.{Bytes}
use Rattle.gx_model.specs.Texts.Paths.{path_of}
use Rattle.gx_model.specs.Faults.{Given, IsFaultOf, ◌>>=◌}
use Rattle.gx_model.specs.Faults.FaultWords as import_words
use Rattle.gx_model.specs.Histories.{History}
use Rattle.gx_model.specs.Histories.Files.{Leaf}
use Rattle.gx_model.specs.Records.{body_of, kind_of, name_of}
use Rattle.gx_model.specs.Revisions.{RangeWord, revision_of}
use Rattle.gx_model.specs.Revisions.Denotation.{Shown, denoted, looked_up, object, submodule}
use Rattle.gx_model.specs.Revisions.Ranges.{WordFault, listed}
use Rattle.gx_model.specs.Objects.{hex}
use Rattle.gx_rev.specs.RevFaults as rev
use Rattle.gx_growing.specs.Faults as store_words
use Rattle.gx_rev.specs.Walking.{IsWordFault}
use Rattle.gx_c.specs.declared.answer.Answer.{Answer}
use Rattle.gx_c.specs.declared.answer.Why.{Why}
use Rattle.gx_c.specs.declared.answer.Why.TheVariants.{Done, Empty, Field, Import, Item, Revision, Store, Unsupported}

-- 0 for a call that was accepted, and 1 for one that was refused
abbrev pub status_of : Why → ℕ
status_of Done = 0
status_of (Revision fault) = 1
status_of (Import fault) = 1
status_of (Store fault) = 1
status_of (Item told) = 1
status_of Empty = 1
status_of Field = 1
status_of Unsupported = 1

-- the name of the fault
abbrev pub word_of_why : Why → Bytes
word_of_why Done = []
word_of_why (Revision fault) = rev.word fault
word_of_why (Import fault) = import_words.word_of fault
word_of_why (Store fault) = store_words.word fault
word_of_why (Item told) = told.now
word_of_why Empty = codes "Empty"
word_of_why Field = codes "UnknownField"
word_of_why Unsupported = codes "Unsupported"

-- The number and the bytes are those that are given, or the fault is told, with no bytes; unless memory ran out.
abbrev pub AnswersSo : {A : Type 0} → Given (ℕ × Bytes) → Why → Answer A → Type 0
AnswersSo given Done answer = given ≡ Ok (answer.number, answer.bytes.items)
AnswersSo given (Revision fault) answer = IsFaultOf (rev.fault_of fault) given × (answer.bytes.items ≡ [])
AnswersSo given (Import fault) answer = ⊥
AnswersSo given (Store fault) answer = ⊥
AnswersSo given (Item told) answer = ⊥
AnswersSo given Empty answer = ⊥
AnswersSo given Field answer = ⊥
AnswersSo given Unsupported answer = ⊥

abbrev pub Answers : {A : Type 0} → Given (ℕ × Bytes) → Answer A → Type 0
Answers given answer = AnswersSo given answer.why answer

-- a text alone
abbrev pub AnswersText : {A : Type 0} → Given Bytes → Answer A → Type 0
AnswersText given answer = Answers (given >>= λ text. Ok (0, text)) answer

-- What range words give has this text, or the first word that is refused is told by its number, with no bytes; unless memory ran out.
abbrev pub AnswersWords : {A : Type 0} → Result (List Bytes) WordFault → (Bytes → Type 0) → Why → Answer A → Type 0
AnswersWords given IsText Done answer = IsText answer.bytes.items
AnswersWords given IsText (Revision fault) answer = IsWordFault answer.number (rev.fault_of fault) given × (answer.bytes.items ≡ [])
AnswersWords given IsText (Import fault) answer = ⊥
AnswersWords given IsText (Store fault) answer = ⊥
AnswersWords given IsText (Item told) answer = ⊥
AnswersWords given IsText Empty answer = ⊥
AnswersWords given IsText Field answer = ⊥
AnswersWords given IsText Unsupported answer = ⊥

-- the digits of a name, in a line
abbrev pub digits_line : Bytes → Bytes
digits_line called = hex called ++ 10 ∷ []

-- the number of a mode, whose octal digits Git prints: 100644, 100755, 120000, 160000 and 40000
abbrev pub mode_number : Mode → ℕ
mode_number mode.File = 33188
mode_number mode.Exec = 33261
mode_number mode.Link = 40960
mode_number mode.Gitlink = 57344
mode_number mode.Dir = 16384

-- the number that git has for a kind
abbrev pub kind_number : Kind → ℕ
kind_number kind.Commit = 1
kind_number kind.Tree = 2
kind_number kind.Blob = 3
kind_number kind.Tag = 4

module _ (name : Kind → Bytes → Bytes) (h : History) where
  -- the file at a path in the tree of a revision, each by its text
  abbrev pub file_at : Bytes → Bytes → Given (Leaf Bytes)
  file_at revision path = revision_of revision >>= λ r. path_of path >>= looked_up name h r

  -- its mode and its bytes
  abbrev pub file_answer : Bytes → Bytes → Given (ℕ × Bytes)
  file_answer revision path = file_at revision path >>= λ leaf. Ok (mode_number leaf.0, leaf.1)

  -- the kind and the body of what is shown
  abbrev pub shown_answer : Shown → Given (ℕ × Bytes)
  shown_answer (object value) = Ok (kind_number (kind_of name value), body_of name value)
  shown_answer (submodule digits) = Err WrongKind

  -- those of what the text of a revision gives
  abbrev pub object_answer : Bytes → Given (ℕ × Bytes)
  object_answer revision = revision_of revision >>= denoted name h >>= shown_answer

  -- the kind and the digits of what is shown: a submodule names a commit
  abbrev pub named_answer : Shown → Given (ℕ × Bytes)
  named_answer (object value) = Ok (kind_number (kind_of name value), hex (name_of name value))
  named_answer (submodule digits) = Ok (1, digits)

  -- those of what the text of a revision gives
  abbrev pub name_answer : Bytes → Given (ℕ × Bytes)
  name_answer revision = revision_of revision >>= denoted name h >>= named_answer

  -- the commits that range words list, each by the digits of its name in a line
  abbrev pub ListsCommits : List RangeWord → Bytes → Type 0
  ListsCommits words text = (names : List Bytes) × (listed name h words ≡ Ok names) × (text ≡ flat_map digits_line names)

  abbrev pub AnswersWalk : {A : Type 0} → List RangeWord → Answer A → Type 0
  AnswersWalk words answer = AnswersWords (listed name h words) (ListsCommits words) answer.why answer
