-- What the texts are that a repository is written as.
-- Source: git-fast-export(1) and git-archive(1).
use Rattle.std.specs.Prelude.{◌≡◌, Bool, List, [], Ok, reverse}
use Rattle.gx_model.specs.declared.objects.Kind.{Kind}
use Rattle.gx_model.specs.Changes.{changes_text, range_text}
use Rattle.gx_model.specs.Export.{export_text, reached_commits}
use Rattle.gx_model.specs.Faults.{Given, ◌>>=◌}
use Rattle.gx_model.specs.Histories.{History}
use Rattle.gx_model.specs.Histories.Values.{Commit}
use Rattle.gx_model.specs.Laws.ExportLaws.{HaveEncodingsAlone}
use Rattle.gx_model.specs.Revisions.{RangeWord, revision_of}
use Rattle.gx_model.specs.Revisions.Ranges.{Word, listed, listing, words_denoted}
use Rattle.gx_model.specs.Texts.{Bytes}
use Rattle.gx_archive.specs.Archives.{archive_of}
use Rattle.gx_c.specs.Answers.{AnswersSo, AnswersWords}
use Rattle.gx_c.specs.declared.answer.Answer.{Answer}
use Rattle.gx_c.specs.declared.answer.Why.{Why}
use Rattle.gx_c.specs.declared.answer.Why.TheVariants.{Done, Empty, Field, Import, Item, Revision, Store, Unsupported}

-- A stream of these commits is this text, where a stream can say them; and it is refused where none can.
abbrev pub AnswersStreamSo : {A : Type 0} → List Commit → Bytes → Why → Answer A → Type 0
AnswersStreamSo commits text Done answer = HaveEncodingsAlone commits × AnswersSo (Ok (0, text)) Done answer
AnswersStreamSo commits text Unsupported answer = (HaveEncodingsAlone commits → ⊥) × (answer.bytes.items ≡ [])
AnswersStreamSo commits text (Revision fault) answer = AnswersSo (Ok (0, text)) (Revision fault) answer
AnswersStreamSo commits text (Import fault) answer = ⊥
AnswersStreamSo commits text (Store fault) answer = ⊥
AnswersStreamSo commits text (Item told) answer = ⊥
AnswersStreamSo commits text Empty answer = ⊥
AnswersStreamSo commits text Field answer = ⊥

abbrev pub AnswersStream : {A : Type 0} → List Commit → Bytes → Answer A → Type 0
AnswersStream commits text answer = AnswersStreamSo commits text answer.why answer

-- the whole repository
abbrev pub AnswersExport : {A : Type 0} → History → Answer A → Type 0
AnswersExport h answer = AnswersStream (reached_commits h) (export_text h) answer

module _ (name : Kind → Bytes → Bytes) (h : History) where
  -- the archive of what the text of a revision gives
  abbrev pub archive_answer : Bytes → Bytes → Given Bytes
  archive_answer revision prefix = revision_of revision >>= λ r. archive_of name h r prefix

  -- the whole repository by what each commit changed
  abbrev pub AnswersChanges : {A : Type 0} → Bool → Answer A → Type 0
  AnswersChanges closed answer = AnswersStream (reached_commits h) (changes_text name closed h) answer

  -- range words have a meaning, of which this holds
  abbrev pub IsMeant : (List Word → Type 0) → List RangeWord → Type 0
  IsMeant IsSo words = (meant : List Word) × (words_denoted name h words ≡ Ok meant) × IsSo meant

  -- a stream can say the commits that words list
  abbrev pub CanBeSaid : List Word → Type 0
  CanBeSaid meant = HaveEncodingsAlone (reverse (listing h meant))

  -- the export of the changes of these commits
  abbrev pub ExportsRange : Bool → List RangeWord → Bytes → Type 0
  ExportsRange closed words text = IsMeant (λ meant. CanBeSaid meant × (text ≡ range_text name closed h meant)) words

  abbrev pub AnswersRangeSo : {A : Type 0} → Bool → List RangeWord → Why → Answer A → Type 0
  AnswersRangeSo closed words Unsupported answer = IsMeant (λ meant. CanBeSaid meant → ⊥) words × (answer.bytes.items ≡ [])
  AnswersRangeSo closed words Done answer = ExportsRange closed words answer.bytes.items
  AnswersRangeSo closed words (Revision fault) answer = AnswersWords (listed name h words) (ExportsRange closed words) (Revision fault) answer
  AnswersRangeSo closed words (Import fault) answer = ⊥
  AnswersRangeSo closed words (Store fault) answer = ⊥
  AnswersRangeSo closed words (Item told) answer = ⊥
  AnswersRangeSo closed words Empty answer = ⊥
  AnswersRangeSo closed words Field answer = ⊥

  abbrev pub AnswersRange : {A : Type 0} → Bool → List RangeWord → Answer A → Type 0
  AnswersRange closed words answer = AnswersRangeSo closed words answer.why answer
