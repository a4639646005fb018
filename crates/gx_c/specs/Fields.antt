-- The parts of a commit that a call answers, each by its number.
-- Source: git-log(1), "PRETTY FORMATS", and Pro Git, "Git Objects".
use Rattle.std.specs.Prelude.{◌≡◌, ℕ, List, [], ◌∷◌, Option, None, Some, Ok}
use Rattle.std.specs.List.{flat_map, slice_get}
use Rattle.gx_model.specs.declared.objects.Kind.{Kind}
use Rattle.gx_model.specs.Faults.{Given, ◌>>=◌}
use Rattle.gx_model.specs.Histories.{History}
use Rattle.gx_model.specs.Objects.{CommitParts, hex}
use Rattle.gx_model.specs.Records.{parts_of_commit}
use Rattle.gx_model.specs.Revisions.{revision_of}
use Rattle.gx_model.specs.Revisions.Denotation.{commit_denoted}
use Rattle.gx_model.specs.Texts.{Bytes}
use Rattle.gx_model.specs.Texts.Headers.{encoding_in}
use Rattle.gx_c.specs.Answers.{AnswersText, digits_line}
use Rattle.gx_c.specs.declared.answer.Answer.{Answer}
use Rattle.gx_c.specs.declared.answer.Why.TheVariants as why
use Rattle.gx_c.specs.declared.fields.Field.{Field}
use Rattle.gx_c.specs.declared.fields.Field.TheVariants.{Tree, Parents, Author, Committer, Encoding, Message, Headers}

-- the fields in the order of their numbers, from 0
abbrev pub fields : List Field
fields = Tree ∷ Parents ∷ Author ∷ Committer ∷ Encoding ∷ Message ∷ Headers ∷ []

-- the bytes, or none
abbrev pub or_empty : Option Bytes → Bytes
or_empty None = []
or_empty (Some bytes) = bytes

-- The text of a field: the tree's digits, those of each parent in a line, an identity, an encoding or nothing, the message, and the
-- header lines behind the committer's.
abbrev pub field_text : Field → CommitParts → Bytes
field_text Tree parts = hex parts.tree
field_text Parents parts = flat_map digits_line parts.parents
field_text Author parts = parts.text.author
field_text Committer parts = parts.text.committer
field_text Encoding parts = or_empty (encoding_in parts.text.headers)
field_text Message parts = parts.text.message
field_text Headers parts = parts.text.headers

-- What a call answers of a field. Where no field has the number, that is told, whatever the others give.
abbrev pub AnswersNumbered : {F A : Type 0} → Option F → (F → Given Bytes) → Answer A → Type 0
AnswersNumbered (Some field) given answer = AnswersText (given field) answer
AnswersNumbered None given answer = (answer.why ≡ why.Field) × (answer.bytes.items ≡ [])

module _ (name : Kind → Bytes → Bytes) (h : History) where
  -- the parts of the commit that the text of a revision gives after peeling
  abbrev pub parts_given : Bytes → Given CommitParts
  parts_given revision = revision_of revision >>= λ r. commit_denoted name h r >>= λ made. Ok (parts_of_commit name made)

  -- a field of that commit
  abbrev pub field_given : Bytes → Field → Given Bytes
  field_given revision field = parts_given revision >>= λ parts. Ok (field_text field parts)

  -- the field of this number
  abbrev pub AnswersField : {A : Type 0} → Bytes → ℕ → Answer A → Type 0
  AnswersField revision number answer = AnswersNumbered (slice_get fields number) (field_given revision) answer
