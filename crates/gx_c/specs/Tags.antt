-- The parts of a tag that a call answers, each by its number.
-- Source: git-mktag(1), and Pro Git, "Git Internals", "Tags".
use Rattle.std.specs.Prelude.{ℕ, List, [], ◌∷◌, Ok, Err}
use Rattle.std.specs.List.{slice_get}
use Rattle.std.specs.Option.{ok_or}
use Rattle.gx_model.specs.declared.faults.Fault.TheVariants.{WrongKind}
use Rattle.gx_model.specs.declared.objects.Kind.{Kind}
use Rattle.gx_model.specs.Faults.{Given, ◌>>=◌}
use Rattle.gx_model.specs.Histories.{History}
use Rattle.gx_model.specs.Objects.{TagParts, hex}
use Rattle.gx_model.specs.Revisions.{revision_of}
use Rattle.gx_model.specs.Revisions.Denotation.{Shown, denoted, object, submodule}
use Rattle.gx_model.specs.Texts.{Bytes}
use Rattle.gx_rev.specs.Objects.{parts_of_tag_value}
use Rattle.gx_c.specs.Fields.{AnswersNumbered, or_empty}
use Rattle.gx_c.specs.declared.answer.Answer.{Answer}
use Rattle.gx_c.specs.declared.tags.TagField.{TagField}
use Rattle.gx_c.specs.declared.tags.TagField.TheVariants.{Target, Name, Tagger, Message}

-- the fields in the order of their numbers, from 0
abbrev pub tag_fields : List TagField
tag_fields = Target ∷ Name ∷ Tagger ∷ Message ∷ []

-- The text of a field: the digits of the commit, the tag's own name, an identity or nothing, and the message.
abbrev pub tag_text : TagField → TagParts → Bytes
tag_text Target parts = hex parts.object
tag_text Name parts = parts.name
tag_text Tagger parts = or_empty parts.tagger
tag_text Message parts = parts.message

module _ (name : Kind → Bytes → Bytes) where
  -- the parts of what is shown, where that is a tag
  abbrev pub tag_shown : Shown → Given TagParts
  tag_shown (object value) = ok_or (parts_of_tag_value name value) WrongKind
  tag_shown (submodule digits) = Err WrongKind

  -- those of the tag that the text of a revision gives
  abbrev pub tag_given : History → Bytes → Given TagParts
  tag_given h revision = revision_of revision >>= denoted name h >>= tag_shown

  -- a field of that tag
  abbrev pub tag_field_given : History → Bytes → TagField → Given Bytes
  tag_field_given h revision field = tag_given h revision >>= λ parts. Ok (tag_text field parts)

  -- the field of this number
  abbrev pub AnswersTag : {A : Type 0} → History → Bytes → ℕ → Answer A → Type 0
  AnswersTag h revision number answer = AnswersNumbered (slice_get tag_fields number) (tag_field_given h revision) answer
