-- The body of a tag, read from the left.
use Rattle.std.specs.Prelude.{if◌then◌else◌, [], ◌∷◌, codes, Option, None, Some}
use Rattle.gx_model.specs.Texts.{Bytes}
use Rattle.gx_model.specs.Texts.RefNames.{is_tag_name}
use Rattle.gx_model.specs.Objects.{TagParts}
use Rattle.gx_object.specs.Lines.{◌>>=◌, field, ident_field, name_field, or_absent, stripped}

-- a line with a tag's name
unfoldable pub tag_field : Bytes → Option (Bytes × Bytes)
tag_field bytes = do
  a ← field (codes "tag") bytes
  if is_tag_name a.0 then Some a else None

-- the tagger, where a line at the front has one, and what follows it
abbrev pub tagger_and_rest : Bytes → Option Bytes × Bytes
tagger_and_rest bytes = or_absent (ident_field (codes "tagger") bytes) bytes

unfoldable pub tag_parts_of : Bytes → Option TagParts
tag_parts_of body = do
  object ← name_field (codes "object") body
  rest ← stripped (codes "type commit\n") object.1
  name ← tag_field rest
  message ← stripped (10 ∷ []) (tagger_and_rest name.1).1
  Some (record { object = object.0; name = name.0; tagger = (tagger_and_rest name.1).0; message = message })
