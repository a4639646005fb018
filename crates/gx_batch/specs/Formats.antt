-- Formats: how the line of an object is made.
-- Source: git-cat-file(1), "BATCH OUTPUT", and what git 2.39 does with a percent sign.
use Rattle.std.specs.Prelude.{◌≡◌, ◌≢◌, ℕ, ◌<◌, ◌==◌, ◌&&◌, if◌then◌else◌, List, [], ◌∷◌, ◌++◌, length, codes, Option, Some, None, IsSome, Result, Ok, Err}
use Rattle.std.specs.Borrow.{Bor}
use Rattle.std.specs.Fmt.{decimal}
use Rattle.std.specs.List.{flat_map}
use Rattle.std.specs.Option.{option_map}
use Rattle.gx_model.specs.declared.objects.Kind.{Kind}
use Rattle.gx_model.specs.Objects.{hex}
use Rattle.gx_model.specs.Objects.Naming.{kind_word}
use Rattle.gx_model.specs.Texts.{Bytes, same_bytes}
use Rattle.gx_batch.specs.declared.fault.FormatFault.{FormatFault}
use Rattle.gx_batch.specs.declared.fault.FormatFault.TheVariants.{BadFormat, OutOfMemory}
use Rattle.gx_batch.specs.declared.format.Format.{Format}
use Rattle.gx_batch.specs.declared.format.Part.{Part}
use Rattle.gx_batch.specs.declared.format.Part.TheVariants.{Byte, ObjectName, ObjectSize, ObjectType}

-- ---- the parts of a format

-- what a name between `%(` and `)` stands for
abbrev pub part_named : Bytes → Option Part
part_named word =
    if same_bytes word (codes "objectname")
    then Some ObjectName
    else if same_bytes word (codes "objecttype")
    then Some ObjectType
    else if same_bytes word (codes "objectsize") then Some ObjectSize else None

-- a part before others
abbrev pub with_part : Part → Option (List Part) → Option (List Part)
with_part part parts = option_map (λ ps. part ∷ ps) parts

abbrev pub with_named : Option Part → Option (List Part) → Option (List Part)
with_named None parts = None
with_named (Some part) parts = with_part part parts

-- the parts of a text; or of one that stands behind `%(` and the first bytes of a name
unfoldable pub parts_behind : Option Bytes → Bytes → Option (List Part)
parts_behind None [] = Some []
parts_behind None (b ∷ []) = Some (Byte b ∷ [])
parts_behind None (b ∷ c ∷ bs) =
    if b == 37 && c == 37
    then with_part (Byte 37) (parts_behind None bs)
    else if b == 37 && c == 40 then parts_behind (Some []) bs else with_part (Byte b) (parts_behind None (c ∷ bs))
parts_behind (Some word) [] = None
parts_behind (Some word) (b ∷ bs) = if b == 41 then with_named (part_named word) (parts_behind None bs) else parts_behind (Some (word ++ b ∷ [])) bs

-- the parts of a text as a format: `%(NAME)` stands for what an object has, `%%` for a percent sign, and each other byte for itself; none
-- where a name isn't known or has no end
abbrev pub format_of : Bytes → Option (List Part)
format_of text = parts_behind None text

-- the text of the usual format, and its parts
abbrev pub default_format : Bytes
default_format = codes "%(objectname) %(objecttype) %(objectsize)"

abbrev pub default_parts : List Part
default_parts = ObjectName ∷ Byte 32 ∷ ObjectType ∷ Byte 32 ∷ ObjectSize ∷ []

-- ---- the line of an object

-- what a part gives of an object of this name, kind and length
abbrev pub part_text : Bytes → Kind → ℕ → Part → Bytes
part_text called kind size (Byte b) = b ∷ []
part_text called kind size ObjectName = hex called
part_text called kind size ObjectType = kind_word kind
part_text called kind size ObjectSize = decimal size

-- the line of such an object
abbrev pub object_line : List Part → Bytes → Kind → ℕ → Bytes
object_line parts called kind size = flat_map (part_text called kind size) parts ++ 10 ∷ []

-- ---- what the reader of formats answers

-- why a text isn't read, whose parts these are: it is no format, or it is one, and there is no memory for it
abbrev pub IsUnread : Option (List Part) → FormatFault → Type 0
IsUnread parts BadFormat = parts ≡ None
IsUnread parts OutOfMemory = IsSome parts

-- the format of a text was read, or why it wasn't
abbrev pub GivesFormat : {A : Type 0} → Bytes → Result (Format A) FormatFault → Type 0
GivesFormat text (Ok format) = format_of text ≡ Some format.parts.items
GivesFormat text (Err fault) = IsUnread (format_of text) fault

-- Of these parts of a text the first was read, and the shorter text of the others is left; or there are none since the text is no format.
abbrev pub GivesPart : Option (List Part) → Bytes → Result (Part × Bor Bytes) FormatFault → Type 0
GivesPart parts text (Ok p) = (parts ≡ with_part p.0 (format_of p.1.now)) × (length p.1.now < length text)
GivesPart parts text (Err BadFormat) = parts ≡ None
GivesPart parts text (Err OutOfMemory) = ⊥

-- the same of a text, which may have no parts
abbrev pub GivesFirst : Bytes → Result (Option (Part × Bor Bytes)) FormatFault → Type 0
GivesFirst text (Ok None) = text ≡ []
GivesFirst text (Ok (Some p)) = GivesPart (format_of text) text (Ok p)
GivesFirst text (Err fault) = GivesPart (format_of text) text (Err fault)

-- no name begins at the front of a text
abbrev pub IsPlain : Bytes → Type 0
IsPlain text = (rest : Bytes) → text ≢ codes "%(" ++ rest

-- the same of a text behind `%(`
abbrev pub GivesNamed : Bytes → Result (Part × Bor Bytes) FormatFault → Type 0
GivesNamed text answer = GivesPart (parts_behind (Some []) text) text answer
