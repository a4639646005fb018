-- The text of a store file, in each of its versions: all records in their order, and the refs.
-- Source: this project's own format.
use Rattle.std.specs.Prelude.{◌≡◌, ℕ, ◌∷◌, ◌++◌, [], length, codes}
use Rattle.std.specs.List.{flat_map}
use Rattle.gx_model.specs.declared.store_versions.Version.{Version}
use Rattle.gx_model.specs.declared.store_versions.Version.TheVariants.{One, Two}
use Rattle.gx_model.specs.Texts.Numbers.{number_text}
use Rattle.gx_model.specs.Texts.{Bytes}
use Rattle.gx_model.specs.Objects.{hex, line}
use Rattle.gx_model.specs.Histories.{Record, Records}
use Rattle.gx_model.specs.Objects.Naming.{kind_word}

-- what the first line says of a version
abbrev pub version_text : Version → Bytes
version_text One = codes "1"
version_text Two = codes "2"

-- a length, and in version 2 the digits of a name
abbrev pub length_text : Version → ℕ → Bytes → Bytes
length_text One n name = number_text n
length_text Two n name = number_text n ++ 32 ∷ hex name

-- a kind and a length, and in version 2 a name; then the body and an LF
abbrev pub stored_record : Version → Record → Bytes
stored_record v r = line (kind_word r.kind) (length_text v (length r.body) r.name) ++ r.body ++ 10 ∷ []

-- an object's digits, and the ref that holds it
abbrev pub stored_ref : Bytes × Bytes → Bytes
stored_ref x = line (hex x.1) x.0

-- the text of a store file
unfoldable pub store_text : Version → Records → Bytes
store_text v r =
    line (codes "gxstore") (version_text v) ++ line (codes "objects") (number_text (length r.records)) ++ flat_map (stored_record v) r.records
    ++ line (codes "refs") (number_text (length r.refs)) ++ flat_map stored_ref r.refs ++ codes "end" ++ 10 ∷ []

-- this is the text of a repository, in one of the versions
abbrev pub IsStoreText : Bytes → Records → Type 0
IsStoreText text r = (v : Version) × (text ≡ store_text v r)
