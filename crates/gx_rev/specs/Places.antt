-- What stands at a path, and the tree that it may name.
use Rattle.std.specs.Prelude.{◌≡◌, Option}
use Rattle.std.specs.Option.{option_map}
use Rattle.gx_model.specs.declared.objects.Kind.TheVariants as kind
use Rattle.gx_model.specs.declared.objects.Mode.{Mode}
use Rattle.gx_model.specs.declared.objects.Mode.TheVariants.{Dir}
use Rattle.gx_model.specs.Objects.{Entry}
use Rattle.gx_model.specs.Histories.{Records}
use Rattle.gx_object.specs.declared.name.Name.{Name}
use Rattle.gx_rev.specs.Objects.{IsHeldAs}
use Rattle.gx_model.specs.Histories.Files.{Leaf}
use Rattle.gx_model.specs.Texts.{Bytes}

-- a mode and a name
abbrev pub shown_place : Mode × Name → Leaf Bytes
shown_place place = (place.0, place.1.bytes)

abbrev pub place_of_entry : Entry → Leaf Bytes
place_of_entry entry = (entry.mode, entry.name)

-- the mode and the name are those of an entry, where there is one
abbrev pub IsOfEntry : Option Entry → Option (Mode × Name) → Type 0
IsOfEntry entry place = option_map shown_place place ≡ option_map place_of_entry entry

-- a directory names a held tree
abbrev pub IsHeldPlace : Records → Mode × Name → Type 0
IsHeldPlace repository place = place.0 ≡ Dir → IsHeldAs kind.Tree repository place.1
