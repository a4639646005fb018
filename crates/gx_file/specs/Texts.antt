-- Parts of store texts without where they lie in memory.
use Rattle.std.specs.Prelude.{ℕ, Option}
use Rattle.gx_model.specs.declared.objects.Kind.{Kind}
use Rattle.gx_model.specs.Stores.StoreReading.{Length}
use Rattle.gx_object.specs.declared.name.Name.{Name}
use Rattle.gx_object.specs.Parts.{bytes_if}

-- a length and the name behind it
abbrev pub shown_length : ℕ × Option Name → Length
shown_length field = (field.0, bytes_if field.1)

-- a kind with the length of a body
abbrev pub shown_heading : Kind × (ℕ × Option Name) → Kind × Length
shown_heading heading = (heading.0, shown_length heading.1)
