-- An entry without where its component lies in memory, and what its mode adds to the component in the order.
use Rattle.std.specs.Prelude.{Bool, ◌||◌, [], codes}
use Rattle.gx_model.specs.declared.objects.Mode.{Mode}
use Rattle.gx_model.specs.declared.objects.Mode.TheVariants.{Dir}
use Rattle.gx_model.specs.Texts.{Bytes, same_bytes}
use Rattle.gx_model.specs.Objects.{Entry as TreeEntry}
use Rattle.gx_object.specs.declared.entry.Entry.{Entry}
use Rattle.gx_object.specs.declared.name.Name.{Name}
use Rattle.gx_object.specs.Order.{meets}
use Rattle.gx_object.specs.Trees.{entries_left}

abbrev pub shown : Entry → TreeEntry
shown e = record { mode = e.mode; component = e.component.now; name = e.name.bytes }

-- the next entry has this component, or one of the first of those, whose components begin with it
abbrev pub meets_from : Bytes → Entry → Bytes → Bool
meets_from component next after = same_bytes (shown next).component component || meets component (entries_left after)

abbrev pub entry_of : Mode → Bytes → Name → TreeEntry
entry_of mode component name = record { mode = mode; component = component; name = name.bytes }

abbrev pub mark_of : Mode → Bytes
mark_of Dir = codes "/"
mark_of _ = []
