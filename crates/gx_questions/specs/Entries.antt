-- The entry of a tree with a component, as it is read of the tree's body.
use Rattle.std.specs.Prelude.{List, Option}
use Rattle.gx_model.specs.declared.objects.Mode.{Mode}
use Rattle.gx_model.specs.Texts.{Bytes}
use Rattle.gx_model.specs.Objects.{Entry, IsTreeText}
use Rattle.gx_model.specs.Records.Walks.{entry_at}
use Rattle.gx_object.specs.declared.name.Name.{Name}
use Rattle.gx_rev.specs.Places.{IsOfEntry}

-- where this is the body of a tree, what is found are the mode and the name of the entry with a component
abbrev pub IsEntryIn : Bytes → Bytes → Option (Mode × Name) → Type 0
IsEntryIn body component found = (entries : List Entry) → IsTreeText entries body → IsOfEntry (entry_at entries component) found

-- this is the body of no tree
abbrev pub IsNoTree : Bytes → Type 0
IsNoTree body = (entries : List Entry) → IsTreeText entries body → ⊥
