-- What a call on a tree answers, and what it makes of the files.
use Rattle.std.specs.Prelude.{List, Result, Ok}
use Rattle.gx_model.specs.declared.faults.Fault.{Fault}
use Rattle.gx_model.specs.declared.objects.Kind.{Kind}
use Rattle.gx_model.specs.Faults.{Gives}
use Rattle.gx_model.specs.Histories.{Record}
use Rattle.gx_model.specs.Histories.Files.{FileMap}
use Rattle.gx_model.specs.Objects.NameMaps.{IsHeldTree}
use Rattle.gx_model.specs.Texts.{Bytes}
use Rattle.gx_object.specs.declared.name.Name.{Name}
use Rattle.gx_tree.specs.Faults.{fault_of}
use Rattle.gx_tree.specs.Named.{NamedTree}
use Rattle.gx_tree.specs.declared.fault.TreeFault.{TreeFault}

-- a tree of the files that are given, or the fault, unless memory ran out
abbrev pub GivesFiles : Result NamedTree TreeFault → Result (FileMap Bytes) Fault → Type 0
GivesFiles = Gives fault_of (λ (tree : NamedTree). tree.files)

-- the tree has become one of the files that are given, or the fault is answered, unless memory ran out
abbrev pub Becomes : {X : Type 0} → NamedTree → Result X TreeFault → Result (FileMap Bytes) Fault → Type 0
Becomes {X} new = Gives fault_of (λ (_ : X). new.files)

-- a tree of the files that n names, if it is held with all trees below it
abbrev pub LoadsFiles : (Kind → Bytes → Bytes) → List Record → Name → Result NamedTree TreeFault → Type 0
LoadsFiles name rs n result = (g : FileMap Bytes) → IsHeldTree name rs n.bytes g → GivesFiles result (Ok g)
