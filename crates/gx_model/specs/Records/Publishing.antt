-- Which refs a list of changes gives, or why it is refused. Source: git-check-ref-format(1), and gitglossary(7), "ref" and "tag object".
use Rattle.std.specs.Prelude.{not, if◌then◌else◌, List, [], ◌∷◌, Option, None, Some, is_some, Result}
use Rattle.std.specs.List.{fold}
use Rattle.std.specs.FinMap.Entries.{put}
use Rattle.gx_model.specs.declared.faults.Fault.{Fault}
use Rattle.gx_model.specs.declared.faults.Fault.TheVariants as fault
use Rattle.gx_model.specs.Texts.{Bytes, byte_cmp}
use Rattle.gx_model.specs.Texts.RefNames.{is_ref_name}
use Rattle.gx_model.specs.Histories.{Record, Records}
use Rattle.gx_model.specs.Records.Growth.{record_named}
use Rattle.gx_model.specs.Stores.StoreReading.{is_target}
use Rattle.std.specs.Option.{option_or}
use Rattle.gx_model.specs.Faults.{unless}

-- a ref's name, and the name of the object that it is to hold
abbrev pub Change : Type 0
Change = Bytes × Bytes

-- a ref's name, and the name of the object that it holds
abbrev pub Ref : Type 0
Ref = Bytes × Bytes

-- why a ref isn't set: in this order its name, an object that isn't held, and one that it may not hold
abbrev pub change_fault : List Record → Change → Option Fault
change_fault records change =
    if not (is_ref_name change.0) then Some fault.BadRefName
    else (if not (is_some (record_named records change.1)) then Some fault.UnknownObject
    else (if not (is_target change.0 (record_named records change.1)) then Some fault.WrongKind else None))

-- why the first change that is refused is
abbrev pub changes_fault : List Record → List Change → Option Fault
changes_fault records [] = None
changes_fault records (c ∷ cs) = option_or (change_fault records c) (changes_fault records cs)

-- the refs with one set, at its place in the byte order of names
abbrev pub with_change : List Ref → Change → List Ref
with_change refs change = put byte_cmp change.0 change.1 refs

-- the refs with all set, a later change after an earlier one
abbrev pub with_changes : List Ref → List Change → List Ref
with_changes refs changes = fold with_change refs changes

-- the refs that changes give a repository: all are set, or none is
unfoldable pub published : Records → List Change → Result (List Ref) Fault
published repository changes = unless (changes_fault repository.records changes) (with_changes repository.refs changes)
