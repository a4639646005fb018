-- What the calls that add something to a repository do, and what they answer. Source: gitglossary(7), "object database".
use Rattle.std.specs.Prelude.{◌≡◌, Result, IfOk}
use Rattle.gx_model.specs.declared.objects.Kind.{Kind}
use Rattle.gx_model.specs.Texts.{Bytes}
use Rattle.gx_model.specs.Histories.Values.{Value, tree_value}
use Rattle.gx_model.specs.Histories.{record_for, with_one, with_tree}
use Rattle.gx_model.specs.Laws.RepositoryLaws.{values_of}
use Rattle.gx_model.specs.Records.{name_of}
use Rattle.gx_model.specs.Records.Growth.{tree_records}
use Rattle.gx_model.specs.Records.Sound.{HasShortPaths}
use Rattle.gx_object.specs.Parts.{commit_parts, tag_parts}
use Rattle.gx_object.specs.declared.commit.CommitParts.{CommitParts}
use Rattle.gx_object.specs.declared.name.Name.{Name}
use Rattle.gx_object.specs.declared.tag.TagParts.{TagParts}
use Rattle.gx_store.specs.declared.fault.StoreFault.{StoreFault}
use Rattle.gx_tree.specs.Named.{IsAtHome, NamedTree}
use Rattle.gx_tree.specs.Writes.{map_name}
use Rattle.gx_repo.specs.declared.fault.AddFault.{AddFault}
use Rattle.gx_repo.specs.Additions.{Adds, AddsAll, HasValues, HidesNone, commit_among, files_among, tag_among, value_among}
use Rattle.gx_repo.specs.Records.{AddsRecord, HidesNoFaultOf}
use Rattle.gx_repo.specs.Repositories.{Repository}

-- ---- the history

module _ {N : Type 0} where
  -- the value of the commit of these parts, whose tree and parents are held
  abbrev pub commit_given : Repository N → CommitParts → Value
  commit_given repository parts = commit_among repository.1.records (commit_parts parts)

  -- the value of the tag of these parts, whose commit is held
  abbrev pub tag_given : Repository N → TagParts → Value
  tag_given repository parts = tag_among repository.1.records (tag_parts parts)

  -- the value of a tree whose files are held by their names
  abbrev pub tree_given : Repository N → NamedTree → Value
  tree_given repository tree = tree_value (files_among repository.1.records tree.files)

  -- where a call is accepted, the history has this value, too
  abbrev pub GainsValue : {X E : Type 0} → Repository N → Repository N → Value → Result X E → Type 0
  GainsValue old new value answer = IfOk answer (λ _. HasValues old.1 new.1 (with_one (values_of old.1) value))

  -- where a call is accepted, the history has the value of a body of this kind, too
  abbrev pub GainsObject : {X E : Type 0} → Repository N → Repository N → Kind → Bytes → Result X E → Type 0
  GainsObject old new of_kind body answer = GainsValue old new (value_among old.1.records of_kind body) answer

  -- where a call is accepted, the history has this tree and those below it, too
  abbrev pub GainsTree : {X E : Type 0} → Repository N → Repository N → NamedTree → Result X E → Type 0
  GainsTree old new tree answer =
      IfOk answer (λ _. HasValues old.1 new.1 (with_tree (values_of old.1) (files_among old.1.records tree.files)))

-- ---- the records and the names

module _ {N : Type 0} (names : N → Kind → Bytes → Bytes) where
  -- where a call is accepted, it answers the name of this value
  abbrev pub NamesValue : {E : Type 0} → Repository N → Value → Result Name E → Type 0
  NamesValue repository value answer = IfOk answer (λ name. name.bytes ≡ name_of (names repository.0) value)

  -- the records with an object of this kind and body put, or unchanged, and its name
  abbrev pub AddsObject : Repository N → Repository N → Kind → Bytes → Result Name StoreFault → Type 0
  AddsObject old new of_kind body answer = Adds old.1.records new.1.records (record_for (names old.0) of_kind body) answer

  -- want of memory hides no object that has the name of this one
  abbrev pub HidesNoObject : Repository N → Kind → Bytes → Result Name StoreFault → Type 0
  HidesNoObject repository of_kind body answer = HidesNone repository.1.records (names repository.0 of_kind body) answer

  -- the records with this tree and those below it put, or unchanged, and its name
  abbrev pub AddsTree : Repository N → Repository N → NamedTree → Result Name StoreFault → Type 0
  AddsTree old new tree answer =
      AddsAll old.1.records new.1.records (tree_records (names old.0) tree.files) (map_name (names old.0) tree.files) answer

  -- the record of this kind and body last, where nothing is against it, and its name; or else what is, and no record more
  abbrev pub AddsAnew : Repository N → Repository N → Kind → Bytes → Result Name AddFault → Type 0
  AddsAnew old new of_kind body answer =
      AddsRecord old.1.records new.1.records (record_for (names old.0) of_kind body) answer

  -- want of memory hides nothing that is against a record of this kind and body, but of a tree that isn't held a path that is too
  -- long, and that another object has its name
  abbrev pub HidesNoFault : Repository N → Kind → Bytes → Result Name AddFault → Type 0
  HidesNoFault repository of_kind body answer = HidesNoFaultOf repository.1.records (record_for (names repository.0) of_kind body) answer

  -- no path below an object of this kind and body is too long
  abbrev pub HasShortPathsBelow : Repository N → Kind → Bytes → Type 0
  HasShortPathsBelow repository of_kind body = HasShortPaths repository.1.records (record_for (names repository.0) of_kind body)

  -- a tree that was at home in the one repository is at home in the other, under the names of the first
  abbrev pub KeepsAtHome : Repository N → Repository N → NamedTree → NamedTree → Type 0
  KeepsAtHome old new was now = IsAtHome (names old.0) old.1.records was → IsAtHome (names old.0) new.1.records now
