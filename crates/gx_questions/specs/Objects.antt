-- Objects that are held, by their names.
use Rattle.std.specs.Prelude.{◌≡◌, List}
use Rattle.std.specs.Borrow.{Bor}
use Rattle.gx_model.specs.declared.objects.Kind.{Kind}
use Rattle.gx_model.specs.Histories.{Records}
use Rattle.gx_model.specs.Objects.{CommitParts, Entry}
use Rattle.gx_model.specs.Records.{body_of, entries, kind_of, named_map, parts_of_commit}
use Rattle.gx_model.specs.Texts.{Bytes}
use Rattle.gx_object.specs.declared.name.Name.{Name}
use Rattle.gx_objects.specs.declared.objects.Object.{Object}
use Rattle.gx_rev.specs.Objects.{commit_at, entries_at, files_at, value_at}

module _ (name : Kind → Bytes → Bytes) (called : Name) (repository : Records) where
  -- this is the object of a name
  pub record IsObjectAt (object : Object) : Type 0 where
    pub kind : object.kind ≡ kind_of name (value_at repository called)
    pub body : object.body.now ≡ body_of name (value_at repository called)

  -- these are the body and the parts of the commit of a name
  pub record IsCommitAt (found : Bor Bytes × CommitParts) : Type 0 where
    pub body : found.0.now ≡ body_of name (value_at repository called)
    pub parts : found.1 ≡ parts_of_commit name (commit_at repository called)

  -- these are the entries of the tree of a name, which are those of its files
  pub record AreEntriesAt (found : List Entry) : Type 0 where
    pub named : found ≡ entries_at repository called
    pub of_files : found ≡ entries name (named_map name (files_at repository called))
