-- Maps of names: file maps whose files are no directories and have names of 20 bytes, and what they stand for.
-- Source: Pro Git, "Git Objects", tree objects.
use Rattle.std.specs.Prelude.{◌≡◌, ◌≢◌, List, Some, IsTrue}
use Rattle.std.specs.List.{list_all, AllByRecursion}
use Rattle.gx_model.specs.declared.objects.Kind.{Kind}
use Rattle.gx_model.specs.declared.objects.Kind.TheVariants as kind
use Rattle.gx_model.specs.declared.objects.Mode.TheVariants.{Dir}
use Rattle.gx_model.specs.Texts.{Bytes}
use Rattle.gx_model.specs.Histories.Files.{FileMap, is_file_map}
use Rattle.gx_model.specs.Histories.Values.{Value, blobs_of, is_content}
use Rattle.gx_model.specs.Objects.{is_name}
use Rattle.gx_model.specs.Records.{named_map, tree_body}
use Rattle.gx_model.specs.Histories.{IsIn, Record}
use Rattle.gx_model.specs.Records.Growth.{record_named, tree_records}

pub record IsNameMap (g : FileMap Bytes) : Type 0 where
  pub file_map : IsTrue (is_file_map g)
  pub files : AllByRecursion (λ e. e.1.0 ≢ Dir) g
  pub names : IsTrue (list_all (λ e. is_name e.1.1) g)

-- n names the tree of g, which is held with all trees below it
pub record IsHeldTree (name : Kind → Bytes → Bytes) (rs : List Record) (n : Bytes) (g : FileMap Bytes) : Type 0 where
  pub map : IsNameMap g
  pub named : n ≡ name kind.Tree (tree_body name g)
  pub held : AllByRecursion (λ r. record_named rs r.name ≡ Some r) (tree_records name g)

-- a map of names is that of these files, whose bytes stand among these values
pub record AreFiles (name : Kind → Bytes → Bytes) (values : List Value) (files : FileMap Bytes) (names : FileMap Bytes) : Type 0 where
  pub named : names ≡ named_map name files
  pub content : IsTrue (is_content files)
  pub known : AllByRecursion (IsIn values) (blobs_of files)
