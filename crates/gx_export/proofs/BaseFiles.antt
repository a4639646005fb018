-- The files of a held commit and of its first parent, and what is gathered of what differs.
use Rattle.std.proofs.Common.{◌≡◌, ◌∙◌, List, [], ◌++◌, Option, Some, None, Result, Ok, Err, refl, sym, ap, subst}
use Rattle.std.specs.Prelude.{IsTrue, IfSome}
use Rattle.std.specs.List.{slice_get}
use Rattle.std.specs.Option.{option_map}
use Rattle.gx_model.specs.declared.objects.Kind.{Kind}
use Rattle.gx_model.specs.declared.objects.Kind.TheVariants as kind
use Rattle.gx_model.specs.Changes.{base_files, changed_files, gone_paths, own_files}
use Rattle.gx_model.specs.Histories.Files.{FileMap}
use Rattle.gx_model.specs.Histories.Values.{Commit, Commits, Value, files_of, list_of, more, none, parents_of}
use Rattle.gx_model.specs.Histories.{Records}
use Rattle.gx_model.specs.Objects.{IsNamer}
use Rattle.gx_model.specs.Records.{named_map, names_of, parts_of_commit}
use Rattle.gx_model.specs.Records.HistoryOf.{commit_of_value, contents_of, named_values, value_of_name}
use Rattle.gx_model.specs.Records.RecordFaults.{is_held}
use Rattle.gx_model.specs.Records.Sound.{IsSound}
use Rattle.gx_model.specs.Texts.{Bytes}
use Rattle.gx_model.specs.Texts.Paths.{Path}
use Rattle.gx_model.proofs.Records.HeldTrees.{files_are_held}
use Rattle.gx_model.proofs.Records.HeldValues.{no_parent_there, parent_there}
use Rattle.gx_object.specs.declared.name.Name.{Name}
use Rattle.gx_rev.specs.Objects.{IsHeldAs, commit_at}
use Rattle.gx_tree.specs.Lists.{below}
use Rattle.gx_export.specs.Compared.{Compares, GathersChanges, IsBelowIf, gone_text, paths_below, tree_if}
use Rattle.gx_export.specs.FileTexts.{IsTreeBelow}
use Rattle.gx_export.specs.declared.changes.Changes.{Changes}
use Rattle.gx_export.specs.declared.fault.ExportFault.{ExportFault}
use Rattle.gx_export.specs.declared.written.Written.{Written}
use Rattle.gx_export.proofs.ChangedTexts.{gone_of}
use Rattle.gx_export.proofs.CommitTexts.{files_named_so}
use Rattle.gx_export.proofs.Gathering.{adds_gathered, kept_gathered, text_gathered, whole_tree}
use Rattle.gx_export.proofs.NamedChanges.{all_lead_back, named_changed, named_gone, paths_root}

-- ---- the files of a first parent

first_base : (cs : Commits) (d : Commit) → slice_get (list_of cs) 0 ≡ Some d → base_files (list_of cs) ≡ files_of d
first_base none d e = absurd (cc e)
first_base (more c cs) d e = let same : c ≡ d = cc e in ap files_of same

no_base : (cs : Commits) → slice_get (list_of cs) 0 ≡ None → base_files (list_of cs) ≡ []
no_base none e = refl
no_base (more c cs) e = absurd (cc e)

module _ (name : Kind → Bytes → Bytes) (namer : IsNamer name) (r : Records) (sound : IsSound name r) where
  -- the tree of a held commit, with its files by their names
  pub tree_held : (n : Bytes) → IsTrue (is_held r.records kind.Commit n) → IsTreeBelow name r 4095 [] (parts_of_commit name (commit_of_value (value_of_name r.records n))).tree (named_map name (files_of (commit_of_value (value_of_name r.records n))))
  tree_held n h =
      let c = commit_of_value (value_of_name r.records n) in
      whole_tree name r (parts_of_commit name c).tree (named_map name (files_of c)) (files_are_held name namer r sound n h) (files_named_so name namer r sound n h).0.held

  module _ (n : Bytes) (held : IsTrue (is_held r.records kind.Commit n)) where
    abbrev made : Commit
    made = commit_of_value (value_of_name r.records n)

    abbrev bases : FileMap Bytes
    bases = base_files (list_of (parents_of made))

    abbrev IsFirst : Option Name → Type 0
    IsFirst o = option_map (λ m. m.bytes) o ≡ slice_get (names_of name (parents_of made)) 0

    pub parent_held : (o : Option Name) → IsFirst o → IfSome o (IsHeldAs kind.Commit r)
    parent_held None e = tt
    parent_held (Some m) e = (parent_there name namer r sound n m.bytes 0 held e).1

    pub base_below : (o : Option Name) → IsFirst o → IsBelowIf name r 4095 [] (tree_if name r o) (named_map name bases)
    base_below None e = ap (named_map name) (no_base (parents_of made) (no_parent_there name namer r sound n 0 e))
    base_below (Some m) e =
        let p = parent_there name namer r sound n m.bytes 0 held e in
        subst (λ f. IsTreeBelow name r 4095 [] (parts_of_commit name (commit_at r m)).tree (named_map name f)) (sym (first_base (parents_of made) (commit_at r m) p.0)) (tree_held m.bytes p.1)

    base_told : (o : Option Name) → IsFirst o → contents_of (named_values r.records) (named_map name bases) ≡ bases
    base_told None e = let no = no_base (parents_of made) (no_parent_there name namer r sound n 0 e) in ap (λ f. contents_of (named_values r.records) (named_map name f)) no ∙ sym no
    base_told (Some m) e =
        let p = parent_there name namer r sound n m.bytes 0 held e in
        subst (λ f. contents_of (named_values r.records) (named_map name f) ≡ f) (sym (first_base (parents_of made) (commit_at r m) p.0)) (files_named_so name namer r sound m.bytes p.1).1

    -- what differs by names is what differs
    pub own_told : (o : Option Name) → IsFirst o → contents_of (named_values r.records) (changed_files (named_map name bases) (named_map name (files_of made))) ≡ own_files made
    own_told o e =
        let named = named_values r.records in
        named_changed name named bases (files_of made) (all_lead_back name named bases (base_told o e)) (all_lead_back name named (files_of made) (files_named_so name namer r sound n held).1)

    pub gone_told : gone_paths (named_map name bases) (named_map name (files_of made)) ≡ gone_of made
    gone_told = named_gone name (named_values r.records) bases (files_of made)

-- ---- what is gathered from the root

module _ {W A : Type 0} (name : Kind → Bytes → Bytes) (r : Records) (ws : List Value) (c : Commit) (front : Path) (f g : FileMap Bytes) (old new : Written W A) (first last : Changes A)
    (root : front ≡ []) (same : contents_of (named_values r.records) (changed_files f g) ≡ own_files c) (gone : gone_paths f g ≡ gone_of c) (empty : first.gone.items ≡ []) (none : first.files.text.items ≡ []) where
  pub of_compared : (result : Result (Unit {0}) ExportFault) → Compares name r ws (below front (changed_files f g)) (paths_below front (gone_paths f g)) old new first last result → GathersChanges name r ws c old new last result
  of_compared (Ok x) k = record {
    adds = adds_gathered name r ws front (changed_files f g) (own_files c) old new first.files last.files (Ok x) root same k.gathered;
    files = text_gathered name r ws front (changed_files f g) (own_files c) old new first.files last.files (Ok x) root same none k.gathered;
    gone = k.gone ∙ ap (λ t. t ++ gone_text (paths_below front (gone_paths f g))) empty ∙ ap gone_text (ap (λ p. paths_below p (gone_paths f g)) root ∙ paths_root (gone_paths f g) ∙ gone);
    kept = kept_gathered name r ws front (changed_files f g) (own_files c) old new first.files last.files (Ok x) root same k.gathered;
  }
  of_compared (Err e) k = adds_gathered name r ws front (changed_files f g) (own_files c) old new first.files last.files (Err e) root same k
