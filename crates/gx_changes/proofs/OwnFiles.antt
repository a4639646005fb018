-- What differs between a held commit's files and those of its first parent.
use Rattle.std.proofs.Common.{◌≡◌, ◌∙◌, List, [], Option, Some, None, Bor, Result, Ok, Err, IsTrue, refl, sym, ap}
use Rattle.std.specs.Prelude.{IfSome}
use Rattle.std.specs.List.{slice_get}
use Rattle.std.specs.Option.{option_map}
use Rattle.gx_model.specs.declared.objects.Kind.{Kind}
use Rattle.gx_model.specs.declared.objects.Kind.TheVariants as kinds
use Rattle.gx_model.specs.Changes.{base_files, changed_files, gone_paths}
use Rattle.gx_model.specs.Histories.Values.{Commit, Commits, commit_value, files_of, list_of, more, none, parents_of, tree_value}
use Rattle.gx_model.specs.Histories.{Records}
use Rattle.gx_model.specs.Objects.{CommitParts, IsNamer}
use Rattle.gx_model.specs.Records.{named_map, names_of, parts_of_commit}
use Rattle.gx_model.specs.Records.HistoryOf.{commit_of_value, contents_of, files_of_tree, history_of, named_values, value_of_name}
use Rattle.gx_model.specs.Records.RecordFaults.{is_held}
use Rattle.gx_model.specs.Records.Sound.{IsSound}
use Rattle.gx_model.specs.Texts.{Bytes}
use Rattle.gx_model.proofs.Records.HeldValues.{all_whole, commit_stands, parent_there, value_held}
use Rattle.gx_model.proofs.Records.LinkedValues.{parts_in}
use Rattle.gx_object.specs.declared.name.Name.{Name}
use Rattle.gx_object.specs.Parts.{bytes_if}
use Rattle.gx_questions.specs.Answers.{IsOfTold}
use Rattle.gx_questions.specs.Objects.{IsCommitAt}
use Rattle.gx_questions.specs.declared.fault.AskFault.{AskFault}
use Rattle.gx_rev.specs.Objects.{IsHeldAs, commit_at}
use Rattle.gx_export.specs.Compared.{IsTreeIf, tree_if}
use Rattle.gx_export.proofs.BaseFiles.{base_below, gone_told, own_told, parent_held}
use Rattle.gx_differences.specs.Differences.{AreDifferences, HaveFiles, names_if}
use Rattle.gx_differences.specs.declared.differences.Differences.{Differences}
use Rattle.gx_changes.specs.Commits.{AreOwn, IsCommitOf, IsPartsOf, OfItsParts}

first_base : (cs : Commits) (d : Commit) → slice_get (list_of cs) 0 ≡ Some d → base_files (list_of cs) ≡ files_of d
first_base none d e = absurd (cc e)
first_base (more c cs) d e = let same : c ≡ d = cc e in ap files_of same

module _ (name : Kind → Bytes → Bytes) (namer : IsNamer name) (r : Records) (sound : IsSound name r) where
  -- the tree of a held commit is held, and has its files
  tree_there : (n t : Bytes) → IsTrue (is_held r.records kinds.Commit n) → t ≡ (parts_of_commit name (commit_of_value (value_of_name r.records n))).tree
      → IsTrue (is_held r.records kinds.Tree t) × (value_of_name r.records t ≡ tree_value (files_of (commit_of_value (value_of_name r.records n))))
  tree_there n t h e =
      let c = commit_of_value (value_of_name r.records n) in
      value_held name namer r sound kinds.Tree (tree_value (files_of c)) t (parts_in (history_of r).values (commit_value c) (all_whole name namer r sound) (commit_stands name namer r sound n h).1).0 refl e

  module _ (called : Name) (held : IsHeldAs kinds.Commit r called) where
    abbrev made : Commit
    made = commit_at r called

    abbrev IsFirst : Option Name → Type 0
    IsFirst o = option_map (λ m. m.bytes) o ≡ slice_get (names_of name (parents_of made)) 0

    -- the tree of its first parent, where it has one
    base_is : (o base : Option Name) → IsFirst o → bytes_if base ≡ tree_if name r o → IsTreeIf r base × (names_if name r base ≡ named_map name (base_files (list_of (parents_of made))))
    base_is None None e b = (tt, sym (base_below name namer r sound called.bytes held None e))
    base_is None (Some t) e b = absurd (cc b)
    base_is (Some m) None e b = absurd (cc b)
    base_is (Some m) (Some t) e b =
        let p = parent_there name namer r sound called.bytes m.bytes 0 held e in
        let same : t.bytes ≡ (parts_of_commit name (commit_at r m)).tree = cc b in
        let k = tree_there m.bytes t.bytes p.1 same in
        (k.0, ap (λ v. named_map name (files_of_tree v)) k.1 ∙ ap (named_map name) (sym (first_base (parents_of made) (commit_at r m) p.0)))

    own_found : {A : Type 0} (o base : Option Name) (tree : Name) (found : Differences A) → IsFirst o → bytes_if base ≡ tree_if name r o → tree.bytes ≡ (parts_of_commit name made).tree
        → HaveFiles found.files.items r → AreDifferences name base (Some tree) r found → AreOwn r made found
    own_found o base tree found e b t h d =
        let olds = (base_is o base e b).1 in
        let news : names_if name r (Some tree) ≡ named_map name (files_of made) = ap (λ v. named_map name (files_of_tree v)) (tree_there called.bytes tree.bytes held t).1 in
        record {
          held = h;
          files = ap (contents_of (named_values r.records)) (d.changed ∙ (λ i. changed_files (olds i) (news i))) ∙ own_told name namer r sound called.bytes held o e;
          gone = d.gone ∙ (λ i. gone_paths (olds i) (news i)) ∙ gone_told name namer r sound called.bytes held;
        }

-- ---- of the repository that is told

module _ (name : Kind → Bytes → Bytes) (namer : IsNamer name) (parts : CommitParts) (o : Option Name) (first : option_map (λ m. m.bytes) o ≡ slice_get parts.parents 0) where
  is_first : (r : Records) (called : Name) → IsCommitOf name parts r called → option_map (λ m. m.bytes) o ≡ slice_get (names_of name (parents_of (commit_at r called))) 0
  is_first r called k = first ∙ ap (λ v. slice_get v.parents 0) k.parts

  pub parent_told : (told : Option Records) → IfSome told (IsSound name) → IfSome told (IsPartsOf name parts) → IfSome told (λ r. IfSome o (IsHeldAs kinds.Commit r))
  parent_told None s k = tt
  parent_told (Some r) s k = parent_held name namer r s k.0.bytes k.1.held o (is_first r k.0 k.1)

  module _ (base : Option Name) where
    pub base_told : (told : Option Records) → IfSome told (IsSound name) → IfSome told (IsPartsOf name parts) → IfSome told (λ r. bytes_if base ≡ tree_if name r o) → IfSome told (λ r. IsTreeIf r base)
    base_told None s k b = tt
    base_told (Some r) s k b = (base_is name namer r s k.0 k.1.held o base (is_first r k.0 k.1) b).0

    module _ (tree : Name) (same : tree.bytes ≡ parts.tree) where
      pub tree_told : (told : Option Records) → IfSome told (IsSound name) → IfSome told (IsPartsOf name parts) → IfSome told (λ r. IsTreeIf r (Some tree))
      tree_told None s k = tt
      tree_told (Some r) s k = (tree_there name namer r s k.0.bytes tree.bytes k.1.held (same ∙ ap (λ v. v.tree) k.1.parts)).0

      pub own_told_found : {A : Type 0} (told : Option Records) (found : Differences A) → IfSome told (IsSound name) → IfSome told (λ r. bytes_if base ≡ tree_if name r o)
          → IfSome told (λ r. HaveFiles found.files.items r) → IfSome told (λ r. AreDifferences name base (Some tree) r found) → IfSome told (λ r. OfItsParts name parts r found)
      own_told_found None found s b h d = tt
      own_told_found (Some r) found s b h d = λ called k.
          own_found name namer r s called k.held o base tree found (is_first r called k) b (same ∙ ap (λ v. v.tree) k.parts) h d

      pub own_answered : {A : Type 0} (told : Option Records) (result : Result (Differences A) AskFault) → IfSome told (IsSound name) → IfSome told (λ r. bytes_if base ≡ tree_if name r o)
          → IsOfTold told (λ r found. HaveFiles found.files.items r) result → IsOfTold told (AreDifferences name base (Some tree)) result → IsOfTold told (OfItsParts name parts) result
      own_answered told (Ok found) s b h d = own_told_found told found s b h d
      own_answered told (Err e) s b h d = tt

-- the parts of a held commit that was found
pub parts_told : (name : Kind → Bytes → Bytes) (called : Name) (told : Option Records) (found : Bor Bytes × CommitParts) → IfSome told (λ r. IsHeldAs kinds.Commit r called) → IfSome told (λ r. IsCommitAt name called r found) → IfSome told (λ r. IsCommitOf name found.1 r called)
parts_told name called None found h k = tt
parts_told name called (Some r) found h k = record { held = h; parts = k.parts }

pub some_parts : (name : Kind → Bytes → Bytes) (called : Name) (told : Option Records) (parts : CommitParts) → IfSome told (λ r. IsCommitOf name parts r called) → IfSome told (IsPartsOf name parts)
some_parts name called None parts h = tt
some_parts name called (Some r) parts h = (called, h)

-- the tree of a held commit that was found
pub tree_of_found : (name : Kind → Bytes → Bytes) (called tree : Name) (told : Option Records) (found : Bor Bytes × CommitParts) → IfSome told (λ r. IsCommitAt name called r found) → tree.bytes ≡ found.1.tree → IfSome told (λ r. bytes_if (Some tree) ≡ tree_if name r (Some called))
tree_of_found name called tree None found k e = tt
tree_of_found name called tree (Some r) found k e = ap Some (e ∙ ap (λ v. v.tree) k.parts)
