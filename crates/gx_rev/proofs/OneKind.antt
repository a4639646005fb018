-- Objects of one kind.
use Rattle.std.proofs.Common.{◌≡◌, Result, Ok, Err, refl, ap, sym, ◌∙◌}
use Rattle.std.specs.Prelude.{IfOk}
use Rattle.gx_model.specs.declared.objects.Kind.{Kind}
use Rattle.gx_model.specs.declared.objects.Kind.TheVariants as kind
use Rattle.gx_model.specs.Texts.{Bytes}
use Rattle.gx_model.specs.Histories.Values.{Value, blob_value, commit_value, tag_value, tree_value}
use Rattle.gx_model.specs.Faults.{Gives, ◌>>=◌}
use Rattle.gx_model.specs.Histories.{Records}
use Rattle.gx_model.specs.Objects.{IsNamer}
use Rattle.gx_model.specs.Records.Sound.{IsSound}
use Rattle.gx_model.specs.Revisions.Denotation.{files_in, only_blob, only_commit, only_tag}
use Rattle.gx_model.proofs.Records.HeldValues.{kind_held, tree_stands}
use Rattle.gx_object.specs.declared.name.Name.{Name}
use Rattle.gx_rev.specs.Objects.{IsHeld, IsHeldAs, files_at, only, value_at}
use Rattle.gx_rev.specs.RevFaults.{fault_of}
use Rattle.gx_rev.specs.declared.fault.RevFault.{RevFault}
use Rattle.gx_rev.proofs.Answers.{fails_first}

module _ (name : Kind → Bytes → Bytes) where
  pub commit_only : (v : Value) → only name kind.Commit v ≡ only_commit v
  commit_only (blob_value x) = refl
  commit_only (tree_value f) = refl
  commit_only (commit_value d) = refl
  commit_only (tag_value t) = refl

  pub blob_only : (v : Value) → only name kind.Blob v ≡ only_blob v
  blob_only (blob_value x) = refl
  blob_only (tree_value f) = refl
  blob_only (commit_value d) = refl
  blob_only (tag_value t) = refl

  pub tag_only : (v : Value) → only name kind.Tag v ≡ only_tag v
  tag_only (blob_value x) = refl
  tag_only (tree_value f) = refl
  tag_only (commit_value d) = refl
  tag_only (tag_value t) = refl

module _ (name : Kind → Bytes → Bytes) (namer : IsNamer name) (r : Records) (sound : IsSound name r) where
  -- where the name of a tree of some files is given, that of their tree is
  pub tree_given : (v : Value) (answer : Result Name RevFault) → Gives fault_of (files_at r) answer (files_in v) → IfOk answer (IsHeldAs kind.Tree r)
      → Gives fault_of (value_at r) answer (files_in v >>= λ f. Ok (tree_value f))
  tree_given v (Ok n) e h = ap (λ g. g >>= λ f. Ok (tree_value f)) e ∙ ap Ok (sym (tree_stands name namer r sound n.bytes h).0)
  tree_given v (Err e) i h = fails_first (fault_of e) (files_in v) (λ f. Ok (tree_value f)) (files_in v >>= λ f. Ok (tree_value f)) refl i

  -- a tree is held
  pub tree_is_held : (answer : Result Name RevFault) → IfOk answer (IsHeldAs kind.Tree r) → IfOk answer (IsHeld r)
  tree_is_held (Ok n) h = (kind_held name namer r sound kind.Tree n.bytes h).0
  tree_is_held (Err e) h = tt
