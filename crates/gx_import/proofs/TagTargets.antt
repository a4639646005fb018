-- The commit that a tag is made of.
use Rattle.std.proofs.Common.{◌≡◌, List, [], ◌∷◌, Option, Some, None, Result, Ok, Err, refl, sym, ap, subst, ◌∙◌}
use Rattle.std.specs.Map.{lookup}
use Rattle.std.specs.FinMap.Entries.{put}
use Rattle.gx_model.specs.Texts.RefNames.{tag_ref}
use Rattle.gx_model.specs.declared.faults.Fault.{Fault}
use Rattle.gx_model.specs.declared.objects.Kind.{Kind}
use Rattle.gx_model.specs.declared.objects.Kind.TheVariants as kinds
use Rattle.gx_model.specs.Texts.{Bytes, byte_cmp, same_bytes}
use Rattle.gx_model.specs.Faults.{IsFaultOf, ◌>>=◌}
use Rattle.gx_model.specs.Histories.Values.{Commit, Tag, Value, blob_value, commit_value, tag_value, tree_value}
use Rattle.gx_model.specs.Records.{kind_of, name_of}
use Rattle.gx_model.specs.Histories.{IsIn}
use Rattle.gx_model.specs.Streams.Commands.{CommitIsh, Marked, Named, TagParts}
use Rattle.gx_model.specs.Replay.{State, added, commit_alone, committed, marked, or_branch, revision_value, step_tag}
use Rattle.gx_object.specs.declared.name.Name.{Name}
use Rattle.gx_import.specs.declared.object.Object.{Object}
use Rattle.gx_import.specs.Additions.{Clash, added_by_tag, tag_made, unless_refused}
use Rattle.gx_import.specs.Answers.{AddsAs, GivesAs}
use Rattle.gx_import.specs.Objects.{IsCommitOf, IsOf, name_of_kind}
use Rattle.gx_import.specs.Steps.{or_revision, value_named}
use Rattle.gx_import.proofs.FaultSteps.{fault_then}
use Rattle.gx_import.proofs.PartAnswers.{adds_refused}

-- a tag that was added is marked, and set at its ref
abbrev pub tagged : TagParts → Tag → State → State
tagged t v s = let m : State = marked t.mark (tag_value v) s in record m { tags = put byte_cmp (tag_ref t.name) v m.tags }

-- what is made of its commit
abbrev pub tag_next : TagParts → State → Commit → Result State Fault
tag_next t s c = Ok (tagged t (tag_made c t) (added (tag_value (tag_made c t)) s))

module _ (name : Kind → Bytes → Bytes) where
  pub tag_step : (s : State) (t : TagParts) → step_tag name s t ≡ (committed name commit_alone s t.target >>= tag_next t s)
  tag_step s t = refl

  branch_alone : (o : Option (Option Commit)) (given : Result Value Fault) → or_branch o (given >>= commit_alone) ≡ (or_revision o given >>= commit_alone)
  branch_alone None given = refl
  branch_alone (Some None) given = refl
  branch_alone (Some (Some c)) given = refl

  pub target_by : (s : State) (x : CommitIsh) → committed name commit_alone s x ≡ (value_named name s x >>= commit_alone)
  target_by s (Marked n) = refl
  target_by s (Named x) = branch_alone (lookup (same_bytes x) s.branches) (revision_value name s x)

  -- it is a commit itself
  of_kind : (values : List Value) (n : Name) (k : Kind) (v : Value) → k ≡ kind_of name v → IsIn values v → n.bytes ≡ name_of name v
      → GivesAs (IsCommitOf name values) (name_of_kind (record { kind = k; name = n }) kinds.Commit) (commit_alone v)
  of_kind values n k (blob_value x) e i m = rw e refl
  of_kind values n k (tree_value f) e i m = rw e refl
  of_kind values n k (commit_value c) e i m = rw e (c, refl, record { stands = i; named = m })
  of_kind values n k (tag_value t) e i m = rw e refl

  -- what names no value names no commit
  pub target_refused : (s : State) (x : CommitIsh) (e : Fault) → IsFaultOf e (value_named name s x) → IsFaultOf e (committed name commit_alone s x)
  target_refused s x e h = subst (IsFaultOf e) (sym (target_by s x)) (fault_then e (value_named name s x) commit_alone h)

  -- the name of a commit, or that of another value
  pub target_named : (values : List Value) (s : State) (x : CommitIsh) (v : Value) → value_named name s x ≡ Ok v → (object : Object) → IsOf name values v object → (answer : Result Name Fault) → answer ≡ name_of_kind object kinds.Commit
      → GivesAs (IsCommitOf name values) answer (committed name commit_alone s x)
  target_named values s x v e object is answer same =
      subst (λ a. GivesAs (IsCommitOf name values) a (committed name commit_alone s x)) (sym same)
      (subst (GivesAs (IsCommitOf name values) (name_of_kind object kinds.Commit)) (sym (target_by s x ∙ ap (λ o. o >>= commit_alone) e)) (of_kind values object.name object.kind v is.kind is.stands is.named))

  -- the tag of this commit is refused
  pub tag_refused : {X Z : Type 0} (vs : List Value) (s : State) (t : TagParts) (c : Commit) → committed name commit_alone s t.target ≡ Ok c → (Is : State → X → Type 0) (Be : State → Z → Type 0) (e : Fault)
      → AddsAs (Clash name vs (tag_value (tag_made c t) ∷ [])) Is (Err e) (Ok (added (tag_value (tag_made c t)) s)) → AddsAs (Clash name vs (added_by_tag name s t)) Be (Err e) (step_tag name s t)
  tag_refused vs s t c k Is Be e h =
      subst (λ xs. AddsAs (Clash name vs xs) Be (Err e) (step_tag name s t)) (sym (ap (unless_refused (λ d. tag_value (tag_made d t) ∷ [])) k))
      (subst (AddsAs (Clash name vs (tag_value (tag_made c t) ∷ [])) Be (Err e)) (sym (ap (λ o. o >>= tag_next t s) k))
      (adds_refused (Clash name vs (tag_value (tag_made c t) ∷ [])) (Clash name vs (tag_value (tag_made c t) ∷ [])) Is Be (λ q. q) e (Ok (added (tag_value (tag_made c t)) s)) (λ u. Ok (tagged t (tag_made c t) u)) h))
