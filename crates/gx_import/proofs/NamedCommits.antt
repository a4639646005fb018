-- What a commit-ish names among the branches, and otherwise as a revision.
use Rattle.std.proofs.Common.{◌≡◌, Option, Some, None, Result, refl, sym, subst}
use Rattle.std.specs.Map.{lookup}
use Rattle.gx_model.specs.declared.objects.Kind.{Kind}
use Rattle.gx_model.specs.Faults.{Given, ◌>>=◌}
use Rattle.gx_model.specs.Texts.{Bytes, same_bytes}
use Rattle.gx_model.specs.Histories.Values.{Commit, Value}
use Rattle.gx_model.specs.Streams.Commands.{Named}
use Rattle.gx_model.specs.Histories.{Records}
use Rattle.gx_model.specs.Records.HistoryOf.{history_of}
use Rattle.gx_model.specs.Revisions.Denotation.{value_denoted}
use Rattle.gx_model.specs.Revisions.{revision_of}
use Rattle.gx_model.specs.Replay.{State, revision_value}
use Rattle.std.specs.Prelude.{List}
use Rattle.gx_import.specs.declared.object.Object.{Object}
use Rattle.gx_import.specs.declared.branches.Tip.{Tip}
use Rattle.gx_import.specs.declared.tables.Tables.{Tables}
use Rattle.gx_model.specs.declared.faults.Fault.{Fault}
use Rattle.gx_import.specs.Answers.{GivesAs}
use Rattle.gx_import.specs.Objects.{IsCommitOf, IsOf, branch_object}
use Rattle.gx_import.specs.Rows.{AreBoth}
use Rattle.gx_import.specs.Standing.{IsTip, Stands}
use Rattle.gx_import.specs.Steps.{or_revision, value_named}
use Rattle.gx_import.proofs.RelatedRows.{related_found}
use Rattle.gx_object.specs.declared.name.Name.{Name}

module _ (name : Kind → Bytes → Bytes) where
  -- a branch at a commit, or at none
  branch_gives : (values : List Value) (made : Option Commit) (called : Option Name) → AreBoth (IsCommitOf name values) made called → (given : Given Value)
      → GivesAs (IsOf name values) (branch_object called) (or_revision (Some made) given)
  branch_gives values None None h given = refl
  branch_gives values None (Some n) h given = absurd h
  branch_gives values (Some c) None h given = absurd h
  branch_gives values (Some c) (Some n) h given = (_, refl, record { stands = h.stands; kind = refl; named = h.named })

-- no branch of this name
pub none_found : (name : Kind → Bytes → Bytes) (A : Type 0) (values : List Value) (o : Option (Option Commit)) → AreBoth (IsTip name {A = A} values) o None → o ≡ None
none_found name A values None h = refl
none_found name A values (Some made) h = absurd h

module _ (name : Kind → Bytes → Bytes) {A : Type 0} where
  found_gives : (values : List Value) (o : Option (Option Commit)) (tip : Tip A) → AreBoth (IsTip name values) o (Some tip) → (given : Given Value)
      → GivesAs (IsOf name values) (branch_object tip.commit) (or_revision o given)
  found_gives values None tip h given = absurd h
  found_gives values (Some made) tip h given = branch_gives name values made tip.commit h.commit given

  -- a text that names a branch
  pub branch_named : (r : Records) (tables : Tables A) (s : State) → Stands name r tables s → (text : Bytes) (tip : Tip A) → Some tip ≡ lookup (same_bytes text) tables.branches
      → GivesAs (IsOf name s.history.values) (branch_object tip.commit) (value_named name s (Named text))
  branch_named r tables s h text tip e =
      found_gives s.history.values (lookup (same_bytes text) s.branches) tip
      (subst (AreBoth (IsTip name s.history.values) (lookup (same_bytes text) s.branches)) (sym e) (related_found (IsTip name s.history.values) (same_bytes text) s.branches tables.branches h.branches))
      (revision_value name s text)

  -- and one that names none
  pub revision_named : (r : Records) (tables : Tables A) (s : State) → Stands name r tables s → (text : Bytes) → None ≡ lookup (same_bytes text) tables.branches
      → (result : Result Object Fault) → GivesAs (IsOf name (history_of r).values) result (revision_of text >>= λ v. value_denoted name (history_of r) v)
      → GivesAs (IsOf name s.history.values) result (value_named name s (Named text))
  revision_named r tables s h text e result k =
      let none = none_found name A s.history.values (lookup (same_bytes text) s.branches)
      (subst (AreBoth (IsTip name s.history.values) (lookup (same_bytes text) s.branches)) (sym e) (related_found (IsTip name s.history.values) (same_bytes text) s.branches tables.branches h.branches)) in
      subst (λ o. GivesAs (IsOf name s.history.values) result (or_revision o (revision_value name s text))) (sym none)
      (subst (λ z. GivesAs (IsOf name z.values) result (revision_of text >>= λ v. value_denoted name z v)) h.history k)
