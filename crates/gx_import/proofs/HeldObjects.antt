-- Objects that are held, and the values of the history that they are.
use Rattle.std.proofs.Common.{◌≡◌, Some, None, Ok, Err, sym, ap, subst, ◌∙◌}
use Rattle.gx_model.specs.declared.objects.Kind.{Kind}
use Rattle.gx_model.specs.declared.faults.Fault.TheVariants as fault
use Rattle.gx_model.specs.Texts.{Bytes}
use Rattle.gx_model.specs.Histories.Values.{Commit, Value}
use Rattle.gx_model.specs.Objects.{IsNamer}
use Rattle.gx_model.specs.Records.{name_of}
use Rattle.gx_model.specs.Histories.{Records}
use Rattle.gx_model.specs.Records.HistoryOf.{commit_of_value, history_of, value_of_name}
use Rattle.gx_model.specs.Records.Lookups.{commit_named}
use Rattle.gx_model.specs.Records.Sound.{IsSound}
use Rattle.gx_model.specs.Revisions.Denotation.{commit_in}
use Rattle.gx_object.specs.declared.name.Name.{Name}
use Rattle.gx_model.proofs.Records.HeldValues.{commit_held, commit_stands, held_is, kind_held, peeled_none, peeled_to, value_held}
use Rattle.gx_import.specs.declared.object.Object.{Object}
use Rattle.gx_import.specs.Objects.{IsCommitOf, IsOf}

module _ (name : Kind → Bytes → Bytes) (namer : IsNamer name) (r : Records) (sound : IsSound name r) where
  -- the commit that an object gives
  pub commit_found : (value : Value) (object : Object) → IsOf name (history_of r).values value object → (called : Name) → Some called.bytes ≡ commit_named r.records object.name.bytes
      → (revision : Commit) × (commit_in value ≡ Ok revision) × IsCommitOf name (history_of r).values revision called
  commit_found value object is called e =
      let v = value_held name namer r sound object.kind value object.name.bytes is.stands (sym is.kind) is.named in
      let h = (kind_held name namer r sound object.kind object.name.bytes v.0).0 in
      let p = peeled_to name namer r sound object.name.bytes called.bytes h e in
      let s = commit_stands name namer r sound called.bytes p.1 in
      let l = held_is name namer r sound called.bytes (commit_held name namer r sound called.bytes p.1) in
      (commit_of_value (value_of_name r.records called.bytes), subst (λ u. commit_in u ≡ Ok (commit_of_value (value_of_name r.records called.bytes))) v.1 p.0, record { stands = s.1; named = sym l.named ∙ ap (name_of name) s.0 })

  -- an object that gives none
  pub commit_lacking : (value : Value) (object : Object) → IsOf name (history_of r).values value object → None ≡ commit_named r.records object.name.bytes → commit_in value ≡ Err fault.WrongKind
  commit_lacking value object is e =
      let v = value_held name namer r sound object.kind value object.name.bytes is.stands (sym is.kind) is.named in
      let h = (kind_held name namer r sound object.kind object.name.bytes v.0).0 in
      subst (λ u. commit_in u ≡ Err fault.WrongKind) v.1 (peeled_none name namer r sound object.name.bytes h e)
