-- What a ref's object peels to.
use Rattle.std.proofs.Common.{◌≡◌, List, [], ◌∷◌, None, Some, Ok, refl, sym, ◌∙◌, inl, inr}
use Rattle.std.specs.Prelude.{IsTrue, is_some}
use Rattle.gx_model.specs.declared.objects.Kind.{Kind}
use Rattle.gx_model.specs.declared.objects.Kind.TheVariants as kinds
use Rattle.gx_model.specs.Texts.{Bytes}
use Rattle.gx_model.specs.Histories.Values.{Value, blob_value, commit_value, tag_value, tree_value}
use Rattle.gx_model.specs.Objects.{IsNamer}
use Rattle.gx_model.specs.Records.{kind_of}
use Rattle.gx_model.specs.Histories.{Records, Target}
use Rattle.gx_model.specs.Records.HistoryOf.{commit_of_value, target_in, value_of_name}
use Rattle.gx_model.specs.Records.Growth.{record_named}
use Rattle.gx_model.specs.Records.RecordFaults.{is_held}
use Rattle.gx_model.specs.Records.Sound.{AnyByRecursion, Holds, IsSound, IsTarget}
use Rattle.gx_model.specs.Records.Lookups.{commit_named}
use Rattle.gx_model.specs.Revisions.Denotation.{commit_in}
use Rattle.gx_model.specs.Replay.{peeled_at}
use Rattle.gx_model.proofs.Records.HeldObjects.{any_named}
use Rattle.gx_model.proofs.Records.HeldValues.{held_is, holds_held, kind_held, peeled_none, peeled_to}

-- a ref as what its object's name gives
abbrev pub told : Records → Bytes × Bytes → Bytes × Target
told r ref = (ref.0, target_in (value_of_name r.records ref.1))

module _ (name : Kind → Bytes → Bytes) (namer : IsNamer name) (r : Records) (sound : IsSound name r) where
  -- the object of this name is held, and what it peels to is the commit of its target
  pub record PeelsTo (n : Bytes) : Type 0 where
    pub held : IsTrue (is_some (record_named r.records n))
    pub to : commit_in (value_of_name r.records n) ≡ Ok (peeled_at (target_in (value_of_name r.records n)))

  peels : (v : Value) → (kind_of name v ≡ kinds.Commit → commit_in v ≡ Ok (peeled_at (target_in v))) × (kind_of name v ≡ kinds.Tag → commit_in v ≡ Ok (peeled_at (target_in v)))
  peels (blob_value x) = (λ e. absurd (cc), λ e. absurd (cc))
  peels (tree_value f) = (λ e. absurd (cc), λ e. absurd (cc))
  peels (commit_value c) = (λ e. refl, λ e. refl)
  peels (tag_value t) = (λ e. refl, λ e. refl)

  any_more : {X : Type 0} (P Q : X → Type 0) → ((x : X) → P x → Q x) → (xs : List X) → AnyByRecursion P xs → AnyByRecursion Q xs
  any_more P Q f [] h = h
  any_more P Q f (x ∷ xs) (inl p) = inl (f x p)
  any_more P Q f (x ∷ xs) (inr h) = inr (any_more P Q f xs h)

  -- what a ref may hold peels to a commit
  pub target_peels : (ref n : Bytes) → IsTarget r.records ref n → PeelsTo n
  target_peels ref n (inl h) =
      let k = kind_held name namer r sound kinds.Commit n (holds_held name namer r sound kinds.Commit n h) in
      record { held = k.0; to = (peels (value_of_name r.records n)).0 k.1 }
  target_peels ref n (inr h) =
      let holds : Holds r.records kinds.Tag n = any_more _ (λ held. (held.kind ≡ kinds.Tag) × (held.name ≡ n)) (λ held p. (p.0, p.1)) r.records h in
      let k = kind_held name namer r sound kinds.Tag n (holds_held name namer r sound kinds.Tag n holds) in
      record { held = k.0; to = (peels (value_of_name r.records n)).1 k.1 }

  pub not_unpeeled : (ref n : Bytes) → IsTarget r.records ref n → None ≡ commit_named r.records n → ⊥
  not_unpeeled ref n h e =
      let p = target_peels ref n h in
      let both = sym p.to ∙ peeled_none name namer r sound n p.held e in
      cc both

  -- what is held as a commit is among the records
  pub held_holds : (n : Bytes) → IsTrue (is_held r.records kinds.Commit n) → Holds r.records kinds.Commit n
  held_holds n h =
      let k = kind_held name namer r sound kinds.Commit n h in
      any_named (λ held. (held.kind ≡ kinds.Commit) × (held.name ≡ n)) r.records n _ (held_is name namer r sound n k.0).found (λ e. (k.1, e))

  pub old_holds : (ref n old : Bytes) → IsTarget r.records ref n → Some old ≡ commit_named r.records n → Holds r.records kinds.Commit old
  old_holds ref n old h e = held_holds old (peeled_to name namer r sound n old (target_peels ref n h).held e).1

  pub old_is : (ref n old : Bytes) → IsTarget r.records ref n → Some old ≡ commit_named r.records n → peeled_at (target_in (value_of_name r.records n)) ≡ commit_of_value (value_of_name r.records old)
  old_is ref n old h e =
      let p = target_peels ref n h in
      let both = sym p.to ∙ (peeled_to name namer r sound n old p.held e).0 in
      cc both
