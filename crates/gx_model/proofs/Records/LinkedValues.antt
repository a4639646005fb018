-- The value that a held record's name finds, and what holds of it.
use Rattle.std.proofs.Common.{◌≡◌, true, false, cond, refl, sym, subst, ◌∙◌, List, [], ◌∷◌, ◌++◌, map, inl, inr, append_assoc}
use Rattle.std.specs.Prelude.{T}
use Rattle.std.specs.List.{list_all, AllByRecursion}
use Rattle.std.specs.Bool.{passes}
use Rattle.gx_model.specs.declared.objects.Kind.{Kind}
use Rattle.gx_model.specs.declared.objects.Kind.TheVariants as kind
use Rattle.gx_model.specs.Texts.{Bytes, same_bytes}
use Rattle.gx_model.specs.Histories.Values.{Tag, Value, blob_value, tree_value, commit_value, tag_value, parts, is_proper}
use Rattle.gx_model.specs.Objects.{IsNamer}
use Rattle.gx_model.specs.Records.{kind_of, name_of}
use Rattle.gx_model.specs.Histories.{Record, AreDistinct, IsIn, IsClosedAfter, record_of}
use Rattle.gx_model.specs.Histories.{IsWhole}
use Rattle.gx_model.specs.Records.Sound.{AnyByRecursion}
use Rattle.gx_model.specs.Records.HistoryOf.{Named, value_named, bytes_of_blob, files_of_tree, commit_of_value}
use Rattle.gx_model.proofs.Texts.PathTests.{first, second, is_true, is_same, same_is}
use Rattle.gx_model.proofs.Histories.AddedValues.{in_left, all_keep}
use Rattle.gx_model.proofs.Records.OneHistory.{no_other}

-- a value among proper ones is proper
pub proper_in : (vs : List Value) (v : Value) → T (list_all is_proper vs) → IsIn vs v → T (is_proper v)
proper_in [] v h i = absurd i
proper_in (w ∷ vs) v h i = elim i [ inl e ↦ subst (λ u. T (is_proper u)) e (first _ _ h) | inr k ↦ proper_in vs v (second (is_proper w) _ h) k ]

-- the parts of a value stand in the list
pub parts_after : (before vs : List Value) (v : Value) → IsClosedAfter before vs → IsIn vs v → AllByRecursion (IsIn (before ++ vs)) (parts v)
parts_after before [] v c i = absurd i
parts_after before (w ∷ vs) v c i =
    elim i [
      | inl e ↦ subst (λ u. AllByRecursion (IsIn (before ++ w ∷ vs)) (parts u)) e (all_keep before (before ++ w ∷ vs) (λ u k. in_left before (w ∷ vs) u k) (parts w) c.1)
      | inr k ↦ subst (λ us. AllByRecursion (IsIn us) (parts v)) (append_assoc before (w ∷ []) vs) (parts_after (before ++ w ∷ []) vs v c.2 k)
    ]

-- the parts of a value stand in the list
pub parts_in : (vs : List Value) (v : Value) → IsWhole vs → IsIn vs v → AllByRecursion (IsIn vs) (parts v)
parts_in vs v h i = parts_after [] vs v h.closed i

module _ (name : Kind → Bytes → Bytes) where
  -- values by their names
  abbrev pub named : List Value → Named
  named vs = map (λ v. (name_of name v, v)) vs

  -- a value of kind blob is its bytes
  pub is_blob : (v : Value) → kind_of name v ≡ kind.Blob → v ≡ blob_value (bytes_of_blob v)
  is_blob (blob_value x) e = refl
  is_blob (tree_value f) e = absurd (cc)
  is_blob (commit_value c) e = absurd (cc)
  is_blob (tag_value t) e = absurd (cc)

  -- a value of kind tree is its file map
  pub is_tree : (v : Value) → kind_of name v ≡ kind.Tree → v ≡ tree_value (files_of_tree v)
  is_tree (blob_value x) e = absurd (cc)
  is_tree (tree_value f) e = refl
  is_tree (commit_value c) e = absurd (cc)
  is_tree (tag_value t) e = absurd (cc)

  -- a value of kind commit is its commit
  pub is_commit : (v : Value) → kind_of name v ≡ kind.Commit → v ≡ commit_value (commit_of_value v)
  is_commit (blob_value x) e = absurd (cc)
  is_commit (tree_value f) e = absurd (cc)
  is_commit (commit_value c) e = refl
  is_commit (tag_value t) e = absurd (cc)

  -- a value's tag, or else this one
  abbrev pub tag_in : Tag → Value → Tag
  tag_in d (tag_value t) = t
  tag_in d _ = d

  -- a value of kind tag is its tag
  pub is_tag : (d : Tag) (v : Value) → kind_of name v ≡ kind.Tag → v ≡ tag_value (tag_in d v)
  is_tag d (blob_value x) e = absurd (cc)
  is_tag d (tree_value f) e = absurd (cc)
  is_tag d (commit_value c) e = absurd (cc)
  is_tag d (tag_value t) e = refl

  -- a held record's name finds its value
  pub found : IsNamer name → (P : Record → Type 0) (n : Bytes) → ((r : Record) → P r → r.name ≡ n) → (vs : List Value) → AreDistinct (map (name_of name) vs) → AnyByRecursion P (map (record_of name) vs)
      → IsIn vs (value_named (named vs) n) × P (record_of name (value_named (named vs) n))
  found m P n f [] d h = absurd h
  found m P n f (v ∷ vs) d h =
      elim (same_bytes n (name_of name v)) as (λ b. same_bytes n (name_of name v) ≡ b → IsIn (v ∷ vs) (cond b v (value_named (named vs) n)) × P (record_of name (cond b v (value_named (named vs) n)))) [
        | true ↦ λ k. (inl refl, elim h [ inl p ↦ p | inr q ↦ absurd (let r = found m P n f vs d.1 q in no_other name m (name_of name v) vs (value_named (named vs) n) d.0 r.0 (sym (same_is n (name_of name v) (passes _ k)) ∙ sym (f (record_of name (value_named (named vs) n)) r.1))) ])
        | false ↦ λ k. elim h [
          | inl p ↦ absurd (let e = is_true _ (is_same n (name_of name v) (sym (f (record_of name v) p))) in let l = sym e ∙ k in (cc))
          | inr q ↦ let r = found m P n f vs d.1 q in (inr r.0, r.1)
        ]
      ] refl

  -- what stands in the list is held
  pub holds : (P : Record → Type 0) (vs : List Value) (v : Value) → IsIn vs v → P (record_of name v) → AnyByRecursion P (map (record_of name) vs)
  holds P [] v i p = absurd i
  holds P (w ∷ vs) v i p = elim i [ inl e ↦ inl (subst (λ u. P (record_of name u)) (sym e) p) | inr k ↦ inr (holds P vs v k p) ]
