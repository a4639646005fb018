-- The body of a tree, without its fuel.
use Rattle.std.proofs.Common.{◌≡◌, ℕ, zero, suc, ◌≤◌, true, false, cond, refl, sym, ap, ◌∙◌, arith, List, [], ◌∷◌, length, drop, map}
use Rattle.std.specs.Prelude.{◌&&◌}
use Rattle.std.specs.List.{filter}
use Rattle.gx_model.specs.declared.objects.Kind.{Kind}
use Rattle.gx_model.specs.declared.objects.Kind.TheVariants as kind
use Rattle.gx_model.specs.Texts.{Bytes, same_bytes}
use Rattle.gx_model.specs.Texts.Paths.{Path, begins}
use Rattle.gx_model.specs.Histories.Files.{FileMap, first_components, sub_map, file_at, depth}
use Rattle.gx_model.specs.Records.{node, entry, entries, entries_to, tree_entries, tree_body}
use Rattle.gx_model.specs.Objects.{tree_text}

module _ {X : Type 0} where
  -- the sub-map is one less deep
  pub depth_sub : (c : Bytes) (n : ℕ) (f : List (Path × X)) → depth f ≤ suc n → depth (sub_map f (c ∷ [])) ≤ n
  depth_sub c n [] h = omega arith
  depth_sub c n (e ∷ es) h = by e.0 (omega arith) (depth_sub c n es (omega arith))
    where
      by : (p : Path) → length p ≤ suc n → depth (sub_map es (c ∷ [])) ≤ n → depth (sub_map ((p, e.1) ∷ es) (c ∷ [])) ≤ n
      by [] k r = r
      by (d ∷ p) k r = elim (same_bytes c d && true) as (λ b. depth (map (λ (e : Path × X). let q : Path × X = (drop 1 e.0, e.1) in q) (cond b ((d ∷ p, e.1) ∷ filter (λ e. begins (c ∷ []) e.0) es) (filter (λ e. begins (c ∷ []) e.0) es))) ≤ n) [ true ↦ omega arith | false ↦ r ]

  -- below a component of a map with no components is nothing
  pub flat_sub : (c : Bytes) (f : List (Path × X)) → depth f ≤ 0 → sub_map f (c ∷ []) ≡ []
  flat_sub c [] h = refl
  flat_sub c (e ∷ es) h = by e.0 (omega arith) (flat_sub c es (omega arith))
    where
      by : (p : Path) → length p ≤ 0 → sub_map es (c ∷ []) ≡ [] → sub_map ((p, e.1) ∷ es) (c ∷ []) ≡ []
      by [] k r = r
      by (d ∷ p) k r = absurd (omega arith)

module _ (name : Kind → Bytes → Bytes) where
  no_entries : (n : ℕ) → entries_to name n [] ≡ []
  no_entries zero = refl
  no_entries (suc n) = refl

  -- entries go by the names of the sub-maps alone
  pub alike : (m n : FileMap Bytes → Bytes) (f : FileMap Bytes) → ((c : Bytes) → m (sub_map f (c ∷ [])) ≡ n (sub_map f (c ∷ []))) → tree_entries name m f ≡ tree_entries name n f
  alike m n f h = λ i. map (λ c. entry name c (node name (file_at f (c ∷ [])) (h c i))) (first_components f)

  flat_names : (m : ℕ) (f : FileMap Bytes) (c : Bytes) → depth f ≤ 0 → name kind.Tree [] ≡ name kind.Tree (tree_text (entries_to name m (sub_map f (c ∷ []))))
  flat_names m f c h = ap (λ es. name kind.Tree (tree_text es)) (sym (no_entries m) ∙ ap (entries_to name m) (sym (flat_sub c f h)))

  -- more depth than there is changes nothing
  pub fuel : (m n : ℕ) (f : FileMap Bytes) → depth f ≤ m → depth f ≤ n → entries_to name m f ≡ entries_to name n f
  fuel zero zero f h k = refl
  fuel zero (suc n) f h k = alike (λ g. name kind.Tree []) (λ g. name kind.Tree (tree_text (entries_to name n g))) f (λ c. flat_names n f c h)
  fuel (suc m) zero f h k = alike (λ g. name kind.Tree (tree_text (entries_to name m g))) (λ g. name kind.Tree []) f (λ c. sym (flat_names m f c k))
  fuel (suc m) (suc n) f h k =
      alike (λ g. name kind.Tree (tree_text (entries_to name m g))) (λ g. name kind.Tree (tree_text (entries_to name n g))) f
      (λ c. ap (λ es. name kind.Tree (tree_text es)) (fuel m n (sub_map f (c ∷ [])) (depth_sub c m f h) (depth_sub c n f k)))

  unrolled_to : (n : ℕ) (f : FileMap Bytes) → depth f ≤ n → entries_to name n f ≡ tree_entries name (λ g. name kind.Tree (tree_body name g)) f
  unrolled_to zero f h = alike (λ g. name kind.Tree []) (λ g. name kind.Tree (tree_body name g)) f (λ c. flat_names (depth (sub_map f (c ∷ []))) f c h)
  unrolled_to (suc n) f h =
      alike (λ g. name kind.Tree (tree_text (entries_to name n g))) (λ g. name kind.Tree (tree_body name g)) f
      (λ c. ap (λ es. name kind.Tree (tree_text es)) (fuel n (depth (sub_map f (c ∷ []))) (sub_map f (c ∷ [])) (depth_sub c n f h) (omega arith)))

  -- the entries of a tree by the names of its sub-maps
  pub unrolled : (f : FileMap Bytes) → entries name f ≡ tree_entries name (λ g. name kind.Tree (tree_body name g)) f
  unrolled f = unrolled_to (depth f) f (omega arith)
